use Rattle.loops.specs.Part.{part}
use Rattle.stepping.specs.Due.{under_out, under_rest, pivot_low, rows-below, figured_below, right_then, shrunk_then}
use Rattle.labels.specs.Marking.{as_long}
use Rattle.stepping.proofs.figures.Goals as goal

pub next-requires : goal.next-requires
unfolding part
next-requires c = (c.requires.rows, under_out c.requires, c.requires.figured, c.requires.sound, pivot_low c.requires, c.requires.first)

pub note_col-requires : goal.note_col-requires
unfolding part
note_col-requires c = (rows-below c.requires, figured_below c.requires c.next.ensures.done.same, pivot_low c.requires, under_out c.requires, under_rest c.requires, right_then c.requires c.next.ensures.done, c.requires.ready, c.requires.wide)

pub note_cols-requires : goal.note_cols-requires
unfolding part
note_cols-requires c = (rows-below c.requires, figured_below c.requires c.next.ensures.done.same, under_out c.requires, under_rest c.requires, right_then c.requires c.next.ensures.done, c.note_col.ensures.marked.ready, as_long c.requires.wide c.note_col.ensures.marked.kept)

pub returns-clause-shrunk : goal.returns-clause-shrunk
unfolding part
returns-clause-shrunk c = shrunk_then c.requires c.next.ensures.done c.note_col.ensures.marked c.note_cols.ensures.marked
