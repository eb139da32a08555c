use Rattle.std.proofs.Common.{sym, ◌∙◌}
use Rattle.labels.specs.Marking.{as_long, noted-two}
use Rattle.labels.proofs.Labels.note_col.Goals as goal

pub add_row-requires : goal.add_row-requires
add_row-requires c = (c.requires.0.at _ c.loop-y-test.true, c.requires.4, noted-two _ _ c.requires.5 c.loop-y-test.true (sym c.is_noted.ensures ∙ c.if-is_noted.true), c.loop-y.invariant.1.ready, as_long c.requires.7 c.loop-y.invariant.1.kept)
