use Rattle.std.proofs.Common.{◌+◌}
use Rattle.loops.specs.Part.{rest_part}
use Rattle.labels.specs.Marking.{note-next, note_end}
use Rattle.labels.proofs.Labels.note_cols.Goals as goal

pub loop-k-preserved : goal.loop-k-preserved
loop-k-preserved c = (cc, note-next c.loop-k.invariant.1 c.loop-k-test.true (rest_part c.args.cs.now (c.loop-k.k + 1)) c.note_col.ensures.marked)

pub returns-clause-marked : goal.returns-clause-marked
returns-clause-marked c = note_end c.loop-k.invariant.1 c.loop-k-test.false
