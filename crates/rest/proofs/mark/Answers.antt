-- `rest::mark` meets its contract: the rows up to a place are marked. Assumes nothing.
use native.Mathlib.Omega.{arith}
use Rattle.rest.specs.Marks.{marking_next}
use Rattle.rest.proofs.mark.Goals as goal

pub loop-x-preserved : goal.loop-x-preserved
loop-x-preserved c = marking_next c.loop-x.invariant (omega arith) (omega (arith, c.requires.at c.loop-x.x-index (omega arith)))
