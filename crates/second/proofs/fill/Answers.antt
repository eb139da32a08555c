-- `second::fill` meets its contract. The invariant: the rows passed are filled. Assumes nothing.
use Rattle.second.specs.Fill.{filled_next, filled_end}
use Rattle.second.proofs.fill.Goals as goal

pub loop-y-preserved : goal.loop-y-preserved
loop-y-preserved c = filled_next c.loop-y-test.true c.loop-y.invariant c.fill_combined.ensures

pub returns : goal.returns
returns c = filled_end c.loop-y-test.false c.loop-y.invariant
