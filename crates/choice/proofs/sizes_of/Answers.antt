use Rattle.std.proofs.Common.{arith}
use Rattle.choice.specs.Sizes.{size_fits}
use Rattle.choice.proofs.sizes_of.Goals as goal

pub overflow_add-sizes : goal.overflow_add-sizes
overflow_add-sizes c = omega (arith, size_fits c.loop-q.invariant c.loop-q-test.true (omega (arith, c.requires.labelled c.loop-q.q-index c.loop-q-test.true, c.clear.ensures.long)))
