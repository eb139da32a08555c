use Rattle.rule.specs.Permitted.{count}
use Rattle.grid.specs.Grid.{bit, Filled}
use lib.ListN.{length}
use Rattle.figures.proofs.counts.Given as goal

abbrev pub invariant-loop-x : goal.invariant-loop-x
invariant-loop-x l = Filled (count (bit l.g.l l.g.bits.now) l.v) (length l.initial.ones) l.x l.ones
