-- `columns::last_zero` meets its contract. Assumes nothing.
use Rattle.columns.specs.Sweep.{Ones}
use Rattle.grid.specs.Grid.{bit}
use Rattle.columns.proofs.last_zero.Given as goal

abbrev pub invariant-loop-z : goal.invariant-loop-z
invariant-loop-z l = Ones l.v (bit l.g.l l.g.bits.now l.x) l.z
