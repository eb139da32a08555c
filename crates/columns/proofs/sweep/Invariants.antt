-- `columns::sweep` meets its contract. Assumes nothing.
use Rattle.columns.specs.Sweep.{Swept}
use Rattle.grid.specs.Grid.{bit}
use Rattle.columns.proofs.sweep.Given as goal

abbrev pub invariant-loop-c : goal.invariant-loop-c
invariant-loop-c l = Swept (bit l.g.l l.g.bits.now l.x) l.g.l l.initial.v l.k l.v l.c
