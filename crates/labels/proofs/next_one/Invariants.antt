use Rattle.labels.specs.Marking.{Seeking}
use Rattle.grid.specs.Grid.{bit}
use Rattle.labels.proofs.next_one.Given as goal

abbrev pub invariant-loop-p : goal.invariant-loop-p
invariant-loop-p l = Seeking (bit l.g.l l.g.bits.now l.y) l.v l.k l.p
