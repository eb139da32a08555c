-- `second::apply_list` meets its contract. The invariant: what is left of the list makes the whole from here. Assumes nothing.
use Rattle.second.specs.Listed.{Applying}
use Rattle.second.proofs.apply_list.Given as goal

abbrev pub invariant-loop-w : goal.invariant-loop-w
invariant-loop-w l = Applying l.area.m l.area.l l.area.i l.list l.initial.work l.w-index l.work
