-- `rest::mark` meets its contract: the rows up to a place are marked. Assumes nothing.
use lib.ListN.{length}
use Rattle.rest.specs.Marks.{Marking}
use Rattle.rest.proofs.mark.Given as goal

abbrev pub invariant-loop-x : goal.invariant-loop-x
invariant-loop-x l = Marking l.xs (length l.initial.marks) l.x-index l.marks
