-- `order::rows_fine` meets its contract: what is left to look at decides the same. Assumes nothing.
use Rattle.std.proofs.Common.{◌≡◌, length}
use Rattle.oplist.specs.Check.{rows_fine}
use Rattle.oplist.proofs.order.rows_fine.Given as goal

abbrev pub invariant-loop-x : goal.invariant-loop-x
invariant-loop-x g l = rows_fine l.m (g.T.Entry.rows l.order) ≡ rows_fine l.m (g.T.Entry.rows l.rest)

abbrev pub decreases-loop-x : goal.decreases-loop-x
decreases-loop-x g l = length l.rest
