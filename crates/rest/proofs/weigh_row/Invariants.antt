-- `rest::weigh_row` meets its contract: the products from a place on are summed. Assumes nothing.
use Rattle.rest.specs.Vector.{Weighed}
use Rattle.rest.proofs.weigh_row.Given as goal

abbrev pub invariant-loop-k : goal.invariant-loop-k
invariant-loop-k l = Weighed l.row l.cs l.vector l.k l.sum.value
