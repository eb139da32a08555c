-- `rest::order_of` meets its contract: the places from one on are in the room. Assumes nothing.
use lib.ListN.{length}
use Rattle.rest.specs.Columns.{Placing}
use Rattle.rest.proofs.order_of.Given as goal

abbrev pub invariant-loop-k : goal.invariant-loop-k
invariant-loop-k l = Placing (length l.c) l.c l.d l.initial.order l.k l.order
