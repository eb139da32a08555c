-- `stored::fill_order` meets its contract: the room is filled from the front. Assumes nothing.
use lib.ListN.{length}
use Rattle.loops.specs.Front.{Front}
use Rattle.stored.specs.Bytes.{padded}
use Rattle.stored.proofs.fill_order.Given as goal

abbrev pub invariant-loop-i : goal.invariant-loop-i
invariant-loop-i l = Front (padded l.order (length l.initial.room)) l.initial.room l.room l.i
