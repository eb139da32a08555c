-- `stored::fill_list` meets its contract: the room is filled from the front. Assumes nothing.
use lib.ListN.{length}
use Rattle.loops.specs.Front.{Front}
use Rattle.stored.specs.Bytes.{padded}
use Rattle.stored.specs.Form.{words_at}
use Rattle.stored.proofs.fill_list.Given as goal

abbrev pub invariant-loop-i : goal.invariant-loop-i
invariant-loop-i l = Front (padded (words_at l.form 13 l.n) (length l.initial.list)) l.initial.list l.list l.i
