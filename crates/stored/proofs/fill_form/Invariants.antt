-- `stored::fill_form` meets its contract: the room is filled from the front. Assumes nothing.
use lib.ListN.{length}
use Rattle.loops.specs.Front.{Front}
use Rattle.std.specs.Option.{option_copied}
use Rattle.stored.specs.Bytes.{padded}
use Rattle.stored.specs.Laid.{laid}
use Rattle.stored.proofs.fill_form.Given as goal

abbrev pub invariant-loop-i : goal.invariant-loop-i
invariant-loop-i l = Front (padded (laid l.head l.list (option_copied l.order)) (length l.initial.out)) l.initial.out l.out l.i
