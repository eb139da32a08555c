-- `second::clear_above` meets its contract. The invariant: for the rows passed the operations are noted. Assumes nothing.
use Rattle.std.proofs.Common.{◌≡◌}
use Prim.Native.Nat.{ℕ, ◌-◌}
use lib.ListN.{take}
use Rattle.phases.specs.One.{clears}
use Rattle.phases.specs.Two.{at}
use Rattle.tally.specs.Book.{book_of}
use Rattle.second.specs.Store.{matrix}
use Rattle.second.specs.Backward.{Cleared}
use Rattle.second.proofs.clear_above.Given as goal

abbrev pub invariant-loop-y : goal.invariant-loop-y
invariant-loop-y l =
    record {
      same_room : l.journal.room.ghost_name ≡ l.initial.journal.room.ghost_name;
      cleared : Cleared (clears (λ (z : ℕ). at (matrix l.area l.work) z (l.q - l.area.i)) l.x (take l.y-index l.ys)) (book_of l.initial.journal) (book_of l.journal);
    }
