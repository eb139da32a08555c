-- `second::clear_below` meets its contract. The invariant: the rows passed are cleared, as often as the store at entry says. Assumes nothing.
use Rattle.std.proofs.Common.{◌≡◌}
use Prim.Native.Nat.{ℕ, ◌-◌}
use lib.ListN.{take}
use Rattle.phases.specs.One.{clears}
use Rattle.phases.specs.Two.{at}
use Rattle.tally.specs.Book.{book_of}
use Rattle.second.specs.Store.{matrix}
use Rattle.second.specs.Clear.{Performed}
use Rattle.second.proofs.clear_below.Given as goal

abbrev pub invariant-loop-y : goal.invariant-loop-y
invariant-loop-y l =
    record {
      same_room : l.journal.room.ghost_name ≡ l.initial.journal.room.ghost_name;
      performed : Performed l.area.m l.area.l l.area.i (clears (λ (z : ℕ). at (matrix l.area l.initial.work) z (l.q - l.area.i)) l.x (take l.y-index l.ys)) l.initial.work (book_of l.initial.journal) l.work (book_of l.journal);
    }
