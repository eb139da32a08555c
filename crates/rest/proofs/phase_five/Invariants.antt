-- `rest::phase_five` meets its contract. Assumes nothing.
use Rattle.std.proofs.Common.{◌≡◌}
use Rattle.tally.specs.Book.{book_of}
use Rattle.rest.specs.Again.{Rising}
use Rattle.rest.proofs.phase_five.Given as goal

abbrev pub invariant-loop-k : goal.invariant-loop-k
invariant-loop-k l =
    record {
      same_room : l.journal.room.ghost_name ≡ l.initial.journal.room.ghost_name;
      recorded : Rising l.marks l.n (book_of l.initial.journal) l.k (book_of l.journal);
    }
