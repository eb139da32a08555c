-- `rest::phase_four` meets its contract: the chosen rows up to a place have what they get. Assumes nothing.
use Rattle.std.proofs.Common.{◌≡◌}
use Rattle.tally.specs.Book.{book_of}
use Rattle.rest.specs.Gather.{Choosing}
use Rattle.rest.proofs.phase_four.Given as goal

abbrev pub invariant-loop-x : goal.invariant-loop-x
invariant-loop-x l =
    record {
      same_room : l.journal.room.ghost_name ≡ l.initial.journal.room.ghost_name;
      recorded : Choosing l.g.bits.now l.g.l l.i l.c l.d (book_of l.initial.journal) l.x-index (book_of l.journal);
    }
