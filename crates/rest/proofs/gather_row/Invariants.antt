-- `rest::gather_row` meets its contract: the row has what it gets up to a place. Assumes nothing.
use lib.ListN.{length}
use Rattle.std.proofs.Common.{◌≡◌}
use Rattle.tally.specs.Book.{book_of}
use Rattle.rest.specs.Gather.{Passing}
use Rattle.rest.proofs.gather_row.Given as goal

abbrev pub invariant-loop-q : goal.invariant-loop-q
invariant-loop-q l =
    record {
      same_room : l.journal.room.ghost_name ≡ l.initial.journal.room.ghost_name;
      recorded : Passing l.g.bits.now l.g.l l.x l.cs l.ys (book_of l.initial.journal) (length l.yielded) (book_of l.journal);
    }
