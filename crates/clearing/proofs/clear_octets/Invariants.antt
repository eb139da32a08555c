-- `clearing::clear_octets` meets its contract: what is left to record of the octet rows. Assumes nothing.
use Rattle.std.proofs.Common.{◌≡◌}
use Rattle.tally.specs.Book.{book_of}
use Rattle.clearing.specs.Clear.{Multiples}
use Rattle.clearing.proofs.clear_octets.Given as goal

abbrev pub invariant-loop-j : goal.invariant-loop-j
invariant-loop-j l =
    record {
      same_room : l.journal.room.ghost_name ≡ l.initial.journal.room.ghost_name;
      multiples : Multiples l.l l.s l.octets l.q l.x l.h (book_of l.initial.journal) l.j (book_of l.journal);
    }
