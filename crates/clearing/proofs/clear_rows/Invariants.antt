-- `clearing::clear_rows` meets its contract: what is left to record of ys. Assumes nothing.
use Rattle.std.proofs.Common.{◌≡◌}
use Rattle.loops.specs.Entry.{entry_at}
use Rattle.tally.specs.Book.{book_of}
use Rattle.clearing.specs.Clear.{Clearing}
use Rattle.clearing.proofs.clear_rows.Given as goal

abbrev pub invariant-loop-y : goal.invariant-loop-y
invariant-loop-y l =
    record {
      same_room : l.journal.room.ghost_name ≡ l.initial.journal.room.ghost_name;
      clearing : Clearing (λ y. entry_at l.g.l l.g.bits.now y l.q) l.x l.ys (book_of l.initial.journal) l.y-index (book_of l.journal);
    }
