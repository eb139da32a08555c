use Rattle.std.proofs.Common.{◌≡◌, ◌-◌, length}
use Rattle.tally.specs.Book.{book_of}
use Rattle.stepping.specs.Turns.{as_shape}
use Rattle.firstphase.specs.Ended.{Looping}
use Rattle.firstphase.proofs.steps.Given as goal

abbrev pub invariant-loop-st : goal.invariant-loop-st
invariant-loop-st l =
    record {
      same_room : l.journal.room.ghost_name ≡ l.initial.journal.room.ghost_name;
      looping : Looping (as_shape l.z) l.bits l.octets (book_of l.initial.journal) (length l.initial.sizes) l.c l.d l.ones l.singles.room.now l.labels.of.now l.sizes l.st.i l.st.u l.singles.used l.labels.next (book_of l.journal);
    }

abbrev pub decreases-loop-st : goal.decreases-loop-st
decreases-loop-st l = l.z.l - l.st.i
