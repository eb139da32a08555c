-- `rest::phase_five` meets its contract. Assumes nothing.
use mathlib.Core.Path.{refl, ◌∙◌}
use Rattle.tally.specs.Book.{book_of}
use Rattle.rest.specs.Again.{rising_start, rising_word, rising_next, rising_done}
use Rattle.rest.proofs.phase_five.Goals as goal

pub loop-k-init : goal.loop-k-init
loop-k-init c = record { same_room = refl; recorded = rw c.next_phase.ensures.begun (rising_start c.requires) }

pub again-requires : goal.again-requires
again-requires c = rising_word c.loop-k.invariant.recorded c.loop-k-test.true

pub loop-k-preserved : goal.loop-k-preserved
loop-k-preserved c =
    record {
      same_room = c.again.ensures.same_room ∙ c.loop-k.invariant.same_room;
      recorded = rising_next c.loop-k.invariant.recorded c.loop-k-test.true c.again.ensures.recorded;
    }

pub returns-clause-recorded : goal.returns-clause-recorded
returns-clause-recorded c = rising_done (book_of c.args.journal.now) c.next_phase.ensures.begun c.loop-k.invariant.recorded c.loop-k-test.false
