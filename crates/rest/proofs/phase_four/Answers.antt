-- `rest::phase_four` meets its contract: the chosen rows up to a place have what they get. Assumes nothing.
use mathlib.Core.Path.{◌∙◌}
use Rattle.tally.specs.Book.{book_of}
use Rattle.rest.specs.Gather.{choosing_row, choosing_next, choosing_done}
use Rattle.rest.proofs.phase_four.Goals as goal

pub gather_row-requires : goal.gather_row-requires
gather_row-requires c = choosing_row c.loop-x.invariant.recorded c.loop-x-test.true

pub loop-x-preserved : goal.loop-x-preserved
loop-x-preserved c =
    record {
      same_room = c.gather_row.ensures.same_room ∙ c.loop-x.invariant.same_room;
      recorded = choosing_next c.loop-x.invariant.recorded c.loop-x-test.true c.gather_row.ensures.recorded;
    }

pub returns-clause-recorded : goal.returns-clause-recorded
returns-clause-recorded c = choosing_done (book_of c.args.journal.now) c.next_phase.ensures.begun c.loop-x.invariant.recorded c.loop-x-test.false
