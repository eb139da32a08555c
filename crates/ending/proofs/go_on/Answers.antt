-- `go_on` meets its contract. Assumes nothing.
use mathlib.Core.Path.{◌∙◌}
use Rattle.second.specs.Whole.{reduced_length}
use Rattle.ending.specs.After.{prepared_is}
use Rattle.ending.specs.Then.{reached_is, stuck_is}
use Rattle.ending.specs.Ends.{blank-room}
use Rattle.ending.specs.Stops.{ending_ran, valuing_is, stuck_full, stuck_ending}
use Rattle.ending.proofs.go_on.Goals as goal

pub phase_two-requires : goal.phase_two-requires
phase_two-requires c = prepared_is _ _ _ c.requires.posed (λ i. (c.shared_slice_known-1.given i).fits) (λ i. (c.shared_slice_known-2-1.given i).fits) _ _ _ _ _ _ _ c.requires.first c.requires.going.held c.requires.going.columns_size c.requires.going.rows-size c.requires.going.work_size c.requires.going.scratch_size

pub finish-requires : goal.finish-requires
finish-requires c =
    record {
      posed = c.requires.posed;
      reached = reached_is _ _ _ c.requires.posed (λ i. (c.shared_slice_known-1.given i).fits) (λ i. (c.shared_slice_known-2-1.given i).fits) _ _ _ _ _ c.requires.first c.requires.going.held _ _ _ c.in-Ok.is c.phase_two.ensures.reduced;
      placed = record {
        columns_size = c.requires.going.columns_size;
        rows-size = c.phase_two.auto.d ∙ c.requires.going.rows-size;
        marks_size = c.requires.going.marks_size;
        order-room = c.requires.going.order-room;
        order-blank = c.requires.going.order-blank;
      };
    }

pub returns-then-journal-used-clause-ran : goal.returns-then-journal-used-clause-ran
returns-then-journal-used-clause-ran c =
    let S = stuck_is _ _ _ c.requires.posed (λ i. (c.shared_slice_known-1.given i).fits) (λ i. (c.shared_slice_known-2-1.given i).fits) _ _ _ _ _ c.requires.first c.requires.going.held _ _ _ c.in-Err.is c.phase_two.ensures.reduced in
    stuck_full _ _ _ c.requires.posed (λ i. (c.shared_slice_known-1.given i).fits) (λ i. (c.shared_slice_known-2-1.given i).fits) _ _ _ _ _ _ _ S c.requires.going.columns_size (c.phase_two.auto.d ∙ c.requires.going.rows-size) _ _ (reduced_length c.phase_two.ensures.reduced) c.if-journal-used.true c.requires.going.order-blank c.requires.going.vector_blank

pub vector_of-requires : goal.vector_of-requires
vector_of-requires c =
    let S = stuck_is _ _ _ c.requires.posed (λ i. (c.shared_slice_known-1.given i).fits) (λ i. (c.shared_slice_known-2-1.given i).fits) _ _ _ _ _ c.requires.first c.requires.going.held _ _ _ c.in-Err.is c.phase_two.ensures.reduced in
    record {
      singular = valuing_is _ _ _ c.requires.posed (λ i. (c.shared_slice_known-1.given i).fits) (λ i. (c.shared_slice_known-2-1.given i).fits) _ _ _ _ _ _ _ S c.requires.going.columns_size (c.phase_two.auto.d ∙ c.requires.going.rows-size) (c.phase_two.auto.work ∙ c.requires.going.work_size);
      blank = blank-room _ _ c.requires.going.vector_room c.requires.going.vector_blank;
    }

pub returns-in-Ok-clause-ran : goal.returns-in-Ok-clause-ran
returns-in-Ok-clause-ran c = ending_ran _ _ _ (reduced_length c.phase_two.ensures.reduced) c.finish.ensures.ending c.requires.going.vector_blank

pub returns-else-journal-used-clause-ran : goal.returns-else-journal-used-clause-ran
returns-else-journal-used-clause-ran c =
    let S = stuck_is _ _ _ c.requires.posed (λ i. (c.shared_slice_known-1.given i).fits) (λ i. (c.shared_slice_known-2-1.given i).fits) _ _ _ _ _ c.requires.first c.requires.going.held _ _ _ c.in-Err.is c.phase_two.ensures.reduced in
    stuck_ending _ _ _ c.requires.posed (λ i. (c.shared_slice_known-1.given i).fits) (λ i. (c.shared_slice_known-2-1.given i).fits) _ _ _ _ _ _ _ S c.requires.going.columns_size (c.phase_two.auto.d ∙ c.requires.going.rows-size) _ _ _ (reduced_length c.phase_two.ensures.reduced) c.if-journal-used.false c.requires.going.order-blank c.requires.going.vector_blank c.requires.going.vector_room c.vector_of.ensures

pub returns-then-journal-used-clause-long : goal.returns-then-journal-used-clause-long
returns-then-journal-used-clause-long c = reduced_length c.phase_two.ensures.reduced

pub returns-in-Ok-clause-long : goal.returns-in-Ok-clause-long
returns-in-Ok-clause-long c = c.finish.ensures.long ∙ reduced_length c.phase_two.ensures.reduced

pub returns-else-journal-used-clause-long : goal.returns-else-journal-used-clause-long
returns-else-journal-used-clause-long c = reduced_length c.phase_two.ensures.reduced
