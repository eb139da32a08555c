-- `run` meets its contract. Assumes nothing.
use mathlib.Core.Path.{refl, ◌∙◌}
use borrow.Author.Rules.{rules}
use Rattle.running.specs.Begins.{fair_unused, given_is, lent_is, first-is, first-full, pivotless, room-kept, blank_again, ran_from, ran_with}
use Rattle.running.proofs.run.Goals as goal

pub phase_one-requires : goal.phase_one-requires
phase_one-requires c =
    record {
      given = given_is _ _ _ c.requires.posed (λ i. (c.shared_slice_known-1.given i).fits) (λ i. (c.shared_slice_known-2-1.given i).fits);
      lent = lent_is _ _ _ c.requires.posed (λ i. (c.shared_slice_known-1.given i).fits) (λ i. (c.shared_slice_known-2-1.given i).fits) _ _ _ c.requires.cut;
      fair = fair_unused _;
    }

pub returns-then-journal-used : goal.returns-then-journal-used
returns-then-journal-used c =
    let o = c.in-Err.ensures.outcome in
    ran_with (first-full _ _ _ c.requires.posed (λ i. (c.shared_slice_known-1.given i).fits) (λ i. (c.shared_slice_known-2-1.given i).fits) refl o.0 _ _ _ _ c.if-journal-used.true c.numbers.ensures c.bytes.ensures) (search rules)

pub returns-then-journal-used-2 : goal.returns-then-journal-used-2
returns-then-journal-used-2 c =
    let o = c.in-Ok.ensures.outcome in
    ran_with (first-full _ _ _ c.requires.posed (λ i. (c.shared_slice_known-1.given i).fits) (λ i. (c.shared_slice_known-2-1.given i).fits) refl o.0 _ _ _ _ c.if-journal-used-2.true c.numbers.ensures c.bytes.ensures) (search rules)

pub go_on-requires : goal.go_on-requires
go_on-requires c =
    let o = c.in-Ok.ensures.outcome in
    record {
      posed = c.requires.posed;
      first = first-is _ _ _ c.requires.posed (λ i. (c.shared_slice_known-1.given i).fits) (λ i. (c.shared_slice_known-2-1.given i).fits) refl o.0 o.1 o.2;
      going = record {
        columns_size = c.phase_one.auto.c ∙ c.requires.cut.columns_size;
        rows-size = c.phase_one.auto.d ∙ c.requires.cut.rows-size;
        work_size = c.requires.cut.work_size;
        scratch_size = c.requires.cut.scratch_size;
        marks_size = c.phase_one.auto.s ∙ c.requires.cut.singles_size;
        order-room = room-kept c.numbers.auto.s c.requires.cut.order-room;
        vector_room = room-kept c.bytes.auto.s c.requires.cut.vector_room;
        order-blank = blank_again _ _ c.numbers.ensures;
        vector_blank = blank_again _ _ c.bytes.ensures;
        held = c.if-journal-used-2.false;
      };
    }

pub returns-else-journal-used : goal.returns-else-journal-used
returns-else-journal-used c =
    let o = c.in-Err.ensures.outcome in
    ran_with (pivotless _ _ _ c.requires.posed (λ i. (c.shared_slice_known-1.given i).fits) (λ i. (c.shared_slice_known-2-1.given i).fits) refl o.0 _ _ _ _ o.1 c.if-journal-used.false c.numbers.ensures c.bytes.ensures) (search rules)

pub returns-else-journal-used-2 : goal.returns-else-journal-used-2
returns-else-journal-used-2 c =
    let o = c.in-Ok.ensures.outcome in
    ran_with (ran_from _ _ _ _ _ o.0.listed.room c.numbers.ensures c.bytes.ensures c.go_on.ensures.ran) (search rules)
