-- `finish` meets its contract. Assumes nothing.
use mathlib.Core.Path.{refl, ◌∙◌}
use Prim.Native.Nat.{zero-le}
use Rattle.ending.specs.Ends.{steps_within, marked_is, stage_two, stage_next, third-is, fourth-is, fifth-is, listing, chosen_is, ordering_is, full-ending, solved_ending, rest_length}
use Rattle.ending.proofs.finish.Goals as goal

pub slice_bounds-mark-count : goal.slice_bounds-mark-count
slice_bounds-mark-count c = zero-le

pub slice_bounds-mark-start : goal.slice_bounds-mark-start
slice_bounds-mark-start c = zero-le

pub slice_bounds-mark-end : goal.slice_bounds-mark-end
slice_bounds-mark-end c = steps_within _ _ _ c.requires.posed (λ i. (c.shared_slice_known-1.given i).fits) (λ i. (c.shared_slice_known-2-1.given i).fits) _ _ _ _ _ _ c.requires.reached c.requires.placed.columns_size

pub mark-requires : goal.mark-requires
mark-requires c = marked_is _ _ _ c.requires.posed (λ i. (c.shared_slice_known-1.given i).fits) (λ i. (c.shared_slice_known-2-1.given i).fits) _ _ _ _ _ _ c.requires.reached c.requires.placed.columns_size _ c.requires.placed.marks_size

pub phase_three-requires : goal.phase_three-requires
phase_three-requires c =
    let s₂ = stage_two _ _ _ c.requires.posed (λ i. (c.shared_slice_known-1.given i).fits) (λ i. (c.shared_slice_known-2-1.given i).fits) _ _ _ _ _ _ c.requires.reached c.requires.placed.columns_size in
    listing _ _ _ c.requires.posed (λ i. (c.shared_slice_known-1.given i).fits) (λ i. (c.shared_slice_known-2-1.given i).fits) _ _ _ _ _ _ c.requires.reached c.requires.placed.columns_size _ c.requires.reached.used _ _ c.requires.placed.marks_size c.mark.ensures s₂

pub phase_four-requires : goal.phase_four-requires
phase_four-requires c =
    let s₂ = stage_two _ _ _ c.requires.posed (λ i. (c.shared_slice_known-1.given i).fits) (λ i. (c.shared_slice_known-2-1.given i).fits) _ _ _ _ _ _ c.requires.reached c.requires.placed.columns_size in
    let e₃ = c.phase_three.ensures.recorded ∙ third-is _ _ _ c.requires.posed (λ i. (c.shared_slice_known-1.given i).fits) (λ i. (c.shared_slice_known-2-1.given i).fits) _ _ _ _ _ _ c.requires.reached c.requires.placed.columns_size _ c.requires.reached.used _ _ c.requires.placed.marks_size c.mark.ensures s₂ in
    let s₃ = stage_next _ _ _ c.requires.posed (λ i. (c.shared_slice_known-1.given i).fits) (λ i. (c.shared_slice_known-2-1.given i).fits) _ _ _ _ _ _ c.requires.reached c.requires.placed.columns_size s₂ _ _ e₃ in
    chosen_is _ _ _ c.requires.posed (λ i. (c.shared_slice_known-1.given i).fits) (λ i. (c.shared_slice_known-2-1.given i).fits) _ _ _ _ _ _ c.requires.reached c.requires.placed.columns_size c.requires.placed.rows-size s₃

pub phase_five-requires : goal.phase_five-requires
phase_five-requires c =
    let s₂ = stage_two _ _ _ c.requires.posed (λ i. (c.shared_slice_known-1.given i).fits) (λ i. (c.shared_slice_known-2-1.given i).fits) _ _ _ _ _ _ c.requires.reached c.requires.placed.columns_size in
    let e₃ = c.phase_three.ensures.recorded ∙ third-is _ _ _ c.requires.posed (λ i. (c.shared_slice_known-1.given i).fits) (λ i. (c.shared_slice_known-2-1.given i).fits) _ _ _ _ _ _ c.requires.reached c.requires.placed.columns_size _ c.requires.reached.used _ _ c.requires.placed.marks_size c.mark.ensures s₂ in
    let s₃ = stage_next _ _ _ c.requires.posed (λ i. (c.shared_slice_known-1.given i).fits) (λ i. (c.shared_slice_known-2-1.given i).fits) _ _ _ _ _ _ c.requires.reached c.requires.placed.columns_size s₂ _ _ e₃ in
    let e₄ = c.phase_four.ensures.recorded ∙ fourth-is _ _ _ c.requires.posed (λ i. (c.shared_slice_known-1.given i).fits) (λ i. (c.shared_slice_known-2-1.given i).fits) _ _ _ _ _ _ c.requires.reached c.requires.placed.columns_size _ in
    let s₄ = stage_next _ _ _ c.requires.posed (λ i. (c.shared_slice_known-1.given i).fits) (λ i. (c.shared_slice_known-2-1.given i).fits) _ _ _ _ _ _ c.requires.reached c.requires.placed.columns_size s₃ _ _ e₄ in
    listing _ _ _ c.requires.posed (λ i. (c.shared_slice_known-1.given i).fits) (λ i. (c.shared_slice_known-2-1.given i).fits) _ _ _ _ _ _ c.requires.reached c.requires.placed.columns_size _ c.requires.reached.used _ _ c.requires.placed.marks_size c.mark.ensures s₄

pub returns-then-journal-used-clause-ending : goal.returns-then-journal-used-clause-ending
returns-then-journal-used-clause-ending c =
    let s₂ = stage_two _ _ _ c.requires.posed (λ i. (c.shared_slice_known-1.given i).fits) (λ i. (c.shared_slice_known-2-1.given i).fits) _ _ _ _ _ _ c.requires.reached c.requires.placed.columns_size in
    let e₃ = c.phase_three.ensures.recorded ∙ third-is _ _ _ c.requires.posed (λ i. (c.shared_slice_known-1.given i).fits) (λ i. (c.shared_slice_known-2-1.given i).fits) _ _ _ _ _ _ c.requires.reached c.requires.placed.columns_size _ c.requires.reached.used _ _ c.requires.placed.marks_size c.mark.ensures s₂ in
    let s₃ = stage_next _ _ _ c.requires.posed (λ i. (c.shared_slice_known-1.given i).fits) (λ i. (c.shared_slice_known-2-1.given i).fits) _ _ _ _ _ _ c.requires.reached c.requires.placed.columns_size s₂ _ _ e₃ in
    let e₄ = c.phase_four.ensures.recorded ∙ fourth-is _ _ _ c.requires.posed (λ i. (c.shared_slice_known-1.given i).fits) (λ i. (c.shared_slice_known-2-1.given i).fits) _ _ _ _ _ _ c.requires.reached c.requires.placed.columns_size _ in
    let s₄ = stage_next _ _ _ c.requires.posed (λ i. (c.shared_slice_known-1.given i).fits) (λ i. (c.shared_slice_known-2-1.given i).fits) _ _ _ _ _ _ c.requires.reached c.requires.placed.columns_size s₃ _ _ e₄ in
    let e₅ = c.phase_five.ensures.recorded ∙ fifth-is _ _ _ c.requires.posed (λ i. (c.shared_slice_known-1.given i).fits) (λ i. (c.shared_slice_known-2-1.given i).fits) _ _ _ _ _ _ c.requires.reached c.requires.placed.columns_size _ c.requires.reached.used _ _ c.requires.placed.marks_size c.mark.ensures s₄ in
    full-ending _ _ _ c.requires.posed (λ i. (c.shared_slice_known-1.given i).fits) (λ i. (c.shared_slice_known-2-1.given i).fits) _ _ _ _ _ _ c.requires.reached c.requires.placed.columns_size _ _ _ e₃ e₄ e₅ _ c.if-journal-used.true c.requires.placed.order-blank

pub returns-then-journal-used-clause-long : goal.returns-then-journal-used-clause-long
returns-then-journal-used-clause-long c = rest_length _ _ _ _ _ _ _ _ c.phase_three.ensures.recorded c.phase_four.ensures.recorded c.phase_five.ensures.recorded

pub order_of-requires : goal.order_of-requires
order_of-requires c = ordering_is _ _ _ c.requires.posed (λ i. (c.shared_slice_known-1.given i).fits) (λ i. (c.shared_slice_known-2-1.given i).fits) _ _ _ _ _ _ c.requires.reached c.requires.placed.columns_size _ c.requires.placed.order-room c.requires.placed.order-blank c.requires.placed.rows-size

pub returns-clause-long : goal.returns-clause-long
returns-clause-long c = rest_length _ _ _ _ _ _ _ _ c.phase_three.ensures.recorded c.phase_four.ensures.recorded c.phase_five.ensures.recorded

pub returns-clause-ending : goal.returns-clause-ending
returns-clause-ending c =
    let s₂ = stage_two _ _ _ c.requires.posed (λ i. (c.shared_slice_known-1.given i).fits) (λ i. (c.shared_slice_known-2-1.given i).fits) _ _ _ _ _ _ c.requires.reached c.requires.placed.columns_size in
    let e₃ = c.phase_three.ensures.recorded ∙ third-is _ _ _ c.requires.posed (λ i. (c.shared_slice_known-1.given i).fits) (λ i. (c.shared_slice_known-2-1.given i).fits) _ _ _ _ _ _ c.requires.reached c.requires.placed.columns_size _ c.requires.reached.used _ _ c.requires.placed.marks_size c.mark.ensures s₂ in
    let s₃ = stage_next _ _ _ c.requires.posed (λ i. (c.shared_slice_known-1.given i).fits) (λ i. (c.shared_slice_known-2-1.given i).fits) _ _ _ _ _ _ c.requires.reached c.requires.placed.columns_size s₂ _ _ e₃ in
    let e₄ = c.phase_four.ensures.recorded ∙ fourth-is _ _ _ c.requires.posed (λ i. (c.shared_slice_known-1.given i).fits) (λ i. (c.shared_slice_known-2-1.given i).fits) _ _ _ _ _ _ c.requires.reached c.requires.placed.columns_size _ in
    let s₄ = stage_next _ _ _ c.requires.posed (λ i. (c.shared_slice_known-1.given i).fits) (λ i. (c.shared_slice_known-2-1.given i).fits) _ _ _ _ _ _ c.requires.reached c.requires.placed.columns_size s₃ _ _ e₄ in
    let e₅ = c.phase_five.ensures.recorded ∙ fifth-is _ _ _ c.requires.posed (λ i. (c.shared_slice_known-1.given i).fits) (λ i. (c.shared_slice_known-2-1.given i).fits) _ _ _ _ _ _ c.requires.reached c.requires.placed.columns_size _ c.requires.reached.used _ _ c.requires.placed.marks_size c.mark.ensures s₄ in
    solved_ending _ _ _ c.requires.posed (λ i. (c.shared_slice_known-1.given i).fits) (λ i. (c.shared_slice_known-2-1.given i).fits) _ _ _ _ _ _ c.requires.reached c.requires.placed.columns_size _ _ _ e₃ e₄ e₅ _ _ _ _ _ _ _ _ c.if-journal-used.false c.requires.placed.order-blank c.requires.placed.order-room c.order_of.ensures refl c.counts_of.ensures c.counts_of-2.ensures c.counts_of-3.ensures c.counts_of-4.ensures c.counts_of-5.ensures
