-- The counts of an answer.
--   counts_are          each phase's count is that of its part of the list
--   counts-sum          together they are those of the whole list
--   counts-none         they are zeros unless the answer is Solved
-- Assumes nothing.
use Rattle.std.specs.Prelude.{◌≡◌, refl, ◌≢◌, Bool, true, false, cond, List, [], ◌∷◌, ◌++◌, ℕ, ◌+◌, ltb, length}
use Rattle.std.proofs.Common.{arith}
use Rattle.oplist.specs.declared.Op.{Op}
use Rattle.oplist.specs.Count.{adds, muls, adds-append, muls-append}
use Rattle.phases.specs.Run.{Run, End, solved, no_pivot, singular, whole, counts, no_counts, ListFull, ending, answer}
use Rattle.phases.specs.Counts.{added, adds_are, muls_are, multiplied}

-- each count is that of the phase's part
pub counts_are : (order : List ℕ) (r : Run)
    → ((ending r (solved order)).additions ≡ length (added r.one) ∷ length (added r.two) ∷ length (added r.three) ∷ length (added r.four) ∷ length (added r.five) ∷ [])
    × ((ending r (solved order)).multiplications ≡ length (multiplied r.one) ∷ length (multiplied r.two) ∷ length (multiplied r.three)
    ∷ length (multiplied r.four) ∷ length (multiplied r.five) ∷ [])
counts_are order r = (
  cc (adds_are r.one, adds_are r.two, adds_are r.three, adds_are r.four, adds_are r.five),
  cc (muls_are r.one, muls_are r.two, muls_are r.three, muls_are r.four, muls_are r.five),
)

abbrev sum : List ℕ → ℕ
sum [] = 0
sum (x ∷ xs) = x + sum xs

sums : (f : List Op → ℕ) → ((os ps : List Op) → f (os ++ ps) ≡ f os + f ps) → (r : Run) → sum (counts f r) ≡ f (whole r)
sums f join r =
    omega (
      arith,
      join (r.one ++ r.two ++ r.three ++ r.four) r.five,
      join (r.one ++ r.two ++ r.three) r.four,
      join (r.one ++ r.two) r.three,
      join r.one r.two,
    )

pub counts-sum : (r : Run) → (sum (counts adds r) ≡ adds (whole r)) × (sum (counts muls r) ≡ muls (whole r))
counts-sum r = (sums adds adds-append r, sums muls muls-append r)

pub counts-none : (room : ℕ) (r : Run) → (answer room r).number ≢ 0 → ((answer room r).additions ≡ no_counts) × ((answer room r).multiplications ≡ no_counts)
counts-none room r n = full (ltb room (length (whole r))) n
  where
    at_end : (e : End) → (ending r e).number ≢ 0 → ((ending r e).additions ≡ no_counts) × ((ending r e).multiplications ≡ no_counts)
    at_end (solved order) n = absurd (n refl)
    at_end no_pivot n = (refl, refl)
    at_end (singular x) n = (refl, refl)

    full : (b : Bool) → (cond b ListFull (ending r r.end)).number ≢ 0
        → ((cond b ListFull (ending r r.end)).additions ≡ no_counts) × ((cond b ListFull (ending r r.end)).multiplications ≡ no_counts)
    full true n = (refl, refl)
    full false n = at_end r.end n
