-- What a call promises: its outcome, and the number of its answer.
--   answer-number   a run is answered with the number of its answer
--   checked_number   the number of a call whose count is in the table: the lowest of 2, 3 and 4 that applies, else that of the run
--   counted_number   the number of a call by what the table says of its count: 1 where there is no entry
--   call_number      the number of a call, by what is refused first
--   Called          what `solve` promises of its outcome x
--   call_met        the outcome of a call keeps the promise
-- Assumes nothing.
use Rattle.std.specs.Prelude.{◌≡◌, Bool, List, ltb, Ok, Err}
use Rattle.std.proofs.Math.Path.{refl, ap}
use Rattle.std.proofs.Common.{◌∙◌}
use Rattle.std.proofs.Math.Bool.{true, false, cond}
use Prim.Native.Nat.{ℕ}
use Rattle.std.proofs.Math.ListN.{length}
use Rattle.params.specs.Params.{params_of, Parameters}
use Rattle.params.specs.declared.Sizes.{Sizes}
use Rattle.phases.specs.System.{combined}
use Rattle.phases.specs.Run.{Run, End, solved, no_pivot, singular, whole, defined, ListFull, ending, answer}
use Rattle.answers.specs.declared.Refusal.TheVariants.{BadShape, BadEntry, NoRoom}
use Rattle.answers.specs.Answers.{number_of}
use Rattle.call.specs.Call.{Octets, octets_in, rows_in, Buffers, Outcome, outcome, shaped, entered, roomy_for, answer_of, ended, shape_of, told, checked, counted, call_of}

pub answer-number : (room : ℕ) (r : Run) → number_of (answer_of (answer room r)) ≡ (answer room r).number
unfolding answer_of
answer-number room r = full (ltb room (length (whole r)))
  where
    at_end : (e : End) → number_of (answer_of (ending r e)) ≡ (ending r e).number
    at_end (solved order) = refl
    at_end no_pivot = refl
    at_end (singular x) = refl

    full : (b : Bool) → number_of (answer_of (cond b ListFull (ending r r.end))) ≡ (cond b ListFull (ending r r.end)).number
    full true = refl
    full false = at_end r.end

-- 2 before 3 before 4
unfoldable pub checked_number : Sizes → (h m t : ℕ) → List ℕ → List ℕ → Buffers → ℕ
checked_number g h m t bits octets b =
    cond (shaped g.l h m t (length b.list) (length bits) (length octets) (length b.slab))
    (cond (entered g.l g.s h bits)
    (cond (roomy_for g.l m b)
    (told (shape_of g h m) bits octets (length b.list)).number 4) 3) 2

-- 1 before them
abbrev pub counted_number : Parameters → (m t : ℕ) → List ℕ → Octets → Buffers → ℕ
counted_number (Ok g) m t bits o b = checked_number g (rows_in o g) m t bits (octets_in o) b
counted_number (Err _) m t bits o b = 1

unfoldable pub call_number : (k m t : ℕ) → List ℕ → Octets → Buffers → ℕ
call_number k m t bits o b = counted_number (params_of k) m t bits o b

pub record Called (k m t : ℕ) (bits : List ℕ) (o : Octets) (b : Buffers) (x : Outcome) : Type 0 where
  pub is : x ≡ call_of k m t bits o b
  pub number_is : number_of x.answer ≡ call_number k m t bits o b

module _ {k m t : ℕ} {bits : List ℕ} {o : Octets} {b : Buffers} {x : Outcome} where
  pub call_met : x ≡ call_of k m t bits o b → Called k m t bits o b x
  unfolding call_of call_number checked checked_number told
  call_met e = record { is = e; number_is = ap (λ (y : Outcome). number_of y.answer) e ∙ by-table (params_of k) }
    where
      tests : (p q s : Bool) (r : Run)
          → let room : ℕ = length b.list in
          number_of (cond p (cond q (cond s (ended t b (answer room r)) (outcome (Err NoRoom) b)) (outcome (Err BadEntry) b)) (outcome (Err BadShape) b)).answer
          ≡ cond p (cond q (cond s (answer room r).number 4) 3) 2
      tests true true true r = answer-number (length b.list) r
      tests true true false r = refl
      tests true false s r = refl
      tests false q s r = refl

      by-table : (p : Parameters) → number_of (counted p m t bits o b).answer ≡ counted_number p m t bits o b
      by-table (Err _) = refl
      by-table (Ok g) =
          let z = shape_of g (rows_in o g) m in
          tests (shaped g.l (rows_in o g) m t (length b.list) (length bits) (length (octets_in o)) (length b.slab)) (entered g.l g.s (rows_in o g) bits)
          (roomy_for g.l m b) (defined z (combined z bits (octets_in o)) false)
