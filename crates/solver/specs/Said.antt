-- What the answer of a defined run has.
--   tallied              the report of a run: the operations of its list, the additions and multiplications of each phase
--   answer_late          its number is 0, or above 4
--   answer_listless      an answer that is not Solved has no list;  answer_fits   a list fits its room
--   answer_report        an answer reports its counts;  answer-tallied   which are, of Solved, those of the run
--   answer_short         order and vector have at most a place for each column
-- Assumes nothing.
use Rattle.std.specs.Prelude.{◌≡◌, refl, ◌≢◌, Bool, true, false, cond, List, [], ◌∷◌, ◌++◌, ℕ, ◌≤◌, ltb, length}
use Rattle.std.proofs.Common.{le_of_eq, arith, ltb-false}
use Rattle.oplist.specs.declared.Op.{Op}
use Rattle.oplist.specs.Count.{adds, muls}
use Rattle.loops.specs.Out.{Out}
use Rattle.loops.specs.Way.{Way, go, halt}
use Rattle.phases.specs.System.{Shape as Defined, octet_rows}
use Rattle.phases.specs.One.{Step, Phase, rows_of, pivots_of, phase_one, ops_one}
use Rattle.phases.specs.Two.{Second, acts, working, forward}
use Rattle.phases.specs.Rest.{by_substitution}
use Rattle.phases.specs.Run.{Run, End, solved as ends-solved, no_pivot, singular, whole, finish, second, refused, goes_on, defined, ListFull, ending, answer}
use Rattle.phases.proofs.Means.{length-by-column}
use Rattle.answers.specs.declared.Counts.{Counts}
use Rattle.answers.specs.declared.Report.{Report}
use Rattle.answers.specs.Answers.{report_in}
use Rattle.call.specs.Call.{report_of, answer_of}

-- the additions and multiplications of a list, and of each phase of a run
abbrev counts_of : List Op → Counts
counts_of os = record { adds = adds os; muls = muls os }

abbrev pub tallied : Run → Report
tallied r =
    record {
      operations = length (whole r);
      one = counts_of r.one;
      two = counts_of r.two;
      three = counts_of r.three;
      four = counts_of r.four;
      five = counts_of r.five;
    }

-- its number is 0, or above 4
pub answer_late : (room : ℕ) (r : Run) → 1 ≤ (answer room r).number → (answer room r).number ≤ 4 → ⊥
answer_late room r = full (ltb room (length (whole r)))
  where
    at_end : (e : End) → 1 ≤ (ending r e).number → (ending r e).number ≤ 4 → ⊥
    at_end (ends-solved order) h k = omega arith
    at_end no_pivot h k = omega arith
    at_end (singular x) h k = omega arith

    full : (b : Bool) → 1 ≤ (cond b ListFull (ending r r.end)).number → (cond b ListFull (ending r r.end)).number ≤ 4 → ⊥
    full true h k = omega arith
    full false h k = at_end r.end h k

-- an answer that is not Solved has no list
pub answer_listless : (room : ℕ) (r : Run) → (answer room r).number ≢ 0 → (answer room r).list ≡ []
answer_listless room r = full (ltb room (length (whole r)))
  where
    at_end : (e : End) → (ending r e).number ≢ 0 → (ending r e).list ≡ []
    at_end (ends-solved order) n = absurd (n refl)
    at_end no_pivot n = refl
    at_end (singular x) n = refl

    full : (b : Bool) → (cond b ListFull (ending r r.end)).number ≢ 0 → (cond b ListFull (ending r r.end)).list ≡ []
    full true n = refl
    full false n = at_end r.end n

-- a list fits its room
pub answer_fits : (room : ℕ) (r : Run) → length (answer room r).list ≤ room
answer_fits room r = full (ltb room (length (whole r))) refl
  where
    at_end : length (whole r) ≤ room → (e : End) → length (ending r e).list ≤ room
    at_end h (ends-solved order) = h
    at_end h no_pivot = omega arith
    at_end h (singular x) = omega arith

    full : (b : Bool) → ltb room (length (whole r)) ≡ b → length (cond b ListFull (ending r r.end)).list ≤ room
    full true e = omega arith
    full false e = at_end (ltb-false room (length (whole r)) e) r.end

-- what an answer reports: of Solved the counts of its list, of any other zeros
pub answer_report : (room : ℕ) (r : Run) → report_in (answer_of (answer room r)) ≡ report_of (answer room r)
unfolding answer_of
answer_report room r = full (ltb room (length (whole r)))
  where
    at_end : (e : End) → report_in (answer_of (ending r e)) ≡ report_of (ending r e)
    at_end (ends-solved order) = refl
    at_end no_pivot = refl
    at_end (singular x) = refl

    full : (b : Bool) → report_in (answer_of (cond b ListFull (ending r r.end))) ≡ report_of (cond b ListFull (ending r r.end))
    full true = refl
    full false = at_end r.end

pub answer-tallied : (room : ℕ) (r : Run) → (answer room r).number ≡ 0 → report_of (answer room r) ≡ tallied r
answer-tallied room r = full (ltb room (length (whole r)))
  where
    at_end : (e : End) → (ending r e).number ≡ 0 → report_of (ending r e) ≡ tallied r
    at_end (ends-solved order) z = refl
    at_end no_pivot z = absurd (omega arith)
    at_end (singular x) z = absurd (omega arith)

    full : (b : Bool) → (cond b ListFull (ending r r.end)).number ≡ 0 → report_of (cond b ListFull (ending r r.end)) ≡ tallied r
    full true z = absurd (omega arith)
    full false z = at_end r.end z

-- order and vector have at most a place for each column
module _ (z : Defined) (A : ℕ → ℕ → ℕ) where
  abbrev Short : Run → Type 0
  Short r = (length (ending r r.end).order ≤ z.n) × (length (ending r r.end).vector ≤ z.n)

  at_way : (ts : List Step) (os : List Op) (cols : List ℕ) (w : Way (Out Op Second)) → Short (finish z A ts os cols w)
  at_way ts os cols (go f) =
      (le_of_eq (length-by-column z.n (pivots_of ts ++ cols) (rows_of ts ++ rows_of f.st.steps)), omega arith)
  at_way ts os cols (halt j f) =
      (omega arith, le_of_eq (length-by-column z.n (pivots_of ts ++ cols) (by_substitution f.st.mat (rows_of ts) (rows_of f.st.steps))))

  at-cols : (l : List ℕ) → let p : Phase = phase_one A z in Short (cond (goes_on z A false l) (second z A p) (refused z A p))
  at-cols [] =
      let p : Phase = phase_one A z in
      let os : List Op = ops_one A p.steps in
      let cols : List ℕ = p.now.cols ++ p.out in
      at_way p.steps os cols (forward cols (p.now.elig ++ octet_rows z) (acts os (working A z.m cols)))
  at-cols (q ∷ l) = (omega arith, omega arith)

  pub answer_short : (room : ℕ) → (length (answer room (defined z A false)).order ≤ z.n) × (length (answer room (defined z A false)).vector ≤ z.n)
  answer_short room = full (ltb room (length (whole (defined z A false))))
    where
      full : (b : Bool) → (length (cond b ListFull (ending (defined z A false) (defined z A false).end)).order ≤ z.n)
          × (length (cond b ListFull (ending (defined z A false) (defined z A false).end)).vector ≤ z.n)
      full true = (omega arith, omega arith)
      full false = at-cols (phase_one A z).now.cols
