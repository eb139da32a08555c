-- What does not meet the statement of a call: each impostor is refused even where it is one only for calls with K = 10 and 27 rows that pass the tests.
--   Solver, Meets        a solver gives an outcome to a call; it meets the statement where that is the defined outcome
--   meets_one            two solvers that meet it give the same, counts too
--   tight, tight_lent    buffers for 27 rows of a byte and a list of one operation, of just the size that is needed
--   Always               what a solver does on every such call
--   Refuted, refuted     a solver that meets it does not always say NoPivot, has not one answer for all, nor one report for all, does record, does not
--                        just phase one; and its answer, counts included, is that of the defined run
-- Assumes nothing.
use Rattle.std.proofs.Math.Path.{◌≡◌, refl, sym, ap}
use Rattle.std.proofs.Common.{◌∙◌, arith, lit≤}
use Rattle.std.specs.Prelude.{false, ℕ, length, replicate, Err}
use mathlib.Core.List.{List, [], ◌∷◌, map}
use Rattle.std.proofs.Math.ListN.{get_or}
use Rattle.oplist.specs.declared.Op.{Op}
use Rattle.oplist.specs.declared.Op.TheVariants.{AddAssign, MulAssign}
use Rattle.oplist.specs.Word.{packed}
use Rattle.phases.specs.System.{combined}
use Rattle.phases.specs.Run.{defined, Solved, Singular, no_counts}
use Rattle.answers.specs.declared.Report.{Report}
use Rattle.answers.specs.Answers.{Answer}
use Rattle.answers.specs.declared.Refusal.TheVariants.{NoPivot}
use Rattle.answers.specs.Answers.{number_of, report_in}
use Rattle.call.specs.Over.{over, blank}
use Rattle.call.specs.Call.{Octets, Buffers, buffers, working, Outcome, bitwise, entered, roomy, answer_of, told, ended, call_of}
use Rattle.cases.specs.Small.{ten, unit, with, Q, Q_octets, usual, Lent, Fits, call-ten, small}

abbrev pub Solver : Type 0
Solver = (k m t : ℕ) → List ℕ → Octets → Buffers → Outcome

abbrev pub Meets : Solver → Type 0
Meets f = (k m t : ℕ) (bits : List ℕ) (o : Octets) (b : Buffers) → f k m t bits o b ≡ call_of k m t bits o b

pub meets_one : (f g : Solver) → Meets f → Meets g → (k m t : ℕ) (bits : List ℕ) (o : Octets) (b : Buffers) → f k m t bits o b ≡ g k m t bits o b
meets_one f g a b k m t bits o d = a k m t bits o d ∙ sym (b k m t bits o d)

abbrev pub tight : Buffers
tight =
    buffers (replicate 27 0) (replicate 1 0) (replicate 27 0) (replicate 27 0)
    (working (replicate 729 0) (replicate 27 0) (replicate 27 0) (replicate 27 0) (replicate 27 0) (replicate 27 0) (replicate 27 0) (replicate 27 0)
    (replicate 56 0))

pub tight_lent : Lent 1 tight
unfolding roomy
tight_lent = record { some_bytes = lit≤ tt; few_bytes = lit≤ tt; room = lit≤ tt; size = refl; rooms = refl }

-- of every call with K = 10 and 27 rows that passes the tests
abbrev pub Always : Solver → (List ℕ → List ℕ → Buffers → Outcome → Type 0) → Type 0
Always f P = (t : ℕ) (bits octs : List ℕ) (b : Buffers) → Fits bits octs → Lent t b → P bits octs b (f 10 27 t bits (Octets.given octs) b)

pub record Refuted (f : Solver) : Type 0 where
  pub not_always_refused : Always f (λ bits octs b x. x.answer ≡ Err NoPivot) → ⊥
  pub not-one-answer : (a : Answer) → Always f (λ bits octs b x. x.answer ≡ a) → ⊥
  pub not-one_report : (r : Report) → Always f (λ bits octs b x. report_in x.answer ≡ r) → ⊥
  pub not-without_list : Always f (λ bits octs b x. x.buffers.list ≡ blank b.list) → ⊥
  pub not-first_only : Always f (λ bits octs b x. x.buffers.list ≡ over (map packed (defined ten (combined ten bits octs) false).one) b.list) → ⊥
  pub not-other-counts : Always f (λ bits octs b x. x.answer ≡ answer_of (told ten bits octs (length b.list)))

-- four of the small systems, to a solver that meets the statement
module _ (f : Solver) (a : Meets f) where
  abbrev on : List ℕ → List ℕ → Outcome
  on bits octs = f 10 27 1 bits (Octets.given octs) tight

  one-is : on Q Q_octets ≡ ended 1 tight (Solved [] usual no_counts no_counts)
  one-is = a 10 27 1 Q (Octets.given Q_octets) tight ∙ small.empty_list 1 tight tight_lent (lit≤ tt)

  two_is : on Q (with 0 17 2 Q_octets) ≡ ended 1 tight (Solved (MulAssign 7 142 ∷ []) usual no_counts (0 ∷ 1 ∷ 0 ∷ 0 ∷ 0 ∷ []))
  two_is = a 10 27 1 Q (Octets.given (with 0 17 2 Q_octets)) tight ∙ small.one_scaling 1 tight tight_lent (lit≤ tt)

  three-is : on (with 0 17 1 Q) Q_octets ≡ ended 1 tight (Solved (AddAssign 0 7 ∷ []) usual (0 ∷ 0 ∷ 0 ∷ 1 ∷ 0 ∷ []) no_counts)
  three-is = a 10 27 1 (with 0 17 1 Q) (Octets.given Q_octets) tight ∙ small.one_addition 1 tight tight_lent (lit≤ tt)

  five_is : on Q (with 0 17 0 Q_octets) ≡ ended 1 tight (Singular (unit 1 17))
  five_is = a 10 27 1 Q (Octets.given (with 0 17 0 Q_octets)) tight ∙ small.one_singular 1 tight tight_lent (lit≤ tt)

  pub refuted : Refuted f
  unfolding answer_of over packed entered bitwise
  refuted =
      record {
        not_always_refused = λ h. let z : ◌≡◌ {A = ℕ} 6 0 = ap number_of (sym (h 1 Q Q_octets tight (refl, refl, refl) tight_lent) ∙ ap (λ (x : Outcome). x.answer) one-is) in omega arith;
        not-one-answer = λ c h.
            let z : ◌≡◌ {A = ℕ} 0 7 =
            ap number_of (sym (ap (λ (x : Outcome). x.answer) one-is) ∙ h 1 Q Q_octets tight (refl, refl, refl) tight_lent
            ∙ sym (h 1 Q (with 0 17 0 Q_octets) tight (refl, refl, refl) tight_lent) ∙ ap (λ (x : Outcome). x.answer) five_is) in
            omega arith;
        not-one_report = λ r h.
            let z : ◌≡◌ {A = ℕ} 0 1 =
            ap (λ (q : Report). q.two.muls) (sym (ap (λ (x : Outcome). report_in x.answer) one-is) ∙ h 1 Q Q_octets tight (refl, refl, refl) tight_lent
            ∙ sym (h 1 Q (with 0 17 2 Q_octets) tight (refl, refl, refl) tight_lent) ∙ ap (λ (x : Outcome). report_in x.answer) two_is) in
            omega arith;
        not-without_list = λ h.
            let z : ◌≡◌ {A = ℕ} 0 (packed (AddAssign 0 7)) =
            ap (λ (l : List ℕ). get_or l 0 0) (sym (h 1 (with 0 17 1 Q) Q_octets tight (refl, refl, refl) tight_lent) ∙ ap (λ (x : Outcome). x.buffers.list) three-is) in
            omega arith;
        not-first_only = λ h.
            let z : ◌≡◌ {A = ℕ} 0 (packed (MulAssign 7 142)) =
            ap (λ (l : List ℕ). get_or l 0 0) (ap (λ (os : List Op). over (map packed os) (replicate 1 0)) (sym small.scaling_first)
            ∙ sym (h 1 Q (with 0 17 2 Q_octets) tight (refl, refl, refl) tight_lent) ∙ ap (λ (x : Outcome). x.buffers.list) two_is) in
            omega arith;
        not-other-counts = λ t bits octs b g h.
            ap (λ (x : Outcome). x.answer) (a 10 27 t bits (Octets.given octs) b ∙ call-ten bits octs g t b h);
      }
