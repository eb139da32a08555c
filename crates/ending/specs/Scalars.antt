-- The scalars of the defined list are octets, so that each of its operations fits a word.
--   Scaled           the scalar of an operation is an octet
--   clears-scaled, one-scaled, two-scaled, four-scaled   the parts of a list
--   answer-scaled    the list of a run's answer
-- Assumes nothing.
use Rattle.std.proofs.Common.{sym, subst}
use Rattle.std.specs.Prelude.{Bool, true, false, cond, List, [], ◌∷◌, ◌++◌, ℕ, zero, suc, ltb, length}
use Rattle.loops.specs.Out.{Out}
use Rattle.loops.specs.Way.{Way, go, halt}
use Rattle.octet.specs.Field.{Octet, inv_octet}
use Rattle.oplist.specs.declared.Op.{Op}
use Rattle.oplist.specs.declared.Op.TheVariants.{AddAssign, MulAssign, FMA}
use Rattle.oplist.specs.Ops.{Each, each_append}
use Rattle.algebra.specs.Rows.{runs}
use Rattle.phases.specs.System.{Shape, octet_rows}
use Rattle.phases.specs.One.{Step, Phase, rows_of, entry, clears, phase_one, ops_one}
use Rattle.phases.specs.Two.{Second, acts, working, forward, scaled}
use Rattle.phases.specs.Rest.{kept, last-first, gather, phase_four}
use Rattle.phases.specs.Run.{Run, whole, finish, second, refused, goes_on, defined, ListFull, ending, answer}
use Rattle.phases.specs.Fit.{Fit}
use Rattle.phases.specs.Sweep.{Entries, runs-entries}
use Rattle.phases.specs.Gauss.{ops_at, ops_two, above}
use Rattle.phases.specs.Finish.{kept-each}
use Rattle.phases.specs.Solved.{list_two}
use Rattle.phases.specs.Forward.{Ended}
use Rattle.phases.proofs.Means.{ended, two_is}

abbrev pub Scaled : Op → Type 0
Scaled (AddAssign d s) = Unit {0}
Scaled (MulAssign d c) = Octet c
Scaled (FMA d s c) = Octet c

entry-scaled : (c y x : ℕ) (os : List Op) → Octet c → Each Scaled os → Each Scaled (entry c y x os)
entry-scaled zero y x os h e = e
entry-scaled (suc zero) y x os h e = (tt, e)
entry-scaled (suc (suc c)) y x os h e = (h, e)

pub clears-scaled : (s : ℕ → ℕ) (x : ℕ) (ys : List ℕ) → ((y : ℕ) → Octet (s y)) → Each Scaled (clears s x ys)
clears-scaled s x [] h = tt
clears-scaled s x (y ∷ ys) h = entry-scaled (s y) y x (clears s x ys) (h y) (clears-scaled s x ys h)

pivot_scaled : (c y : ℕ) → Each Scaled (scaled c y)
pivot_scaled zero y = tt
pivot_scaled (suc zero) y = tt
pivot_scaled (suc (suc c)) y = (inv_octet (suc (suc c)), tt)

pub one-scaled : (A : ℕ → ℕ → ℕ) (ts : List Step) → Entries A → Each Scaled (ops_one A ts)
one-scaled A [] h = tt
one-scaled A (t ∷ ts) h =
    each_append Scaled (clears (λ y. A y t.pivot) t.row t.under) (ops_one A ts)
    (clears-scaled (λ y. A y t.pivot) t.row t.under (λ y. h y t.pivot)) (one-scaled A ts h)

forward-scaled : (B : ℕ → ℕ → ℕ) (ts : List Step) → Entries B → Each Scaled (ops_two B ts)
forward-scaled B [] h = tt
forward-scaled B (t ∷ ts) h =
    each_append Scaled (ops_at B t) (ops_two (runs (ops_at B t) B) ts)
    (each_append Scaled (scaled (B t.row t.pivot) t.row) (clears (λ x. B x t.pivot) t.row t.under)
    (pivot_scaled (B t.row t.pivot) t.row)
    (clears-scaled (λ x. B x t.pivot) t.row t.under (λ y. h y t.pivot)))
    (forward-scaled (runs (ops_at B t) B) ts (runs-entries (ops_at B t) B h))

above-scaled : (D : ℕ → ℕ → ℕ) (before : List ℕ) (ts : List Step) → Entries D → Each Scaled (above D before ts)
above-scaled D before [] h = tt
above-scaled D before (t ∷ ts) h =
    each_append Scaled (above D (before ++ (t.row ∷ [])) ts) (clears (λ x. D x t.pivot) t.row before)
    (above-scaled D (before ++ (t.row ∷ [])) ts h) (clears-scaled (λ x. D x t.pivot) t.row before (λ y. h y t.pivot))

pub two-scaled : (B : ℕ → ℕ → ℕ) (us : List Step) → Entries B → Each Scaled (list_two B us)
two-scaled B us h =
    each_append Scaled (ops_two B us) (above (runs (ops_two B us) B) [] us) (forward-scaled B us h)
    (above-scaled (runs (ops_two B us) B) [] us (runs-entries (ops_two B us) B h))

last-first-scaled : (os : List Op) → Each Scaled os → Each Scaled (last-first os)
last-first-scaled [] e = tt
last-first-scaled (o ∷ os) e = each_append Scaled (last-first os) (o ∷ []) (last-first-scaled os e.1) (e.0, tt)

gather-scaled : (A : ℕ → ℕ → ℕ) (x : ℕ) (ts : List Step) → Entries A → Each Scaled (gather A x ts)
gather-scaled A x [] h = tt
gather-scaled A x (t ∷ ts) h = entry-scaled (A x t.pivot) x t.row (gather A x ts) (h x t.pivot) (gather-scaled A x ts h)

pub four-scaled : (A : ℕ → ℕ → ℕ) (xs : List ℕ) (ts : List Step) → Entries A → Each Scaled (phase_four A xs ts)
four-scaled A [] ts h = tt
four-scaled A (x ∷ xs) ts h = each_append Scaled (gather A x ts) (phase_four A xs ts) (gather-scaled A x ts h) (four-scaled A xs ts h)

module _ (z : Shape) (A : ℕ → ℕ → ℕ) (fit : Fit z A) where
  abbrev p : Phase
  p = phase_one A z

  abbrev os : List Op
  os = ops_one A p.steps

  abbrev cols : List ℕ
  cols = p.now.cols ++ p.out

  abbrev rest : List ℕ
  rest = p.now.elig ++ octet_rows z

  one : Each Scaled os
  one = one-scaled A p.steps fit.entries

  five : Each Scaled (kept (rows_of p.steps) os)
  five = kept-each Scaled (rows_of p.steps) os one

  at_way : (w : Way (Out Op Second)) → Ended z.m (runs os A) cols rest (length cols) w
      → Each Scaled (ending (finish z A p.steps os cols w) (finish z A p.steps os cols w).end).list
  at_way (go f) S =
      let r : Run = finish z A p.steps os cols (go f) in
      let two : Each Scaled r.two =
      subst (Each Scaled) (sym (two_is z A fit f S)) (two-scaled (runs os A) f.st.steps (runs-entries os A fit.entries)) in
      each_append Scaled (r.one ++ r.two ++ r.three ++ r.four) r.five
      (each_append Scaled (r.one ++ r.two ++ r.three) r.four
      (each_append Scaled (r.one ++ r.two) r.three (each_append Scaled r.one r.two one two)
      (last-first-scaled (kept (rows_of p.steps) os) five))
      (four-scaled A (rows_of p.steps) f.st.steps fit.entries)) five
  at_way (halt j f) S = tt

  at-cols : (l : List ℕ) → let r : Run = cond (goes_on z A false l) (second z A p) (refused z A p) in Each Scaled (ending r r.end).list
  at-cols [] = at_way (forward cols rest (acts os (working A z.m cols))) (ended z A fit)
  at-cols (q ∷ l) = tt

  pub answer-scaled : (room : ℕ) → Each Scaled (answer room (defined z A false)).list
  answer-scaled room = full (ltb room (length (whole (defined z A false))))
    where
      full : (b : Bool) → Each Scaled (cond b ListFull (ending (defined z A false) (defined z A false).end)).list
      full true = tt
      full false = at-cols p.now.cols
