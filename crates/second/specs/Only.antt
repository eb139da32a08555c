-- Two outcomes that meet what a function promises are equal: the answer, the order, the journal and the matrix.
--   Same                the outcomes of two calls
--   eliminated_only     of `forward` and of `eliminate`
--   reduced_only        of `phase_two`
--   cleared_only        of `backward`: the journal
-- Assumes nothing.
use Rattle.std.specs.Prelude.{◌≡◌, List, ◌++◌, ℕ, ◌-◌, take, drop, replicate, Result, Ok, Err, ⊤}
use Rattle.std.proofs.Common.{refl, sym, ap, ap₂, ◌∙◌, arith, take-append-drop}
use Rattle.std.proofs.lemmas.List.{length-replicate}
use Rattle.loops.specs.Out.{Out, Run, at as beside}
use Rattle.loops.specs.Way.{Way}
use Rattle.oplist.specs.declared.Op.{Op}
use Rattle.phases.specs.Two.{Second}
use Rattle.tally.specs.Book.{Book}
use Rattle.second.specs.declared.Singular.{Singular}
use Rattle.second.specs.Store.{store_of}
use Rattle.second.specs.Forward.{View, sight, told, Eliminated}
use Rattle.second.specs.Backward.{Cleared}
use Rattle.second.specs.Whole.{Reduced}

pub record Same (m l i : ℕ) (r r' : Result ⊤ Singular) (w w' d d' : List ℕ) (g g' : Book) : Type 0 where
  pub answer : r ≡ r'
  pub store : store_of m l i w ≡ store_of m l i w'
  pub order : d ≡ d'
  pub journal : g ≡ g'

record Told (r r' : Result ⊤ Singular) (v v' : View) (g g' : Book) : Type 0 where
  answer : r ≡ r'
  sights : v ≡ v'
  journal : g ≡ g'

told_only : (r r' : Result ⊤ Singular) {v v' : View} {g g' : Book} → told r v g ≡ told r' v' g' → Told r r' v v' g g'
told_only (Ok t) (Ok u) {v} {v'} {g} {g'} e =
    let a : beside v g ≡ beside v' g' = cc in
    record { answer = refl; sights = ap (λ (x : Run Book View). x.st) a; journal = ap (λ (x : Run Book View). x.log) a }
told_only (Ok t) (Err s) e = let z : ◌≡◌ {A = ℕ} 0 1 = cc in absurd (omega arith)
told_only (Err s) (Ok t) e = let z : ◌≡◌ {A = ℕ} 0 1 = cc in absurd (omega arith)
told_only (Err s) (Err s') {v} {v'} {g} {g'} e =
    let n : s.place ≡ s'.place = cc in
    let a : beside v g ≡ beside v' g' = cc in
    record {
      answer = ap (λ (k : ℕ). Err (record { place = k })) n;
      sights = ap (λ (x : Run Book View). x.st) a;
      journal = ap (λ (x : Run Book View). x.log) a;
    }

same : (m l i : ℕ) (d₀ w w' d d' : List ℕ) (g g' : Book) (r r' : Result ⊤ Singular) → take i d ≡ take i d₀ → take i d' ≡ take i d₀
    → told r (sight (drop i d) (store_of m l i w)) g ≡ told r' (sight (drop i d') (store_of m l i w')) g' → Same m l i r r' w w' d d' g g'
same m l i d₀ w w' d d' g g' r r' a b e =
    let t = told_only r r' e in
    record {
      answer = t.answer;
      store = ap (λ (v : View). v.mat) t.sights;
      order =
          sym (take-append-drop i d) ∙ ap₂ (λ (x y : List ℕ). x ++ y) (a ∙ sym b) (ap (λ (v : View). v.rows) t.sights) ∙ take-append-drop i d';
      journal = t.journal;
    }

module _ {m l i : ℕ} {d₀ w w' d d' : List ℕ} {g g' : Book} {r r' : Result ⊤ Singular} where
  pub eliminated_only : {by : List ℕ → List ℕ → List (List ℕ) → Way (Out Op Second)} {w₀ : List ℕ} {g₀ : Book}
      → Eliminated by m l i w₀ d₀ g₀ r w d g → Eliminated by m l i w₀ d₀ g₀ r' w' d' g' → Same m l i r r' w w' d d' g g'
  eliminated_only p q =
      same m l i d₀ w w' d d' g g' r r' p.chosen q.chosen (p.is (replicate (l - i) 0) (length-replicate (l - i) 0) ∙ sym (q.is (replicate (l - i) 0) (length-replicate (l - i) 0)))

  pub reduced_only : {s h : ℕ} {bits octs c : List ℕ} {g₀ : Book}
      → Reduced m l s h i bits octs c d₀ g₀ r w d g → Reduced m l s h i bits octs c d₀ g₀ r' w' d' g' → Same m l i r r' w w' d d' g g'
  reduced_only p q = same m l i d₀ w w' d d' g g' r r' p.chosen q.chosen (p.is ∙ sym q.is)

pub cleared_only : {os : List Op} {g h h' : Book} → Cleared os g h → Cleared os g h' → h ≡ h'
cleared_only p q = p.is ∙ sym q.is
