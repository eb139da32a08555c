-- The singles through a step: after each push and each removal they are exactly the rows that have a single one then.
--   Subset, in_left, in_right, in_either   membership in a joined list
--   nodup_snoc                             a new number at the end of a list without repeats
--   Removed, exchanged            a removal by exchange; the chosen row's exchange with the first
--   Exact                                  a list holds exactly the rows whose count is one
--   Event   one row's count changes
-- Assumes nothing.
use Rattle.std.specs.Prelude.{◌≡◌, refl, ◌⊎◌, List, [], ◌∷◌, ◌++◌, Bool, true, false, cond, ℕ, suc, eqb}
use Rattle.std.proofs.Common.{sym, ◌∙◌, inl, inr, ⊎_elim, eqb-true}
use Rattle.std.proofs.lemmas.Bool.{eqb-false}
use Rattle.rule.specs.Lists.{In, Nodup}
use Rattle.rule.specs.Sets.{in_cast}
use Rattle.rule.specs.Rule.{replace, without}

abbrev pub Subset : List ℕ → List ℕ → Type 0
Subset s t = (z : ℕ) → In z s → In z t

pub in_left : (z : ℕ) (s t : List ℕ) → In z s → In z (s ++ t)
in_left z [] t h = absurd h
in_left z (a ∷ s) t (inl e) = inl e
in_left z (a ∷ s) t (inr m) = inr (in_left z s t m)

pub in_right : (z : ℕ) (s t : List ℕ) → In z t → In z (s ++ t)
in_right z [] t h = h
in_right z (a ∷ s) t h = inr (in_right z s t h)

pub in_either : (z : ℕ) (s t : List ℕ) → In z (s ++ t) → In z s ⊎ In z t
in_either z [] t h = inr h
in_either z (a ∷ s) t (inl e) = inl (inl e)
in_either z (a ∷ s) t (inr m) = ⊎_elim (λ k. inl (inr k)) (λ k. inr k) (in_either z s t m)

pub nodup_snoc : (s : List ℕ) (y : ℕ) → Nodup s → (In y s → ⊥) → Nodup (s ++ (y ∷ []))
nodup_snoc [] y n h = ((λ k. k), tt)
nodup_snoc (a ∷ s) y n h =
    ((λ m. ⊎_elim n.0 (λ k. ⊎_elim (λ e. h (inl (sym e))) absurd k) (in_either a s (y ∷ []) m)), nodup_snoc s y n.1 (λ m. h (inr m)))

-- what remains after a removal: the same members but one, once each
pub record Removed (y : ℕ) (s t : List ℕ) : Type 0 where
  pub once : Nodup t
  pub from : (z : ℕ) → In z t → In z s × (z ≡ y → ⊥)
  pub kept : (z : ℕ) → In z s → (z ≡ y → ⊥) → In z t

-- the exchange of the chosen row leaves the others
replaced : (x a : ℕ) (l : List ℕ) → Nodup l → (In a l → ⊥) → (a ≡ x → ⊥) → In x l → Removed x (a ∷ l) (replace x a l)
replaced x a [] n h d m = absurd m
replaced x a (y ∷ l) n h d m = cases (eqb y x) refl (λ k. replaced x a l n.1 (λ j. h (inr j)) d k) m
  where
    cases : (t : Bool) → eqb y x ≡ t → (In x l → Removed x (a ∷ l) (replace x a l)) → In x (y ∷ l)
        → Removed x (a ∷ y ∷ l) (cond t (a ∷ l) (y ∷ replace x a l))
    cases true e i m = record {
      once = ((λ k. h (inr k)), n.1);
      from = λ z k. ⊎_elim (λ f. (inl f, λ g. d (sym f ∙ g))) (λ j. (inr (inr j), λ g. n.0 (in_cast y z l (eqb-true y x e ∙ sym g) j))) k;
      kept = λ z k c. ⊎_elim (λ f. inl f) (λ j. ⊎_elim (λ f. absurd (c (f ∙ eqb-true y x e))) (λ j'. inr j') j) k;
    }
    cases false e i (inl f) = absurd (eqb-false y x e (sym f))
    cases false e i (inr k) =
        let r : Removed x (a ∷ l) (replace x a l) = i k in
        record {
          once = ((λ j. ⊎_elim (λ f. h (inl (sym f))) n.0 (r.from y j).0), r.once);
          from = λ z j. ⊎_elim (λ f. (inr (inl f), λ g. eqb-false y x e (sym f ∙ g)))
              (λ j'. (⊎_elim (λ f. inl f) (λ f. inr (inr f)) (r.from z j').0, (r.from z j').1)) j;
          kept = λ z j c. ⊎_elim (λ f. inr (r.kept z (inl f) c)) (λ j'. ⊎_elim (λ f. inl f) (λ f. inr (r.kept z (inr f) c)) j') j;
        }

pub exchanged : (x : ℕ) (l : List ℕ) → Nodup l → In x l → Removed x l (without x l)
exchanged x [] n m = absurd m
exchanged x (a ∷ l) n m = cases (eqb a x) refl m
  where
    cases : (t : Bool) → eqb a x ≡ t → In x (a ∷ l) → Removed x (a ∷ l) (cond t l (replace x a l))
    cases true e m = record {
      once = n.1;
      from = λ z k. (inr k, λ g. n.0 (in_cast a z l (eqb-true a x e ∙ sym g) k));
      kept = λ z k c. ⊎_elim (λ f. absurd (c (f ∙ eqb-true a x e))) (λ j. j) k;
    }
    cases false e (inl f) = absurd (eqb-false a x e (sym f))
    cases false e (inr k) = replaced x a l n.1 n.0 (eqb-false a x e) k

-- `At z k`: row z has k ones now. Only rows of `Mem` may be in the list, and those of `Must` have to be.
pub record Exact (Mem Must : ℕ → Type 0) (At : ℕ → ℕ → Type 0) (s : List ℕ) : Type 0 where
  pub once : Nodup s
  pub right : (z : ℕ) → In z s → Mem z × At z 1
  pub all : (z : ℕ) → Must z → At z 1 → In z s

-- row y goes from suc k to k, and no other changes
pub record Event (Mem Must : ℕ → Type 0) (At At' : ℕ → ℕ → Type 0) (y k : ℕ) : Type 0 where
  pub was : (j : ℕ) → At y j → j ≡ suc k
  pub now : At' y k
  pub is : (j : ℕ) → At' y j → j ≡ k
  pub same : (z : ℕ) → Mem z → (z ≡ y → ⊥) → (j : ℕ) → At z j → At' z j
  pub back : (z : ℕ) → Must z → (z ≡ y → ⊥) → (j : ℕ) → At' z j → At z j
