-- The singles through a step: after each push and each removal they are exactly the rows that have a single one then.
--   removed            a removal by exchange takes the row out
--   lose_exact, lose_first_exact, refresh_exact   one row's count changes
-- Assumes nothing.
use Rattle.std.specs.Prelude.{◌≡◌, refl, ◌⊎◌, List, [], ◌∷◌, ◌++◌, Bool, true, false, cond, ℕ, zero, suc, eqb}
use Rattle.std.proofs.Common.{sym, subst, ◌∙◌, inl, inr, ⊎_elim, arith, eqb-true}
use Rattle.std.proofs.lemmas.Bool.{eqb-false}
use Rattle.rule.specs.Lists.{In, Nodup}
use Rattle.rule.specs.Sets.{bool_or, in_cast}
use Rattle.rule.specs.Rule.{bring, last_first, swap_remove, lose, lose_first, refresh}
use Rattle.rule.specs.Singles.{Event, Exact, Removed, Subset, in_either, in_left, in_right, nodup_snoc}

bring_in : (z b : ℕ) (l : List ℕ) → In z (bring b l) → In z (b ∷ l)
bring_in z b [] h = h
bring_in z b (a ∷ l) (inl e) = inr (inl e)
bring_in z b (a ∷ l) (inr (inl e)) = inl e
bring_in z b (a ∷ l) (inr (inr m)) = inr (inr m)

in_bring : (z b : ℕ) (l : List ℕ) → In z (b ∷ l) → In z (bring b l)
in_bring z b [] h = h
in_bring z b (a ∷ l) (inl e) = inr (inl e)
in_bring z b (a ∷ l) (inr (inl e)) = inl e
in_bring z b (a ∷ l) (inr (inr m)) = inr (inr m)

nodup_bring : (b : ℕ) (l : List ℕ) → (In b l → ⊥) → Nodup l → Nodup (bring b l)
nodup_bring b [] h n = ((λ k. k), tt)
nodup_bring b (a ∷ l) h n = (⊎_elim (λ e. h (inl (sym e))) n.0, ((λ m. h (inr m)), n.1))

last_in : (l : List ℕ) → Subset (last_first l) l
last_in [] z h = h
last_in (b ∷ l) z h = ⊎_elim (λ e. inl e) (λ m. inr (last_in l z m)) (bring_in z b (last_first l) h)

in_last : (l : List ℕ) → Subset l (last_first l)
in_last [] z h = h
in_last (b ∷ l) z h = in_bring z b (last_first l) (⊎_elim (λ e. inl e) (λ m. inr (in_last l z m)) h)

nodup_last : (l : List ℕ) → Nodup l → Nodup (last_first l)
nodup_last [] n = n
nodup_last (b ∷ l) n = nodup_bring b (last_first l) (λ m. n.0 (last_in l b m)) (nodup_last l n.1)

pub removed : (y : ℕ) (s : List ℕ) → Nodup s → Removed y s (swap_remove y s)
removed y [] n = record { once = tt; from = λ z m. absurd m; kept = λ z m d. m }
removed y (a ∷ l) n = cases (eqb a y) refl (removed y l n.1)
  where
    cases : (t : Bool) → eqb a y ≡ t → Removed y l (swap_remove y l) → Removed y (a ∷ l) (cond t (last_first l) (a ∷ swap_remove y l))
    cases true e i = record {
      once = nodup_last l n.1;
      from = λ z m. (inr (last_in l z m), λ f. n.0 (in_cast a z l (eqb-true a y e ∙ sym f) (last_in l z m)));
      kept = λ z m d. in_last l z (⊎_elim (λ f. absurd (d (f ∙ eqb-true a y e))) (λ k. k) m);
    }
    cases false e i = record {
      once = ((λ m. n.0 (i.from a m).0), i.once);
      from = λ z m. ⊎_elim (λ f. (inl f, λ g. eqb-false a y e (sym f ∙ g))) (λ k. (inr (i.from z k).0, (i.from z k).1)) m;
      kept = λ z m d. ⊎_elim (λ f. inl f) (λ k. inr (i.kept z k d)) m;
    }

differ : (z y : ℕ) → (z ≡ y) ⊎ (z ≡ y → ⊥)
differ z y = ⊎_elim (λ e. inl (eqb-true z y e)) (λ e. inr (eqb-false z y e)) (bool_or (eqb z y))

module _ (Mem Must : ℕ → Type 0) (At At' : ℕ → ℕ → Type 0) (s : List ℕ) (h : Exact Mem Must At s) (y : ℕ) where
  -- not in the list before, and none to put in
  pass : (k : ℕ) → Event Mem Must At At' y (suc k) → (Must y → k ≡ 0 → ⊥) → Exact Mem Must At' s
  pass k v n = record {
    once = h.once;
    right = λ z m. ((h.right z m).0, v.same z (h.right z m).0 (λ e. omega (arith, v.was 1 (subst (λ (w : ℕ). At w 1) e (h.right z m).1))) 1 (h.right z m).1);
    all = λ z i a. ⊎_elim
        (λ (e : z ≡ y). absurd (n (subst Must e i) (let q : 1 ≡ suc k = v.is 1 (subst (λ (w : ℕ). At' w 1) e a) in omega arith)))
        (λ (d : z ≡ y → ⊥). h.all z i (v.back z i d 1 a)) (differ z y);
  }

  out : Event Mem Must At At' y 0 → Exact Mem Must At' (swap_remove y s)
  out v =
      let r : Removed y s (swap_remove y s) = removed y s h.once in
      record {
        once = r.once;
        right = λ z m. let k : In z s × (z ≡ y → ⊥) = r.from z m in ((h.right z k.0).0, v.same z (h.right z k.0).0 k.1 1 (h.right z k.0).1);
        all = λ z i a. ⊎_elim
            (λ (e : z ≡ y). let q : 1 ≡ 0 = v.is 1 (subst (λ (w : ℕ). At' w 1) e a) in absurd (omega arith))
            (λ (d : z ≡ y → ⊥). r.kept z (h.all z i (v.back z i d 1 a)) d) (differ z y);
      }

  push : Mem y → Event Mem Must At At' y 1 → Exact Mem Must At' (s ++ (y ∷ []))
  push my v =
      let n : In y s → ⊥ = λ m. omega (arith, v.was 1 (h.right y m).1) in
      record {
        once = nodup_snoc s y h.once n;
        right = λ z m. ⊎_elim (λ (k : In z s). ((h.right z k).0, v.same z (h.right z k).0 (λ e. n (in_cast y z s (sym e) k)) 1 (h.right z k).1))
            (λ k. ⊎_elim (λ (e : z ≡ y). (subst Mem (sym e) my, subst (λ (w : ℕ). At' w 1) (sym e) v.now)) absurd k) (in_either z s (y ∷ []) m);
        all = λ z i a. ⊎_elim (λ (e : z ≡ y). in_right z s (y ∷ []) (inl e)) (λ (d : z ≡ y → ⊥). in_left z s (y ∷ []) (h.all z i (v.back z i d 1 a))) (differ z y);
      }

  pub lose_exact : Mem y → (k : ℕ) → Event Mem Must At At' y k → Exact Mem Must At' (lose s y k)
  lose_exact my zero v = out v
  lose_exact my (suc zero) v = push my v
  lose_exact my (suc (suc k)) v = pass (suc k) v (λ i e. omega arith)

  pub lose_first_exact : (Must y → ⊥) → (k : ℕ) → Event Mem Must At At' y k → Exact Mem Must At' (lose_first s y k)
  lose_first_exact n zero v = out v
  lose_first_exact n (suc k) v = pass k v (λ i e. n i)

-- taken out and put back
module _ (Mem Must : ℕ → Type 0) (At : ℕ → ℕ → Type 0) (s : List ℕ) (h : Exact Mem Must At s) (y : ℕ) (my : Mem y) where
  gone : (k : ℕ) → (At y 1 → ⊥) → Exact Mem Must At (swap_remove y s)
  gone k n =
      let r : Removed y s (swap_remove y s) = removed y s h.once in
      record {
        once = r.once;
        right = λ z m. h.right z (r.from z m).0;
        all = λ z i a. r.kept z (h.all z i a) (λ e. n (subst (λ (w : ℕ). At w 1) e a));
      }

  pub refresh_exact : (k : ℕ) → At y k → ((j : ℕ) → At y j → j ≡ k) → Exact Mem Must At (refresh s y k)
  refresh_exact zero a u = gone 0 (λ b. omega (arith, u 1 b))
  refresh_exact (suc zero) a u =
      let r : Removed y s (swap_remove y s) = removed y s h.once in
      record {
        once = nodup_snoc (swap_remove y s) y r.once (λ m. (r.from y m).1 refl);
        right = λ z m. ⊎_elim (λ (k : In z (swap_remove y s)). h.right z (r.from z k).0)
            (λ k. ⊎_elim (λ (e : z ≡ y). (subst Mem (sym e) my, subst (λ (w : ℕ). At w 1) (sym e) a)) absurd k) (in_either z (swap_remove y s) (y ∷ []) m);
        all = λ z i b. ⊎_elim (λ (e : z ≡ y). in_right z (swap_remove y s) (y ∷ []) (inl e))
            (λ (d : z ≡ y → ⊥). in_left z (swap_remove y s) (y ∷ []) (r.kept z (h.all z i b) d)) (differ z y);
      }
  refresh_exact (suc (suc k)) a u = gone k (λ b. omega (arith, u 1 b))
