-- The order of the rows, and an exchange in it.
--   rows-swapped       rows below m, none twice, stay so
--   rows_drop          from a place on too
--   brought            the row y at a place from q on is exchanged to place q: it comes first, and the others are as the rule has them
-- Assumes nothing.
use Rattle.std.specs.Prelude.{◌≡◌, refl, ◌≢◌, ◌⊎◌, Bool, true, false, List, [], ◌∷◌, ◌++◌, ℕ, zero, suc, ◌+◌, ◌-◌, ◌≤◌, ◌<◌, eqb, length, get_or, set, take, drop}
use Rattle.std.proofs.Common.{sym, ap, ap₂, subst, ◌∙◌, inl, inr, arith, eqb-true, eq-eqb, ne_eqb, length-set, length-drop, take-append-drop, get_or-set_same, get_or-set_other, get_or-drop}
use Rattle.std.proofs.lemmas.Bool.{eqb-false}
use Rattle.std.proofs.lemmas.List.{take-set-le, drop-set-add}
use Rattle.columns.specs.Exchange.{swapped, length-swapped}
use Rattle.oplist.specs.Facts.{Rows}
use Rattle.rule.specs.Rule.{replace, without}

-- where the entry at k came from
record From (a b k : ℕ) (d : List ℕ) : Type 0 where
  place : ℕ
  is : get_or (swapped a b d) k 0 ≡ get_or d place 0
  by : ((k ≡ a) × (place ≡ b)) ⊎ (((k ≡ b) × (place ≡ a)) ⊎ ((k ≢ a) × (k ≢ b) × (place ≡ k)))

from : (a b k : ℕ) (d : List ℕ) → a < length d → b < length d → From a b k d
unfolding swapped
from a b k d ha hb = at (eqb k b) (eqb k a) refl refl
  where
    n : length (set d a (get_or d b 0)) ≡ length d
    n = length-set d a (get_or d b 0)

    at : (p q : Bool) → eqb k b ≡ p → eqb k a ≡ q → From a b k d
    at true q e f =
        let z = eqb-true k b e in
        record {
          place = a;
          is = ap (λ (x : ℕ). get_or (swapped a b d) x 0) z ∙ get_or-set_same (set d a (get_or d b 0)) b (get_or d a 0) 0 (omega (arith, n));
          by = inr (inl (z, refl));
        }
    at false true e f =
        let z = eqb-true k a f in
        let m = eqb-false k b e in
        record {
          place = b;
          is =
              get_or-set_other (set d a (get_or d b 0)) b k (get_or d a 0) 0 m ∙ ap (λ (x : ℕ). get_or (set d a (get_or d b 0)) x 0) z
              ∙ get_or-set_same d a (get_or d b 0) 0 ha;
          by = inl (z, refl);
        }
    at false false e f =
        let m = eqb-false k b e in
        let m' = eqb-false k a f in
        record {
          place = k;
          is = get_or-set_other (set d a (get_or d b 0)) b k (get_or d a 0) 0 m ∙ get_or-set_other d a k (get_or d b 0) 0 m';
          by = inr (inr (m', m, refl));
        }

abbrev Cases : ℕ → ℕ → ℕ → ℕ → Type 0
Cases a b k t = ((k ≡ a) × (t ≡ b)) ⊎ (((k ≡ b) × (t ≡ a)) ⊎ ((k ≢ a) × (k ≢ b) × (t ≡ k)))

within : (a b k t n : ℕ) → a < n → b < n → k < n → Cases a b k t → t < n
within a b k t n ha hb hk (inl p) = omega arith
within a b k t n ha hb hk (inr (inl p)) = omega arith
within a b k t n ha hb hk (inr (inr p)) = omega arith

same_place : (a b j k t : ℕ) → Cases a b j t → Cases a b k t → j ≡ k
same_place a b j k t (inl p) (inl q) = omega arith
same_place a b j k t (inl p) (inr (inl q)) = omega arith
same_place a b j k t (inl p) (inr (inr q)) = absurd (q.1 (sym q.2 ∙ p.1))
same_place a b j k t (inr (inl p)) (inl q) = omega arith
same_place a b j k t (inr (inl p)) (inr (inl q)) = omega arith
same_place a b j k t (inr (inl p)) (inr (inr q)) = absurd (q.0 (sym q.2 ∙ p.1))
same_place a b j k t (inr (inr p)) (inl q) = absurd (p.1 (sym p.2 ∙ q.1))
same_place a b j k t (inr (inr p)) (inr (inl q)) = absurd (p.0 (sym p.2 ∙ q.1))
same_place a b j k t (inr (inr p)) (inr (inr q)) = omega arith

pub rows-swapped : (m a b : ℕ) (d : List ℕ) → a < length d → b < length d → Rows m d → Rows m (swapped a b d)
rows-swapped m a b d ha hb R = record { below = below; apart = apart }
  where
    n : length (swapped a b d) ≡ length d
    n = length-swapped a b d

    low : (k : ℕ) → k < length (swapped a b d) → (from a b k d ha hb).place < length d
    low k h = within a b k (from a b k d ha hb).place (length d) ha hb (omega (arith, h, n)) (from a b k d ha hb).by

    below : (k : ℕ) → k < length (swapped a b d) → get_or (swapped a b d) k 0 < m
    below k h = subst (λ (x : ℕ). x < m) (sym (from a b k d ha hb).is) (R.below (from a b k d ha hb).place (low k h))

    apart : (j k : ℕ) → j < length (swapped a b d) → k < length (swapped a b d) → get_or (swapped a b d) j 0 ≡ get_or (swapped a b d) k 0 → j ≡ k
    apart j k hj hk e =
        let f = from a b j d ha hb in
        let g = from a b k d ha hb in
        let t : f.place ≡ g.place = R.apart f.place g.place (low j hj) (low k hk) (sym f.is ∙ e ∙ g.is) in
        same_place a b j k g.place (subst (Cases a b j) t f.by) g.by

pub rows_drop : (m q : ℕ) (d : List ℕ) → Rows m d → Rows m (drop q d)
rows_drop m q d R = record { below = below; apart = apart }
  where
    n : length (drop q d) ≡ length d - q
    n = length-drop q d

    below : (k : ℕ) → k < length (drop q d) → get_or (drop q d) k 0 < m
    below k h = subst (λ (x : ℕ). x < m) (sym (get_or-drop q d k 0)) (R.below (q + k) (omega (arith, h, n)))

    apart : (j k : ℕ) → j < length (drop q d) → k < length (drop q d) → get_or (drop q d) j 0 ≡ get_or (drop q d) k 0 → j ≡ k
    apart j k hj hk e =
        omega (arith, R.apart (q + j) (q + k) (omega (arith, hj, n)) (omega (arith, hk, n)) (sym (get_or-drop q d j 0) ∙ e ∙ get_or-drop q d k 0))

-- a row that does not stand before j
set-replace : (l : List ℕ) (j a : ℕ) → j < length l → ((k : ℕ) → k < j → get_or l k 0 ≢ get_or l j 0) → set l j a ≡ replace (get_or l j 0) a l
set-replace [] j a h n = absurd (omega arith)
set-replace (b ∷ l) zero a h n = rw (eq-eqb b b refl)
set-replace (b ∷ l) (suc j) a h n =
    rw (ne_eqb b (get_or l j 0) (n 0 (omega arith)), set-replace l j a (omega arith) (λ k hk. n (suc k) (omega arith)))

brought_first : (l : List ℕ) (j : ℕ) → j < length l → ((k : ℕ) → k < j → get_or l k 0 ≢ get_or l j 0) → swapped 0 j l ≡ get_or l j 0 ∷ without (get_or l j 0) l
unfolding swapped
brought_first [] j h n = absurd (omega arith)
brought_first (a ∷ l) zero h n = rw (eq-eqb a a refl)
brought_first (a ∷ l) (suc j) h n =
    rw (ne_eqb a (get_or l j 0) (n 0 (omega arith)), set-replace l j a (omega arith) (λ k hk. n (suc k) (omega arith)))

swapped-drop : (q j : ℕ) (d : List ℕ) → drop q (swapped q (q + j) d) ≡ swapped 0 j (drop q d)
unfolding swapped
swapped-drop q j d =
    let z : q + 0 ≡ q = omega arith in
    drop-set-add q (set d q (get_or d (q + j) 0)) j (get_or d q 0)
    ∙ ap₂ (λ (x : List ℕ) (y : ℕ). set x j y)
    (ap (λ (n : ℕ). drop q (set d n (get_or d (q + j) 0))) (sym z) ∙ drop-set-add q d 0 (get_or d (q + j) 0)
    ∙ ap (set (drop q d) 0) (sym (get_or-drop q d j 0)))
    (ap (λ (n : ℕ). get_or d n 0) (sym z) ∙ sym (get_or-drop q d 0 0))

swapped-take : (q p : ℕ) (d : List ℕ) → q ≤ p → take q (swapped q p d) ≡ take q d
unfolding swapped
swapped-take q p d h = take-set-le q (set d q (get_or d p 0)) p (get_or d q 0) h ∙ take-set-le q d q (get_or d p 0) (omega arith)

pub brought : (m q p : ℕ) (d : List ℕ) → Rows m d → q ≤ p → p < length d → swapped q p d ≡ take q d ++ (get_or d p 0 ∷ without (get_or d p 0) (drop q d))
brought m q p d R h k =
    sym (take-append-drop q (swapped q p d))
    ∙ ap₂ (λ (x y : List ℕ). x ++ y) (swapped-take q p d h)
    (ap (λ (n : ℕ). drop q (swapped q n d)) (sym e) ∙ swapped-drop q (p - q) d ∙ brought_first (drop q d) (p - q) (omega (arith, length-drop q d)) first
    ∙ ap (λ (y : ℕ). y ∷ without y (drop q d)) there)
  where
    e : q + (p - q) ≡ p
    e = omega arith

    there : get_or (drop q d) (p - q) 0 ≡ get_or d p 0
    there = get_or-drop q d (p - q) 0 ∙ ap (λ (n : ℕ). get_or d n 0) e

    first : (j : ℕ) → j < p - q → get_or (drop q d) j 0 ≢ get_or (drop q d) (p - q) 0
    first j hj f = omega (arith, R.apart (q + j) p (omega arith) k (sym (get_or-drop q d j 0) ∙ f ∙ there))
