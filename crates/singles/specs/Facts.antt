-- `swap_remove` by places: the rows with a single one at the front of a slice, of which one is taken out, put in, or both.
--   Kept                    the slice is as long as it was, and its first r entries are the list l
--   front-one               equal lists at the fronts of two slices are equally many entries
--   kept-one                two outcomes that meet `Kept` are equal in what is in use
--   absent, present         `swap_remove` of a number: it is not in the list, which stays; it is, first at place k, and the last number comes there
--   kept_out, kept_same     the slice, where the number is found and taken out, and where it is not found
--   refresh_in, refresh-not `refresh` by the number of ones that is left: one, so the row is taken out and then put in; any other number, so it is only taken out
--   Picking                 where a loop stands that puts the members of e that pass into a slice: k of e are done, and n are put in
-- Assumes nothing.
use Rattle.std.specs.Prelude.{◌≡◌, refl, Bool, true, false, List, [], ◌∷◌, ◌++◌, ℕ, zero, suc, ◌-◌, ◌<◌, ◌≤◌, length, get_or, set, take, drop, eqb, position, Some, None}
use Rattle.std.proofs.Common.{sym, ap, subst, ◌∙◌, arith, length-set, length-take-le, get_or-take, take-take, eq-eqb, ne_eqb, eqb-true}
use Rattle.std.proofs.Math.Seq.{take-set-lt}
use Rattle.std.proofs.lemmas.Bool.{eqb-false}
use Rattle.std.proofs.lemmas.List.Quantifiers.{position-Some}
use Rattle.std.proofs.lemmas.List.Sums.{fails_before_first}
use Rattle.columns.specs.First.{first-position, first_missing}
use Rattle.columns.specs.Exchange.{is}
use Rattle.rule.specs.Lists.{filter}
use Rattle.rule.specs.Rule.{bring, last_first, swap_remove, refresh}

-- the first r of the slice are the list l, and the slice is as long as it was
pub record Kept (old now : List ℕ) (r : ℕ) (l : List ℕ) : Type 0 where
  pub room : length now ≡ length old
  pub used : r ≤ length now
  pub holds : take r now ≡ l

pub front-one : (s t : List ℕ) (n m : ℕ) → n ≤ length s → m ≤ length t → take n s ≡ take m t → n ≡ m
front-one s t n m h k e = sym (length-take-le n s h) ∙ ap length e ∙ length-take-le m t k

pub kept-one : {old now now' l : List ℕ} {r r' : ℕ} → Kept old now r l → Kept old now' r' l → (r ≡ r') × (take r now ≡ take r' now')
kept-one {old} {now} {now'} {l} {r} {r'} p q = let e = p.holds ∙ sym q.holds in (front-one now now' r r' p.used q.used e, e)

last-at : (b : ℕ) (l : List ℕ) → last_first (b ∷ l) ≡ get_or (b ∷ l) (length l) 0 ∷ take (length l) (b ∷ l)
last-at b [] = refl
last-at b (a ∷ l) = ap (bring b) (last-at a l)

pub absent : (y : ℕ) (s : List ℕ) → ((k : ℕ) → k < length s → get_or s k 0 ≡ y → ⊥) → swap_remove y s ≡ s
absent y [] h = refl
absent y (a ∷ l) h =
    let e : eqb a y ≡ false = ne_eqb a y (h 0 (omega arith)) in
    rw e (ap (λ (t : List ℕ). a ∷ t) (absent y l (λ k i. h (suc k) (omega arith))))

pub present : (y : ℕ) (s : List ℕ) (k m : ℕ) → length s ≡ suc m → k < length s → ((j : ℕ) → j < k → get_or s j 0 ≡ y → ⊥) → get_or s k 0 ≡ y
    → swap_remove y s ≡ take m (set s k (get_or s m 0))
present y [] k m n i h f = absurd (omega arith)
present y (a ∷ []) zero zero n i h f = let e : eqb a y ≡ true = eq-eqb a y f in rw e refl
present y (a ∷ []) zero (suc m) n i h f = absurd (omega arith)
present y (a ∷ []) (suc k) m n i h f = absurd (omega arith)
present y (a ∷ b ∷ l) zero zero n i h f = absurd (omega arith)
present y (a ∷ b ∷ l) zero (suc m) n i h f =
    let e : eqb a y ≡ true = eq-eqb a y f in
    let g : length l ≡ m = omega arith in
    rw e (subst (λ (z : ℕ). last_first (b ∷ l) ≡ get_or (b ∷ l) z 0 ∷ take z (b ∷ l)) g (last-at b l))
present y (a ∷ b ∷ l) (suc k) zero n i h f = absurd (omega arith)
present y (a ∷ b ∷ l) (suc k) (suc m) n i h f =
    let e : eqb a y ≡ false = ne_eqb a y (h 0 (omega arith)) in
    rw e (ap (λ (t : List ℕ). a ∷ t) (present y (b ∷ l) k m (omega arith) (omega arith) (λ j r. h (suc j) (omega arith)) f))

-- what `take_out` and `put_in` do to the slice
module _ (s : List ℕ) (n y : ℕ) (fits : n ≤ length s) where
  len : length (take n s) ≡ n
  len = length-take-le n s fits

  pub kept_out : (k : ℕ) → Some k ≡ position (is y) (take n s) → Kept s (set s k (get_or s (n - 1) 0)) (n - 1) (swap_remove y (take n s))
  kept_out k e =
      let f = position-Some (is y) (take n s) k 0 (sym e) in
      let i : k < n = omega (arith, f.0, len) in
      record {
        room = length-set s k (get_or s (n - 1) 0);
        used = omega (arith, length-set s k (get_or s (n - 1) 0));
        holds =
            sym (take-take (n - 1) n (set s k (get_or s (n - 1) 0)) (omega arith))
            ∙ ap (take (n - 1)) (take-set-lt n s k (get_or s (n - 1) 0) i ∙ ap (set (take n s) k) (sym (get_or-take n s (n - 1) 0 (omega arith))))
            ∙ sym (present y (take n s) k (n - 1) (omega (arith, len)) f.0 (λ j r. eqb-false (get_or (take n s) j 0) y (f.2 j r)) (eqb-true (get_or (take n s) k 0) y f.1));
      }

  pub kept_same : None ≡ position (is y) (take n s) → Kept s s n (swap_remove y (take n s))
  kept_same e = record {
    room = refl;
    used = fits;
    holds =
        sym (absent y (take n s)
        (λ j r. eqb-false (get_or (take n s) j 0) y
        (fails_before_first (is y) (take n s) j 0 (omega (arith, first_missing (is y) (take n s) e, first-position (is y) (take n s))))));
  }

module _ {s t : List ℕ} {r : ℕ} (l : List ℕ) (y k : ℕ) where
  pub refresh-not : (k ≡ 1 → ⊥) → Kept s t r (swap_remove y l) → Kept s t r (refresh l y k)
  refresh-not a q = go k a
    where
      go : (k : ℕ) → (k ≡ 1 → ⊥) → Kept s t r (refresh l y k)
      go zero a = q
      go (suc zero) a = absurd (a refl)
      go (suc (suc k)) a = q

-- taken out, then put in
pub refresh_in : {s t u : List ℕ} {r m : ℕ} (l : List ℕ) (y k : ℕ) → k ≡ 1 → Kept s t m (swap_remove y l) → Kept t u r (take m t ++ (y ∷ [])) → Kept s u r (refresh l y k)
refresh_in l y k e a b = rw e (record { room = b.room ∙ a.room; used = b.used; holds = b.holds ∙ ap (λ (z : List ℕ). z ++ (y ∷ [])) a.holds })

-- the members of e that pass, put into a slice one after another: k of e are done
pub record Picking (p : ℕ → Bool) (e s₀ s : List ℕ) (n k : ℕ) : Type 0 where
  pub room : length s ≡ length s₀
  pub few : n ≤ k
  pub within : k ≤ length e
  pub left : take n s ++ filter p (drop k e) ≡ filter p e
