-- The tables' one rule, as a test that antt computes over a whole table: each power is twice the one before, and the logarithm undoes it.
-- The laws take the test to each entry. Assumes nothing.
use mathlib.Core.Path.{◌≡◌, sym, ap, ◌∙◌}
use mathlib.Core.Bool.{Bool, true}
use mathlib.Core.List.{List, [], ◌∷◌}
use Prim.Native.Nat.{ℕ, zero, suc, ◌+◌, ◌<◌}
use native.Mathlib.Nat.{zero-add, add-zero, add-suc, suc-add, le_of_suc-le-suc, not-suc-le-zero}
use lib.Dec.{T, eqb, eqb→eq, ltb, ltb→lt}
use lib.ListN.{length, get_or}
use Rattle.octet.specs.Octet.{mul, power}
use Rattle.loops.specs.Table.{both, both_left, both_right}
use Rattle.octet.specs.Powers.{power-suc, power_zero, powers}

-- each entry is twice the one before, x the one before the first
unfoldable pub doubles : ℕ → List ℕ → Bool
doubles x [] = true
doubles x (y ∷ ys) = both (eqb y (mul 2 x)) (doubles y ys)

-- the table starts with 1, and each entry after is twice the one before
unfoldable pub rises : List ℕ → Bool
rises [] = true
rises (x ∷ xs) = both (eqb x 1) (doubles x xs)

doubles-at : (k x : ℕ) (l : List ℕ) → x ≡ power 2 k → T (doubles x l) → (i : ℕ) → i < length l → get_or l i 0 ≡ power 2 (suc k + i)
unfolding doubles
doubles-at k x [] e t i h = absurd (not-suc-le-zero h)
doubles-at k x (y ∷ ys) e t zero h =
    eqb→eq y (mul 2 x) (both_left (eqb y (mul 2 x)) (doubles y ys) t) ∙ ap (mul 2) e ∙ sym (power-suc 2 k) ∙ ap (power 2) (sym (add-zero (suc k)))
doubles-at k x (y ∷ ys) e t (suc i) h =
    doubles-at (suc k) y ys (eqb→eq y (mul 2 x) (both_left (eqb y (mul 2 x)) (doubles y ys) t) ∙ ap (mul 2) e ∙ sym (power-suc 2 k))
    (both_right (eqb y (mul 2 x)) (doubles y ys) t) i (le_of_suc-le-suc h)
    ∙ ap (power 2) (suc-add (suc k) i ∙ sym (add-suc (suc k) i))

-- entry i of a table that rises is the ith power of 2
pub rises-at : (l : List ℕ) → T (rises l) → (i : ℕ) → i < length l → get_or l i 0 ≡ power 2 i
unfolding rises
rises-at [] t i h = absurd (not-suc-le-zero h)
rises-at (x ∷ xs) t zero h = eqb→eq x 1 (both_left (eqb x 1) (doubles x xs) t) ∙ sym (power_zero 2)
rises-at (x ∷ xs) t (suc i) h =
    doubles-at 0 x xs (eqb→eq x 1 (both_left (eqb x 1) (doubles x xs) t) ∙ sym (power_zero 2)) (both_right (eqb x 1) (doubles x xs) t) i (le_of_suc-le-suc h)
    ∙ ap (power 2) (suc-add 0 i ∙ ap suc (zero-add i))

-- entry a of the logarithms, a counted from k, is below 255 and a's place in the powers e
unfoldable pub undoes : List ℕ → ℕ → List ℕ → Bool
undoes e k [] = true
undoes e k (x ∷ xs) = both (both (ltb x 255) (eqb (get_or e x 0) k)) (undoes e (suc k) xs)

undoes_from : (e l : List ℕ) (k : ℕ) → T (undoes e k l) → (i : ℕ) → i < length l → (get_or l i 0 < 255) × (get_or e (get_or l i 0) 0 ≡ k + i)
unfolding undoes
undoes_from e [] k t i h = absurd (not-suc-le-zero h)
undoes_from e (x ∷ xs) k t zero h =
    let b = both_left (both (ltb x 255) (eqb (get_or e x 0) k)) (undoes e (suc k) xs) t in
    (ltb→lt x 255 (both_left (ltb x 255) (eqb (get_or e x 0) k) b), eqb→eq (get_or e x 0) k (both_right (ltb x 255) (eqb (get_or e x 0) k) b) ∙ sym (add-zero k))
undoes_from e (x ∷ xs) k t (suc i) h =
    let r = undoes_from e xs (suc k) (both_right (both (ltb x 255) (eqb (get_or e x 0) k)) (undoes e (suc k) xs) t) i (le_of_suc-le-suc h) in
    (r.0, r.1 ∙ suc-add k i ∙ sym (add-suc k i))

-- the whole table, with an entry for zero in front that says nothing
unfoldable pub inverts : List ℕ → List ℕ → Bool
inverts e [] = true
inverts e (x ∷ xs) = undoes e 1 xs

pub inverts-at : (e l : List ℕ) → T (inverts e l) → (a : ℕ) → 0 < a → a < length l → (get_or l a 0 < 255) × (get_or e (get_or l a 0) 0 ≡ a)
unfolding inverts
inverts-at e [] t a p h = absurd (not-suc-le-zero h)
inverts-at e (x ∷ xs) t zero p h = absurd (not-suc-le-zero p)
inverts-at e (x ∷ xs) t (suc a) p h =
    let r = undoes_from e xs 1 t a (le_of_suc-le-suc h) in (r.0, r.1 ∙ suc-add 0 a ∙ ap suc (zero-add a))

powers-at : (n k i : ℕ) → i < n → get_or (powers n (power 2 k)) i 0 ≡ power 2 (k + i)
unfolding powers
powers-at zero k i h = absurd (not-suc-le-zero h)
powers-at (suc n) k zero h = ap (power 2) (sym (add-zero k))
powers-at (suc n) k (suc i) h =
    ap (λ x. get_or (powers n x) i 0) (sym (power-suc 2 k)) ∙ powers-at n (suc k) i (le_of_suc-le-suc h) ∙ ap (power 2) (suc-add k i ∙ sym (add-suc k i))

-- entry a of a table that undoes the powers is below 255, and a is that power of 2
pub logs_at : (l : List ℕ) → T (inverts (powers 255 1) l) → (a : ℕ) → 0 < a → a < length l → (get_or l a 0 < 255) × (power 2 (get_or l a 0) ≡ a)
logs_at l t a p h =
    let r = inverts-at (powers 255 1) l t a p h in (
      r.0,
      ap (power 2) (sym (zero-add (get_or l a 0))) ∙ sym (powers-at 255 0 (get_or l a 0) r.0)
          ∙ ap (λ x. get_or (powers 255 x) (get_or l a 0) 0) (power_zero 2) ∙ r.1,
    )
