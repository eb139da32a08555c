-- Finite sums of octets, and a row times a column.
--   pick, pick_eq, pick_ne   one of two numbers, by a test
--   delta i j                1 where the two are equal, else 0
--   sum n f, dot n a x       f 0 + .. + f (n - 1); a 0 x 0 + .. + a (n - 1) x (n - 1)
--   sum_ext, sum-zero        sums with the same terms, entry by entry, are the same; a sum of all zeros is 0
--   sum_one                  a sum in which all terms but one are zero is that term
--   sum_octet, dot_octet     a sum of octets is an octet; every row times a column is one
--   sum-add, dot-add         where terms, or rows, are added, so are the sums
--   sum-mul, dot-mul         where the terms, or the row, are multiplied by c, so is the sum
--   sum_swap                 two sums exchanged
-- Assumes nothing.
use Rattle.std.specs.Prelude.{◌≡◌, refl, ◌≢◌, Bool, true, false, ℕ, zero, suc, ◌<◌, eqb}
use Rattle.std.proofs.Common.{sym, ap, ap₂, ◌∙◌, not-suc-le-zero, arith, lit<, eq-eqb, ne_eqb, eqb-true}
use Rattle.std.proofs.lemmas.Bool.{eqb-false}
use Rattle.octet.specs.Octet.{add, mul}
use Rattle.octet.specs.Field.{add_octet, add-zero, mul-add, mul_assoc, mul_comm, mul_octet, zero-mul, exchange, zero-add, add-mul, Octet, Octets}

abbrev pub pick : Bool → ℕ → ℕ → ℕ
pick true a b = a
pick false a b = b

pub pick_eq : (i j a b : ℕ) → i ≡ j → pick (eqb i j) a b ≡ a
pick_eq i j a b e = ap (λ (t : Bool). pick t a b) (eq-eqb i j e)

pub pick_ne : (i j a b : ℕ) → i ≢ j → pick (eqb i j) a b ≡ b
pick_ne i j a b e = ap (λ (t : Bool). pick t a b) (ne_eqb i j e)

abbrev pub delta : ℕ → ℕ → ℕ
delta i j = pick (eqb i j) 1 0

abbrev pub sum : ℕ → (ℕ → ℕ) → ℕ
sum zero f = 0
sum (suc n) f = add (sum n f) (f n)

abbrev pub dot : ℕ → (ℕ → ℕ) → (ℕ → ℕ) → ℕ
dot n a x = sum n (λ j. mul (a j) (x j))

pub sum_ext : (n : ℕ) (f g : ℕ → ℕ) → ((j : ℕ) → j < n → f j ≡ g j) → sum n f ≡ sum n g
sum_ext zero f g h = refl
sum_ext (suc n) f g h =
    ap₂ (λ (x y : ℕ). add x y) (sum_ext n f g (λ j l. h j (omega arith))) (h n (omega arith))

pub sum-zero : (n : ℕ) (f : ℕ → ℕ) → ((j : ℕ) → j < n → f j ≡ 0) → sum n f ≡ 0
sum-zero zero f h = refl
sum-zero (suc n) f h =
    ap₂ (λ (x y : ℕ). add x y) (sum-zero n f (λ j l. h j (omega arith))) (h n (omega arith)) ∙ add-zero 0

pub sum_octet : (n : ℕ) (f : ℕ → ℕ) → Octets f → Octet (sum n f)
sum_octet zero f h = lit< tt
sum_octet (suc n) f h = add_octet (sum n f) (f n) (sum_octet n f h) (h n)

pub sum-add : (n : ℕ) (f g : ℕ → ℕ) → sum n (λ j. add (f j) (g j)) ≡ add (sum n f) (sum n g)
sum-add zero f g = sym (add-zero 0)
sum-add (suc n) f g =
    ap (λ (z : ℕ). add z (add (f n) (g n))) (sum-add n f g) ∙ exchange (sum n f) (sum n g) (f n) (g n)

pub sum-mul : (n c : ℕ) (f : ℕ → ℕ) → sum n (λ j. mul c (f j)) ≡ mul c (sum n f)
sum-mul zero c f = sym (mul_comm c 0 ∙ zero-mul c)
sum-mul (suc n) c f = ap (λ (z : ℕ). add z (mul c (f n))) (sum-mul n c f) ∙ sym (mul-add c (sum n f) (f n))

pub sum_one : (n : ℕ) (f : ℕ → ℕ) (i : ℕ) → i < n → ((j : ℕ) → j < n → j ≢ i → f j ≡ 0) → sum n f ≡ f i
sum_one zero f i l h = absurd (not-suc-le-zero l)
sum_one (suc n) f i l h = last (λ (k : i < n). sum_one n f i k (λ j q. h j (omega arith))) (eqb n i) refl
  where
    last : (i < n → sum n f ≡ f i) → (b : Bool) → eqb n i ≡ b → sum (suc n) f ≡ f i
    last rec true e =
        let m : n ≡ i = eqb-true n i e in
        ap (λ (z : ℕ). add z (f n)) (sum-zero n f (λ j q. h j (omega arith) (omega arith))) ∙ zero-add (f n) ∙ ap f m
    last rec false e =
        let m : n ≢ i = eqb-false n i e in
        ap₂ (λ (x y : ℕ). add x y) (rec (omega arith)) (h n (omega arith) m) ∙ add-zero (f i)

pub sum_swap : (n m : ℕ) (f : ℕ → ℕ → ℕ) → sum n (λ i. sum m (λ j. f i j)) ≡ sum m (λ j. sum n (λ i. f i j))
sum_swap zero m f = sym (sum-zero m (λ j. 0) (λ j l. refl))
sum_swap (suc n) m f =
    ap (λ (z : ℕ). add z (sum m (f n))) (sum_swap n m f) ∙ sym (sum-add m (λ j. sum n (λ i. f i j)) (f n))

pub dot_octet : (n : ℕ) (a x : ℕ → ℕ) → Octet (dot n a x)
dot_octet n a x = sum_octet n (λ j. mul (a j) (x j)) (λ j. mul_octet (a j) (x j))

pub dot-add : (n : ℕ) (a b x : ℕ → ℕ) → dot n (λ j. add (a j) (b j)) x ≡ add (dot n a x) (dot n b x)
dot-add n a b x =
    sum_ext n (λ j. mul (add (a j) (b j)) (x j)) (λ j. add (mul (a j) (x j)) (mul (b j) (x j)))
    (λ j l. add-mul (a j) (b j) (x j))
    ∙ sum-add n (λ j. mul (a j) (x j)) (λ j. mul (b j) (x j))

pub dot-mul : (n c : ℕ) (a x : ℕ → ℕ) → dot n (λ j. mul c (a j)) x ≡ mul c (dot n a x)
dot-mul n c a x =
    sum_ext n (λ j. mul (mul c (a j)) (x j)) (λ j. mul c (mul (a j) (x j)))
    (λ j l. mul_assoc c (a j) (x j))
    ∙ sum-mul n c (λ j. mul (a j) (x j))
