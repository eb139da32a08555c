-- Products of octets, additive in each argument, so that their laws are tests at the powers of 2, which antt computes.
--   mul-add_l, mul-add-r     the product distributes over sums
--   Linear f                 f is additive and reads the low eight digits of a number
--   linear_l, linear_r       so is the product, in each argument
--   after                    and one such function after another
--   same                     two such functions that agree at the eight powers of 2 are the same
--   equal                    two functions are the same below n, by a test that antt computes
--   mul_comm, mul_assoc, mul-one_l, mul-one-r, mul-zero_l, mul-zero-r, mul_lt   the laws of a commutative ring; a product is an octet
-- Assumes nothing.
use Rattle.std.specs.Prelude.{◌≡◌, refl, ℕ, zero, suc, ◌+◌, ◌*◌, ◌/◌, ◌%◌, ◌^◌, ◌<◌, T, eqb}
use Rattle.std.proofs.Common.{sym, ap, ap₂, ◌∙◌, subst, mod-lt, zero-lt-suc, arith, eqb→eq}
use Rattle.std.specs.Int.Bits.{differ}
use Rattle.octet.specs.Octet.{add, times, product, modulus, rest, mul}
use Rattle.loops.specs.Table.{all, all-at}
use Rattle.octet.specs.Sums.{add_half, add_odd, add_shr, add_mod, add_self, add_zero_l, add_zero_r, add_swap, add_double, odd_lt, Additive, agree, at_zero}

times-add_l : (x y p : ℕ) → x < 2 → y < 2 → times (differ x y) p ≡ add (times x p) (times y p)
unfolding times
times-add_l zero y p hx hy = sym (add_zero_l (times y p))
times-add_l (suc x) zero p hx hy = sym (add_zero_r p)
times-add_l (suc zero) (suc zero) p hx hy = sym (add_self p)
times-add_l (suc zero) (suc (suc y)) p hx hy = absurd (omega arith)
times-add_l (suc (suc x)) (suc y) p hx hy = absurd (omega arith)

times-add-r : (c p q : ℕ) → times c (add p q) ≡ add (times c p) (times c q)
unfolding times
times-add-r zero p q = sym (add_self 0)
times-add-r (suc c) p q = refl

-- the low coefficient of a sum, times p
low_add : (a b p : ℕ) → times (add a b % 2) p ≡ add (times (a % 2) p) (times (b % 2) p)
low_add a b p = ap (λ (x : ℕ). times x p) (add_odd a b) ∙ times-add_l (a % 2) (b % 2) p (odd_lt a) (odd_lt b)

product-add_l : (n a b q : ℕ) → product n (add a b) q ≡ add (product n a q) (product n b q)
unfolding product
product-add_l zero a b q = sym (add_self 0)
product-add_l (suc n) a b q =
    ap₂ add (low_add a b q) (ap (λ (x : ℕ). x * 2) (ap (λ (x : ℕ). product n x q) (add_half a b) ∙ product-add_l n (a / 2) (b / 2) q)
    ∙ add_double (product n (a / 2) q) (product n (b / 2) q))
    ∙ add_swap (times (a % 2) q) (times (b % 2) q) (product n (a / 2) q * 2) (product n (b / 2) q * 2)

product-add-r : (n p a b : ℕ) → product n p (add a b) ≡ add (product n p a) (product n p b)
unfolding product
product-add-r zero p a b = sym (add_self 0)
product-add-r (suc n) p a b =
    ap₂ add (times-add-r (p % 2) a b) (ap (λ (x : ℕ). x * 2) (product-add-r n (p / 2) a b) ∙ add_double (product n (p / 2) a) (product n (p / 2) b))
    ∙ add_swap (times (p % 2) a) (times (p % 2) b) (product n (p / 2) a * 2) (product n (p / 2) b * 2)

rest-add : (n p q : ℕ) → rest n (add p q) ≡ add (rest n p) (rest n q)
unfolding rest
rest-add zero p q = refl
rest-add (suc n) p q =
    ap (rest n)
    (ap (add (add p q)) (ap (λ (x : ℕ). times (x % 2) (modulus * 2 ^ n)) (add_shr p q (8 + n)) ∙ low_add (p / 2 ^ (8 + n)) (q / 2 ^ (8 + n)) (modulus * 2 ^ n))
    ∙ add_swap p q (times (p / 2 ^ (8 + n) % 2) (modulus * 2 ^ n)) (times (q / 2 ^ (8 + n) % 2) (modulus * 2 ^ n)))
    ∙ rest-add n (add p (times (p / 2 ^ (8 + n) % 2) (modulus * 2 ^ n))) (add q (times (q / 2 ^ (8 + n) % 2) (modulus * 2 ^ n)))

pub mul-add_l : (a b c : ℕ) → mul (add a b) c ≡ add (mul a c) (mul b c)
unfolding mul
mul-add_l a b c =
    ap (rest 7) (ap (λ (x : ℕ). product 8 x (c % 256)) (add_mod a b 8) ∙ product-add_l 8 (a % 256) (b % 256) (c % 256))
    ∙ rest-add 7 (product 8 (a % 256) (c % 256)) (product 8 (b % 256) (c % 256))

pub mul-add-r : (a b c : ℕ) → mul a (add b c) ≡ add (mul a b) (mul a c)
unfolding mul
mul-add-r a b c =
    ap (rest 7) (ap (product 8 (a % 256)) (add_mod b c 8) ∙ product-add-r 8 (a % 256) (b % 256) (c % 256))
    ∙ rest-add 7 (product 8 (a % 256) (b % 256)) (product 8 (a % 256) (c % 256))

-- an additive function of an octet: of a number it reads the low eight digits
pub record Linear (f : ℕ → ℕ) : Type 0 where
  pub sums : Additive f
  pub low : (a : ℕ) → f a ≡ f (a % 256)

pub linear_l : (b : ℕ) → Linear (λ a. mul a b)
unfolding mul
linear_l b = record { sums = λ x y. mul-add_l x y b; low = λ a. ap (λ (x : ℕ). rest 7 (product 8 x (b % 256))) (omega arith) }

pub linear_r : (a : ℕ) → Linear (mul a)
unfolding mul
linear_r a = record { sums = mul-add-r a; low = λ b. ap (λ (x : ℕ). rest 7 (product 8 (a % 256) x)) (omega arith) }

linear_low : Linear (λ a. a % 256)
linear_low = record { sums = λ x y. add_mod x y 8; low = λ a. omega arith }

module _ {f g : ℕ → ℕ} (lf : Linear f) (lg : Linear g) where
  pub after : Linear (λ a. f (g a))
  after = record { sums = λ x y. ap f (lg.sums x y) ∙ lf.sums (g x) (g y); low = λ a. ap f (lg.low a) }

  pub same : ((i : ℕ) → i < 8 → f (2 ^ i) ≡ g (2 ^ i)) → (a : ℕ) → f a ≡ g a
  same base a = lf.low a ∙ agree f g lf.sums lg.sums 8 base (a % 256) (mod-lt a (zero-lt-suc 255)) ∙ sym (lg.low a)

-- two functions are equal below n, by a test that antt computes; of one, two, three numbers
pub equal : (n : ℕ) (f g : ℕ → ℕ) → T (all n (λ i. eqb (f i) (g i))) → (i : ℕ) → i < n → f i ≡ g i
equal n f g t i h = eqb→eq (f i) (g i) (all-at n (λ i. eqb (f i) (g i)) t i h)

equal_two : (n : ℕ) (f g : ℕ → ℕ → ℕ) → T (all n (λ i. all n (λ j. eqb (f i j) (g i j)))) → (i : ℕ) → i < n → (j : ℕ) → j < n → f i j ≡ g i j
equal_two n f g t i h = equal n (f i) (g i) (all-at n (λ i. all n (λ j. eqb (f i j) (g i j))) t i h)

equal_three : (n : ℕ) (f g : ℕ → ℕ → ℕ → ℕ) → T (all n (λ i. all n (λ j. all n (λ k. eqb (f i j k) (g i j k)))))
    → (i : ℕ) → i < n → (j : ℕ) → j < n → (k : ℕ) → k < n → f i j k ≡ g i j k
equal_three n f g t i h = equal_two n (f i) (g i) (all-at n (λ i. all n (λ j. all n (λ k. eqb (f i j k) (g i j k)))) t i h)

commutes : (i : ℕ) → i < 8 → (j : ℕ) → j < 8 → mul (2 ^ i) (2 ^ j) ≡ mul (2 ^ j) (2 ^ i)
unfolding mul rest product times add
commutes = equal_two 8 (λ i j. mul (2 ^ i) (2 ^ j)) (λ i j. mul (2 ^ j) (2 ^ i)) tt

pub mul_comm : (a b : ℕ) → mul a b ≡ mul b a
mul_comm a b = same (linear_l b) (linear_r b) (λ i hi. same (linear_r (2 ^ i)) (linear_l (2 ^ i)) (commutes i hi) b) a

associates : (i : ℕ) → i < 8 → (j : ℕ) → j < 8 → (k : ℕ) → k < 8 → mul (mul (2 ^ i) (2 ^ j)) (2 ^ k) ≡ mul (2 ^ i) (mul (2 ^ j) (2 ^ k))
unfolding mul rest product times add
associates = equal_three 8 (λ i j k. mul (mul (2 ^ i) (2 ^ j)) (2 ^ k)) (λ i j k. mul (2 ^ i) (mul (2 ^ j) (2 ^ k))) tt

pub mul_assoc : (a b c : ℕ) → mul (mul a b) c ≡ mul a (mul b c)
mul_assoc a b c =
    same (after (linear_l c) (linear_l b)) (linear_l (mul b c))
    (λ i hi. same (after (linear_l c) (linear_r (2 ^ i))) (after (linear_r (2 ^ i)) (linear_l c))
    (λ j hj. same (linear_r (mul (2 ^ i) (2 ^ j))) (after (linear_r (2 ^ i)) (linear_r (2 ^ j))) (associates i hi j hj) c) b) a

keeps : (i : ℕ) → i < 8 → mul 1 (2 ^ i) ≡ 2 ^ i
unfolding mul rest product times add
keeps = equal 8 (λ i. mul 1 (2 ^ i)) (λ i. 2 ^ i) tt

pub mul-one_l : (a : ℕ) → a < 256 → mul 1 a ≡ a
mul-one_l a h = agree (mul 1) (λ x. x) (mul-add-r 1) (λ x y. refl) 8 keeps a h

pub mul-one-r : (a : ℕ) → a < 256 → mul a 1 ≡ a
mul-one-r a h = mul_comm a 1 ∙ mul-one_l a h

pub mul-zero_l : (a : ℕ) → mul 0 a ≡ 0
mul-zero_l a = at_zero (λ x. mul x a) (λ x y. mul-add_l x y a)

pub mul-zero-r : (a : ℕ) → mul a 0 ≡ 0
mul-zero-r a = at_zero (mul a) (mul-add-r a)

fits : (i : ℕ) → i < 8 → (j : ℕ) → j < 8 → mul (2 ^ i) (2 ^ j) ≡ mul (2 ^ i) (2 ^ j) % 256
unfolding mul rest product times add
fits = equal_two 8 (λ i j. mul (2 ^ i) (2 ^ j)) (λ i j. mul (2 ^ i) (2 ^ j) % 256) tt

mul_low : (a b : ℕ) → mul a b ≡ mul a b % 256
mul_low a b =
    same (linear_l b) (after linear_low (linear_l b)) (λ i hi. same (linear_r (2 ^ i)) (after linear_low (linear_r (2 ^ i))) (fits i hi) b) a

pub mul_lt : (a b : ℕ) → mul a b < 256
mul_lt a b = subst (λ (x : ℕ). x < 256) (sym (mul_low a b)) (mod-lt (mul a b) (zero-lt-suc 255))
