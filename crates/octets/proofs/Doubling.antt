-- Products by doublings: the multiples of k by 1, 2, 4, .. that an octet's digits pick add up to its product with k.
--   doubled       twice an octet
--   Sum k x n s m   s is k times the number of x's lowest n digits, and m is k times the next power of 2
--   sum-start, sum-next, sum-all   no digit; one digit more; all eight
-- Assumes nothing.
use mathlib.Core.Path.{◌≡◌, sym, ap, ap₂, ◌∙◌}
use Prim.Native.Nat.{ℕ, zero, suc, ◌*◌, ◌/◌, ◌%◌, ◌^◌, ◌<◌}
use native.Mathlib.Nat.{mod-lt, zero-lt-suc}
use native.Mathlib.Numerals.{one-add}
use native.Mathlib.Omega.{arith}
use lib.Bits.{xor_shifted}
use lib.Pow.{pow_pos, mod-pow-add}
use Rattle.octet.specs.Octet.{add, times, product, rest, mul}
use Rattle.octet.specs.Products.{equal}
use Rattle.octet.specs.Field.{add_comm, mul_comm, mul_assoc, mul-add, mul-one, mul-zero}

pub doubled : (x : ℕ) → x < 256 → add (x % 128 * 2) (x / 128 * 29) ≡ mul 2 x
unfolding mul rest product times add
doubled = equal 256 (λ x. add (x % 128 * 2) (x / 128 * 29)) (mul 2) tt

double_power : (n : ℕ) → n < 7 → mul 2 (2 ^ n) ≡ 2 ^ suc n
unfolding mul rest product times add
double_power = equal 7 (λ n. mul 2 (2 ^ n)) (λ n. 2 ^ suc n) tt

times-mul : (k q p : ℕ) → q < 2 → times q (mul k p) ≡ mul k (q * p)
unfolding times
times-mul k zero p h = sym (mul-zero k) ∙ ap (mul k) (omega arith)
times-mul k (suc zero) p h = ap (mul k) (omega arith)
times-mul k (suc (suc q)) p h = absurd (omega arith)

pub record Sum (k x n s m : ℕ) : Type 0 where
  pub sum : s ≡ mul k (x % 2 ^ n)
  pub next : m ≡ mul k (2 ^ n)

pub sum-start : (k x : ℕ) → k < 256 → Sum k x 0 0 k
sum-start k x h = record { sum = sym (mul-zero k) ∙ ap (mul k) (omega arith); next = sym (mul-one k h) }

module _ {k x n s m d : ℕ} (i : Sum k x n s m) (e : d ≡ times (x / 2 ^ n % 2) m) where
  digits : add (x % 2 ^ n) (x / 2 ^ n % 2 * 2 ^ n) ≡ x % 2 ^ suc n
  unfolding add
  digits =
      add_comm (x % 2 ^ n) (x / 2 ^ n % 2 * 2 ^ n) ∙ xor_shifted (x / 2 ^ n % 2) n (x % 2 ^ n) (mod-lt x (pow_pos n))
      ∙ sym (mod-pow-add x 1 n) ∙ ap (λ (j : ℕ). x % 2 ^ j) (one-add n)

  more : add s d ≡ mul k (x % 2 ^ suc n)
  more =
      ap₂ add i.sum (e ∙ ap (times (x / 2 ^ n % 2)) i.next ∙ times-mul k (x / 2 ^ n % 2) (2 ^ n) (mod-lt (x / 2 ^ n) (zero-lt-suc 1)))
      ∙ sym (mul-add k (x % 2 ^ n) (x / 2 ^ n % 2 * 2 ^ n)) ∙ ap (mul k) digits

  pub sum-next : {m' : ℕ} → n < 7 → m' ≡ mul 2 m → Sum k x (suc n) (add s d) m'
  sum-next h f =
      record {
        sum = more;
        next = f ∙ ap (mul 2) i.next ∙ sym (mul_assoc 2 k (2 ^ n)) ∙ ap (λ (y : ℕ). mul y (2 ^ n)) (mul_comm 2 k) ∙ mul_assoc k 2 (2 ^ n) ∙ ap (mul k) (double_power n h);
      }

pub sum-all : {k x s m d : ℕ} → x < 256 → Sum k x 7 s m → d ≡ times (x / 128 % 2) m → add s d ≡ mul k x
sum-all {k} {x} h i e = more i e ∙ ap (mul k) (omega arith)
