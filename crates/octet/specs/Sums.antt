-- Sums of octets, an abelian group in which each element is its own inverse, and the functions that respect them.
--   add_zero_l, add_zero_r, add_self, add_comm, add_assoc, add_lt   the laws of a group; the sum of two octets is one
--   add_swap, add_cancel           what follows
--   add_step, add_half, add_odd    the sum digit by digit
--   odd_lt                         the last digit of a number is below 2
--   add_mod, add_shr, add_double   the sum of the low digits, of the high digits, of doubles
--   Additive f                     f of a sum is the sum
--   at_zero                        such an f is 0 at 0
--   agree                          two such functions that agree at the powers of 2 below 2 ^ k agree below 2 ^ k
-- Assumes nothing.
use Rattle.std.specs.Prelude.{◌≡◌, refl, ℕ, zero, suc, ◌+◌, ◌*◌, ◌/◌, ◌%◌, ◌^◌, ◌<◌}
use Rattle.std.proofs.Common.{sym, ap, ap₂, ◌∙◌, subst, mod-lt, zero-lt-suc, add-zero, one-add, arith, pow_pos, shr_lt}
use Rattle.std.proofs.Math.Arith.{bin_ind, digits_mod, lt-one}
use Rattle.std.proofs.Math.Pow.{split}
use Rattle.std.specs.Int.Bits.{differ, xor_step, xor_self, xor_zero_r, xor_shifted}
use Rattle.std.proofs.lemmas.Nat.{xor_comm, xor_lt, xor_shr, xor_mod}
use Rattle.octet.specs.Octet.{add}

differ_lt : (x y : ℕ) → x < 2 → y < 2 → differ x y < 2
differ_lt zero y hx hy = hy
differ_lt (suc x) zero hx hy = hx
differ_lt (suc zero) (suc zero) hx hy = zero-lt-suc 1
differ_lt (suc zero) (suc (suc y)) hx hy = absurd (omega arith)
differ_lt (suc (suc x)) (suc y) hx hy = absurd (omega arith)

differ_assoc : (x y z : ℕ) → x < 2 → y < 2 → z < 2 → differ (differ x y) z ≡ differ x (differ y z)
differ_assoc zero y z hx hy hz = refl
differ_assoc (suc x) zero z hx hy hz = refl
differ_assoc (suc zero) (suc zero) zero hx hy hz = refl
differ_assoc (suc zero) (suc zero) (suc zero) hx hy hz = refl
differ_assoc (suc zero) (suc zero) (suc (suc z)) hx hy hz = absurd (omega arith)
differ_assoc (suc zero) (suc (suc y)) z hx hy hz = absurd (omega arith)
differ_assoc (suc (suc x)) (suc y) z hx hy hz = absurd (omega arith)

pub odd_lt : (a : ℕ) → a % 2 < 2
odd_lt a = mod-lt a (zero-lt-suc 1)

-- the sum, digit by digit
pub add_step : (a b : ℕ) → add a b ≡ add (a / 2) (b / 2) * 2 + differ (a % 2) (b % 2)
unfolding add
add_step a b = xor_step a b

pub add_half : (a b : ℕ) → add a b / 2 ≡ add (a / 2) (b / 2)
unfolding add
add_half a b = xor_shr a b 1

pub add_odd : (a b : ℕ) → add a b % 2 ≡ differ (a % 2) (b % 2)
add_odd a b = ap (λ (x : ℕ). x % 2) (add_step a b) ∙ digits_mod (add (a / 2) (b / 2)) (differ_lt (a % 2) (b % 2) (odd_lt a) (odd_lt b))

pub add_zero_l : (a : ℕ) → add 0 a ≡ a
unfolding add
add_zero_l a = refl

pub add_zero_r : (a : ℕ) → add a 0 ≡ a
unfolding add
add_zero_r a = xor_zero_r a

pub add_self : (a : ℕ) → add a a ≡ 0
unfolding add
add_self a = xor_self a

pub add_comm : (a b : ℕ) → add a b ≡ add b a
unfolding add
add_comm a b = xor_comm a b

pub add_lt : (a b : ℕ) → a < 256 → b < 256 → add a b < 256
unfolding add
add_lt a b ha hb = xor_lt 8 a b ha hb

pub add_assoc : (a b c : ℕ) → add (add a b) c ≡ add a (add b c)
add_assoc =
    bin_ind (λ (n : ℕ). (b c : ℕ) → add (add n b) c ≡ add n (add b c))
    (λ b c. ap (λ (x : ℕ). add x c) (add_zero_l b) ∙ sym (add_zero_l (add b c)))
    (λ n ih b c.
    add_step (add n b) c
    ∙ ap₂ (λ (x y : ℕ). add x (c / 2) * 2 + differ y (c % 2)) (add_half n b) (add_odd n b)
    ∙ ap₂ (λ (x y : ℕ). x * 2 + y) (ih (b / 2) (c / 2)) (differ_assoc (n % 2) (b % 2) (c % 2) (odd_lt n) (odd_lt b) (odd_lt c))
    ∙ ap₂ (λ (x y : ℕ). add (n / 2) x * 2 + differ (n % 2) y) (sym (add_half b c)) (sym (add_odd b c))
    ∙ sym (add_step n (add b c)))

-- (a + b) + (c + d) = (a + c) + (b + d)
pub add_swap : (a b c d : ℕ) → add (add a b) (add c d) ≡ add (add a c) (add b d)
add_swap a b c d =
    add_assoc a b (add c d) ∙ ap (add a) (sym (add_assoc b c d) ∙ ap (λ (x : ℕ). add x d) (add_comm b c) ∙ add_assoc c b d)
    ∙ sym (add_assoc a c (add b d))

pub add_cancel : (a b : ℕ) → add a (add a b) ≡ b
add_cancel a b = sym (add_assoc a a b) ∙ ap (λ (x : ℕ). add x b) (add_self a) ∙ add_zero_l b

pub add_mod : (a b k : ℕ) → add a b % 2 ^ k ≡ add (a % 2 ^ k) (b % 2 ^ k)
unfolding add
add_mod a b k = xor_mod a b k

pub add_shr : (a b k : ℕ) → add a b / 2 ^ k ≡ add (a / 2 ^ k) (b / 2 ^ k)
unfolding add
add_shr a b k = xor_shr a b k

pub add_double : (a b : ℕ) → add a b * 2 ≡ add (a * 2) (b * 2)
add_double a b =
    let half : (x : ℕ) → x * 2 / 2 ≡ x = λ x. omega arith in
    let odd : (x : ℕ) → x * 2 % 2 ≡ 0 = λ x. omega arith in
    rw (add_step (a * 2) (b * 2), half a, half b, odd a, odd b, add-zero (add a b * 2))

abbrev pub Additive : (ℕ → ℕ) → Type 0
Additive f = (a b : ℕ) → f (add a b) ≡ add (f a) (f b)

module _ (f : ℕ → ℕ) (add-f : Additive f) where
  pub at_zero : f 0 ≡ 0
  at_zero = ap f (sym (add_self 0)) ∙ add-f 0 0 ∙ add_self (f 0)

split_top : (a k : ℕ) → a ≡ add (a / 2 ^ k * 2 ^ k) (a % 2 ^ k)
unfolding add
split_top a k = sym (split a k) ∙ sym (xor_shifted (a / 2 ^ k) k (a % 2 ^ k) (mod-lt a (pow_pos k)))

module _ (f g : ℕ → ℕ) (add-f : Additive f) (add-g : Additive g) where
  digit : (k q : ℕ) → q < 2 → f (2 ^ k) ≡ g (2 ^ k) → f (q * 2 ^ k) ≡ g (q * 2 ^ k)
  digit k zero h e = ap f (omega arith) ∙ at_zero f add-f ∙ sym (at_zero g add-g) ∙ ap g (omega arith)
  digit k (suc zero) h e = ap f (omega arith) ∙ e ∙ ap g (omega arith)
  digit k (suc (suc q)) h e = absurd (omega arith)

  pub agree : (k : ℕ) → ((i : ℕ) → i < k → f (2 ^ i) ≡ g (2 ^ i)) → (a : ℕ) → a < 2 ^ k → f a ≡ g a
  agree zero base a h = ap f (lt-one h) ∙ at_zero f add-f ∙ sym (at_zero g add-g) ∙ ap g (sym (lt-one h))
  agree (suc k) base a h =
      ap f (split_top a k) ∙ add-f (a / 2 ^ k * 2 ^ k) (a % 2 ^ k)
      ∙ ap₂ add (digit k (a / 2 ^ k) (shr_lt 1 k (subst (λ (m : ℕ). a < 2 ^ m) (sym (one-add k)) h)) (base k (omega arith)))
      (agree k (λ i l. base i (omega arith)) (a % 2 ^ k) (mod-lt a (pow_pos k)))
      ∙ sym (add-g (a / 2 ^ k * 2 ^ k) (a % 2 ^ k)) ∙ sym (ap g (split_top a k))
