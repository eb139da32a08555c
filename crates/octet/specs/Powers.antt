-- Powers of octets; the inverse, which is the 254th power, and quotients.
--   power_zero, power-suc, power-add, power-mul, power_twice, power-one, power_swap, power_lt   powers, by their exponents
--   powers n x           x, 2 x, 4 x, .., n of them
--   either               one of two tests holds, or both
--   inverse-power, inverse_lt   the inverse is the 254th power, and an octet
--   mul_swap           a product of four
--   quotient_lt, quotient-zero   the quotient is an octet; that of zero is zero
-- Assumes nothing.
use Rattle.std.specs.Prelude.{◌≡◌, refl, Bool, true, false, List, [], ◌∷◌, ℕ, zero, suc, ◌+◌, ◌<◌}
use Rattle.std.proofs.Common.{sym, ap, ◌∙◌, zero-add, suc-add, lit<}
use Rattle.octet.specs.Octet.{mul, power, squares, inverse, quotient}
use Rattle.octet.specs.Products.{mul_assoc, mul_comm, mul-one_l, mul-zero_l, mul_lt}

pub power_zero : (a : ℕ) → power a 0 ≡ 1
unfolding power
power_zero a = refl

pub power-suc : (a n : ℕ) → power a (suc n) ≡ mul a (power a n)
unfolding power
power-suc a n = refl

pub power_lt : (a n : ℕ) → power a n < 256
unfolding power
power_lt a zero = lit< tt
power_lt a (suc n) = mul_lt a (power a n)

pub power-add : (a m n : ℕ) → power a (m + n) ≡ mul (power a m) (power a n)
unfolding power
power-add a zero n = ap (power a) (zero-add n) ∙ sym (mul-one_l (power a n) (power_lt a n))
power-add a (suc m) n = ap (power a) (suc-add m n) ∙ ap (mul a) (power-add a m n) ∙ sym (mul_assoc a (power a m) (power a n))

-- a product of four, the middle two exchanged
pub mul_swap : (a b c d : ℕ) → mul (mul a b) (mul c d) ≡ mul (mul a c) (mul b d)
mul_swap a b c d =
    mul_assoc a b (mul c d) ∙ ap (mul a) (sym (mul_assoc b c d) ∙ ap (λ x. mul x d) (mul_comm b c) ∙ mul_assoc c b d)
    ∙ sym (mul_assoc a c (mul b d))

pub power-mul : (a b n : ℕ) → power (mul a b) n ≡ mul (power a n) (power b n)
unfolding power
power-mul a b zero = sym (mul-one_l 1 (lit< tt))
power-mul a b (suc n) = ap (mul (mul a b)) (power-mul a b n) ∙ mul_swap a b (power a n) (power b n)

-- the exponent halved
pub power_twice : (a n : ℕ) → power a (n + n) ≡ power (mul a a) n
power_twice a n = power-add a n n ∙ sym (power-mul a a n)

unfoldable pub powers : ℕ → ℕ → List ℕ
powers zero x = []
powers (suc n) x = x ∷ powers n (mul 2 x)

unfoldable pub either : Bool → Bool → Bool
either true b = true
either false b = b

pub power-one : (n : ℕ) → power 1 n ≡ 1
unfolding power
power-one zero = refl
power-one (suc n) = ap (mul 1) (power-one n) ∙ mul-one_l 1 (lit< tt)

pub power_swap : (a m n : ℕ) → power (power a m) n ≡ power (power a n) m
unfolding power
power_swap a m zero = sym (power-one m)
power_swap a m (suc n) = ap (mul (power a m)) (power_swap a m n) ∙ sym (power-mul a (power a n) m)

-- the number of n binary digits 1
ones : ℕ → ℕ
ones zero = 0
ones (suc n) = suc (ones n + ones n)

squares-power : (n a : ℕ) → squares n a ≡ power a (ones n)
unfolding squares ones
squares-power zero a = sym (power_zero a)
squares-power (suc n) a =
    ap (mul a) (squares-power n (mul a a) ∙ sym (power_twice a (ones n))) ∙ sym (power-suc a (ones n + ones n))

pub inverse-power : (a : ℕ) → inverse a ≡ power a 254
unfolding inverse ones
inverse-power a = squares-power 7 (mul a a) ∙ sym (power_twice a 127)

pub inverse_lt : (a : ℕ) → inverse a < 256
unfolding inverse squares
inverse_lt a = mul_lt _ _

pub quotient_lt : (a b : ℕ) → quotient a b < 256
unfolding quotient
quotient_lt a b = mul_lt a (inverse b)

pub quotient-zero : (b : ℕ) → quotient 0 b ≡ 0
unfolding quotient
quotient-zero b = mul-zero_l (inverse b)
