-- Powers of octets; the inverse, which is the 254th power, and quotients.
--   power_of_two         every octet but zero is a power of 2
--   power_255            and its 255th power is 1
--   mul-inverse   the inverse is what its name says
--   mul_cancel, mul-zero           what is not zero is cancelled
--   mul-quotient, quotient_only   the quotient is the one octet whose product with the divisor is the dividend
--   quotient-powers      the quotient by the exponents
-- Assumes nothing.
use Rattle.std.specs.Prelude.{◌≡◌, refl, Bool, true, false, List, [], ◌∷◌, ℕ, zero, suc, ◌+◌, ◌-◌, ◌<◌, T, eqb}
use Rattle.std.proofs.Common.{sym, ap, ap₂, ◌∙◌, subst, not-suc-le-zero, le_of_suc-le-suc, arith, eqb→eq, lit<}
use Rattle.octet.specs.Octet.{add, times, product, rest, mul, power, inverse, quotient}
use Rattle.loops.specs.Table.{all, all-at}
use Rattle.octet.specs.Products.{mul_assoc, mul_comm, mul-one_l, mul-one-r, mul-zero-r}
use Rattle.octet.specs.Powers.{either, inverse-power, power-add, power-one, power-suc, power_lt, power_swap, powers}

among : ℕ → List ℕ → Bool
among a [] = false
among a (x ∷ xs) = either (eqb a x) (among a xs)

Power : ℕ → Type 0
Power a = (k : ℕ) × (a ≡ power 2 k)

split-either : (a x k : ℕ) (t : Bool) → x ≡ power 2 k → (T t → Power a) → T (either (eqb a x) t) → Power a
unfolding either Power
split-either a x k t e later h = go (eqb a x) refl h
  where
    go : (b : Bool) → eqb a x ≡ b → T (either b t) → Power a
    go true q h = (k, eqb→eq a x (subst T (sym q) tt) ∙ e)
    go false q h = later h

among_powers : (a n k : ℕ) → T (among a (powers n (power 2 k))) → Power a
unfolding among powers
among_powers a zero k h = absurd h
among_powers a (suc n) k h =
    split-either a (power 2 k) k (among a (powers n (mul 2 (power 2 k)))) refl
    (λ h. among_powers a n (suc k) (subst (λ (x : ℕ). T (among a (powers n x))) (sym (power-suc 2 k)) h)) h

covers : List ℕ → ℕ → Bool
covers l a = among (suc a) l

cover : T (all 255 (covers (powers 255 1)))
unfolding covers among either powers mul rest product times add
cover = tt

pub power_of_two : (a : ℕ) → 0 < a → a < 256 → (k : ℕ) × (a ≡ power 2 k)
unfolding covers Power power
power_of_two zero h l = absurd (not-suc-le-zero h)
power_of_two (suc a) h l = among_powers (suc a) 255 0 (all-at 255 (covers (powers 255 1)) cover a (le_of_suc-le-suc l))

order : power 2 255 ≡ 1
unfolding power mul rest product times add
order = eqb→eq (power 2 255) 1 tt

pub power_255 : (a : ℕ) → 0 < a → a < 256 → power a 255 ≡ 1
power_255 a h l =
    let g = power_of_two a h l in
    ap (λ x. power x 255) g.1 ∙ power_swap 2 g.0 255 ∙ ap (λ x. power x g.0) order ∙ power-one g.0

pub mul-inverse : (a : ℕ) → 0 < a → a < 256 → mul a (inverse a) ≡ 1
mul-inverse a h l = ap (mul a) (inverse-power a) ∙ sym (power-suc a 254) ∙ power_255 a h l

-- no zero divisors: what is not zero is cancelled
pub mul_cancel : (a b c : ℕ) → 0 < a → a < 256 → b < 256 → c < 256 → mul a b ≡ mul a c → b ≡ c
mul_cancel a b c h l lb lc e = sym (undo b lb) ∙ ap (mul (inverse a)) e ∙ undo c lc
  where
    undo : (x : ℕ) → x < 256 → mul (inverse a) (mul a x) ≡ x
    undo x lx =
        sym (mul_assoc (inverse a) a x) ∙ ap (λ y. mul y x) (mul_comm (inverse a) a ∙ mul-inverse a h l) ∙ mul-one_l x lx

pub mul-zero : (a b : ℕ) → 0 < a → a < 256 → b < 256 → mul a b ≡ 0 → b ≡ 0
mul-zero a b h l lb e = mul_cancel a b 0 h l lb (lit< tt) (e ∙ sym (mul-zero-r a))

pub mul-quotient : (a b : ℕ) → a < 256 → 0 < b → b < 256 → mul (quotient a b) b ≡ a
unfolding quotient
mul-quotient a b la h l =
    mul_assoc a (inverse b) b ∙ ap (mul a) (mul_comm (inverse b) b ∙ mul-inverse b h l) ∙ mul-one-r a la

-- the quotient is the one octet whose product with b is a
pub quotient_only : (a b q : ℕ) → 0 < b → b < 256 → q < 256 → mul q b ≡ a → q ≡ quotient a b
unfolding quotient
quotient_only a b q h l lq e =
    sym (mul-one-r q lq) ∙ ap (mul q) (sym (mul-inverse b h l)) ∙ sym (mul_assoc q b (inverse b)) ∙ ap (λ x. mul x (inverse b)) e

-- a quotient by the exponents
pub quotient-powers : (a b i j : ℕ) → a < 256 → 0 < b → b < 256 → power 2 i ≡ a → power 2 j ≡ b → j < 255 → power 2 (255 + i - j) ≡ quotient a b
quotient-powers a b i j la h l ea eb lj =
    quotient_only a b (power 2 (255 + i - j)) h l (power_lt 2 (255 + i - j))
    (ap (mul (power 2 (255 + i - j))) (sym eb) ∙ sym (power-add 2 (255 + i - j) j) ∙ ap (power 2) back ∙ power-add 2 255 i
    ∙ ap₂ mul order ea ∙ mul-one_l a la)
  where
    back : 255 + i - j + j ≡ 255 + i
    back = omega arith
