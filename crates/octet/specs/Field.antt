-- The laws of the octets, for whoever does algebra with them. Each holds for all numbers, or says which are octets.
--   Octet a, Octets v     a is an octet; every value of v is one
--   add_octet, mul_octet, inv_octet   the sum of two octets is one; every product and every inverse is one
--   add_comm, add_assoc, add-zero, zero-add, add_self   addition: a group in which each element is its own inverse
--   mul_comm, mul_assoc, mul-add, add-mul   multiplication: commutative, associative, distributes over addition
--   one-mul, mul-one, zero-mul, mul-zero   one times an octet is the octet, zero times a number is zero, from either side
--   exchange, add-undo   what follows: a sum of four, the middle two exchanged; an addition undone
-- Assumes nothing.
use Rattle.std.specs.Prelude.{◌≡◌, ℕ, ◌<◌}
use Rattle.std.proofs.Common.{ap, ◌∙◌}
use Rattle.octet.specs.Octet.{add, mul, inverse}
use Rattle.octet.specs.Sums as S
use Rattle.octet.specs.Products as P
use Rattle.octet.specs.Powers as W

abbrev pub Octet : ℕ → Type 0
Octet a = a < 256

abbrev pub Octets : (ℕ → ℕ) → Type 0
Octets v = (i : ℕ) → Octet (v i)

pub add_octet : (a b : ℕ) → Octet a → Octet b → Octet (add a b)
add_octet a b = S.add_lt a b

pub add_comm : (a b : ℕ) → add a b ≡ add b a
add_comm a b = S.add_comm a b

pub add_assoc : (a b c : ℕ) → add (add a b) c ≡ add a (add b c)
add_assoc a b c = S.add_assoc a b c

pub add-zero : (a : ℕ) → add a 0 ≡ a
add-zero a = S.add_zero_r a

pub zero-add : (a : ℕ) → add 0 a ≡ a
zero-add a = S.add_zero_l a

pub add_self : (a : ℕ) → add a a ≡ 0
add_self a = S.add_self a

-- (a + b) + (c + d) = (a + c) + (b + d)
pub exchange : (a b c d : ℕ) → add (add a b) (add c d) ≡ add (add a c) (add b d)
exchange a b c d = S.add_swap a b c d

-- what was added is taken away by adding it again
pub add-undo : (a b : ℕ) → add (add a b) b ≡ a
add-undo a b = add_assoc a b b ∙ ap (λ (z : ℕ). add a z) (add_self b) ∙ add-zero a

pub mul_octet : (a b : ℕ) → Octet (mul a b)
mul_octet a b = P.mul_lt a b

pub mul_comm : (a b : ℕ) → mul a b ≡ mul b a
mul_comm a b = P.mul_comm a b

pub mul_assoc : (a b c : ℕ) → mul (mul a b) c ≡ mul a (mul b c)
mul_assoc a b c = P.mul_assoc a b c

pub mul-add : (a b c : ℕ) → mul a (add b c) ≡ add (mul a b) (mul a c)
mul-add a b c = P.mul-add-r a b c

pub add-mul : (a b c : ℕ) → mul (add a b) c ≡ add (mul a c) (mul b c)
add-mul a b c = P.mul-add_l a b c

pub one-mul : (a : ℕ) → Octet a → mul 1 a ≡ a
one-mul a h = P.mul-one_l a h

pub mul-one : (a : ℕ) → Octet a → mul a 1 ≡ a
mul-one a h = P.mul-one-r a h

pub zero-mul : (a : ℕ) → mul 0 a ≡ 0
zero-mul a = P.mul-zero_l a

pub mul-zero : (a : ℕ) → mul a 0 ≡ 0
mul-zero a = P.mul-zero-r a

pub inv_octet : (a : ℕ) → Octet (inverse a)
inv_octet a = W.inverse_lt a
