-- The laws of the octets, for whoever does algebra with them. Each holds for all numbers, or says which are octets.
--   inv_mul               the inverse of what is not zero, times it, is one
--   mul-undo, mul_redo   a multiplication undone, either way round
-- Assumes nothing.
use Rattle.std.specs.Prelude.{◌≡◌, ◌≢◌, ℕ}
use Rattle.std.proofs.Common.{sym, ap, ◌∙◌, pos_of_ne-zero}
use Rattle.octet.specs.Octet.{mul, inverse}
use Rattle.octet.proofs.Powers as Wp
use Rattle.octet.specs.Field.{Octet, mul_assoc, mul_comm, one-mul}

pub inv_mul : (a : ℕ) → Octet a → a ≢ 0 → mul (inverse a) a ≡ 1
inv_mul a h nz = mul_comm (inverse a) a ∙ Wp.mul-inverse a (pos_of_ne-zero nz) h

pub mul-undo : (c a : ℕ) → Octet c → c ≢ 0 → Octet a → mul (inverse c) (mul c a) ≡ a
mul-undo c a hc nz ha = sym (mul_assoc (inverse c) c a) ∙ ap (λ (z : ℕ). mul z a) (inv_mul c hc nz) ∙ one-mul a ha

pub mul_redo : (c a : ℕ) → Octet c → c ≢ 0 → Octet a → mul c (mul (inverse c) a) ≡ a
mul_redo c a hc nz ha =
    sym (mul_assoc c (inverse c) a) ∙ ap (λ (z : ℕ). mul z a) (mul_comm c (inverse c) ∙ inv_mul c hc nz) ∙ one-mul a ha
