-- A promise that is an equation admits one outcome.
--   only   two outcomes that meet the same equation are equal
--   add_only, mul_only, div_only   so there is one sum, one product and one answer to a division
-- Assumes nothing.
use Rattle.std.specs.Prelude.{◌≡◌, ℕ}
use Rattle.std.proofs.Common.{sym, ◌∙◌}
use Rattle.std.proofs.Math.Path.{ap}
use Rattle.octet.specs.Octet.{add, mul}
use Rattle.octet.specs.Answers.{Quotient, Divided}
use Rattle.octet.specs.declared.Octet.{Octet}

pub only : {A : Type 0} {r s x : A} → r ≡ x → s ≡ x → r ≡ s
only p q = p ∙ sym q

octet : ℕ → Octet
octet v = record { value = v }

module _ (a b : Octet) where
  pub add_only : (r s : Octet) → r.value ≡ add a.value b.value → s.value ≡ add a.value b.value → r ≡ s
  unfolding octet
  add_only r s p q = ap octet (only p q)

  pub mul_only : (r s : Octet) → r.value ≡ mul a.value b.value → s.value ≡ mul a.value b.value → r ≡ s
  unfolding octet
  mul_only r s p q = ap octet (only p q)

  pub div_only : (r s : Quotient) → Divided a.value b.value r → Divided a.value b.value s → r ≡ s
  div_only r s p q = only p.is q.is
