-- Operations that change nothing.
--   idle       an operation whose source holds zero in a column leaves the column alone
-- Assumes nothing.
use Rattle.std.specs.Prelude.{◌≡◌, refl, Bool, true, false, ℕ, eqb}
use Rattle.std.proofs.Common.{sym, ap, ◌∙◌, eqb-true}
use Rattle.std.proofs.Math.Path.{fun_ext}
use Rattle.octet.specs.Octet.{add, mul}
use Rattle.octet.specs.Field.{add-zero, mul-zero}
use Rattle.oplist.specs.declared.Op.{Op}
use Rattle.oplist.specs.declared.Op.TheVariants.{AddAssign, MulAssign, FMA}
use Rattle.oplist.specs.Ops.{dest, source}
use Rattle.algebra.specs.Sums.{pick}
use Rattle.algebra.specs.Rows.{value, step, Good}

-- so row work may start at the first column that is not zero
pub idle : (o : Op) (v : ℕ → ℕ) → Good o → v (source o) ≡ 0 → step o v ≡ v
idle o v g e = fun_ext (λ r. at r (eqb r (dest o)) refl)
  where
    val : (o : Op) → v (source o) ≡ 0 → value o v ≡ v (dest o)
    val (AddAssign d s) e = ap (add (v d)) e ∙ add-zero (v d)
    val (MulAssign d c) e = ap (mul c) e ∙ mul-zero c ∙ sym e
    val (FMA d s c) e = ap (λ (x : ℕ). add (v d) (mul c x)) e ∙ ap (add (v d)) (mul-zero c) ∙ add-zero (v d)

    at : (r : ℕ) (b : Bool) → eqb r (dest o) ≡ b → pick b (value o v) (v r) ≡ v r
    at r true p = val o e ∙ ap v (sym (eqb-true r (dest o) p))
    at r false p = refl
