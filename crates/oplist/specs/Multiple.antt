-- The operation that adds a multiple of one row to another.
--   multiple c y x   c times row x, added to row y: AddAssign where c is 1, else FMA
--   multiple-one, multiple_more   which of the two it is
--   small_multiple   it fits a word, where c is an octet and both rows are below 65536
-- Assumes nothing.
use Rattle.std.specs.Prelude.{◌≡◌, refl, ℕ, zero, suc, ◌<◌}
use Rattle.std.proofs.Common.{sym, subst}
use Rattle.oplist.specs.declared.Op.{Op}
use Rattle.oplist.specs.declared.Op.TheVariants.{AddAssign, FMA}
use Rattle.oplist.specs.Word.{Small}

unfoldable pub multiple : ℕ → ℕ → ℕ → Op
multiple zero y x = FMA y x 0
multiple (suc zero) y x = AddAssign y x
multiple (suc (suc c)) y x = FMA y x (suc (suc c))

pub multiple-one : (c y x : ℕ) → c ≡ 1 → AddAssign y x ≡ multiple c y x
unfolding multiple
multiple-one c y x e = rw e

pub multiple_more : (c y x : ℕ) → (c ≡ 1 → ⊥) → FMA y x c ≡ multiple c y x
unfolding multiple
multiple_more zero y x n = refl
multiple_more (suc zero) y x n = absurd (n refl)
multiple_more (suc (suc c)) y x n = refl

pub small_multiple : {o : Op} (c y x : ℕ) → c < 256 → y < 65536 → x < 65536 → o ≡ multiple c y x → Small o
unfolding multiple
small_multiple c y x hc hy hx e = subst Small (sym e) (go c hc)
  where
    go : (c : ℕ) → c < 256 → Small (multiple c y x)
    go zero h = (hy, hx, h)
    go (suc zero) h = (hy, hx)
    go (suc (suc c)) h = (hy, hx, h)
