-- `second::clear_row` meets its contract. Assumes nothing.
use mathlib.Core.Path.{◌∙◌, sym, ap}
use mathlib.Core.List.{[], ◌∷◌}
use Prim.Native.Nat.{ℕ}
use Rattle.phases.proofs.Forward.{entry-multiple}
use Rattle.oplist.specs.declared.Op.{Op}
use Rattle.phases.specs.One.{entry}
use Rattle.second.specs.Clear.{fit_multiple, performed_as, performed_none}
use native.Mathlib.Omega.{arith}
use Rattle.second.proofs.clear_row.Goals as goal

pub returns-then-c-eq0-clause-performed : goal.returns-then-c-eq0-clause-performed
returns-then-c-eq0-clause-performed c =
    let a = c.args in
    performed_as (ap (λ (n : ℕ). entry n a.y a.x []) (sym c.if-c-eq0.true ∙ c.read-c.ensures)) performed_none

pub perform-requires-clause-fit : goal.perform-requires-clause-fit
perform-requires-clause-fit c = rw c.multiple_of-op.ensures (fit_multiple _ c.read-c.result _ _ (omega (arith, c)) (omega (arith, c)) (omega (arith, c)) (omega (arith, c.read-c)))

pub returns-clause-performed : goal.returns-clause-performed
returns-clause-performed c =
    let a = c.args in
    performed_as
    (ap (λ (o : Op). o ∷ []) c.multiple_of-op.ensures ∙ sym (entry-multiple c.read-c.result a.y a.x [] c.if-c-eq0.false)
    ∙ ap (λ (n : ℕ). entry n a.y a.x []) c.read-c.ensures)
    c.perform.ensures.performed
