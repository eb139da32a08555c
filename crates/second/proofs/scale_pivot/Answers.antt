-- `second::scale_pivot` meets its contract: an entry of one, or none, asks nothing. Assumes nothing.
use mathlib.Core.Path.{◌∙◌, sym, ap}
use Prim.Native.Nat.{ℕ}
use Rattle.phases.specs.Two.{scaled}
use Rattle.second.specs.Clear.{scaled-none, scaled-some, performed_as, performed_none}
use Rattle.second.proofs.scale_pivot.Goals as goal

pub returns-then-c-eq1-clause-performed : goal.returns-then-c-eq1-clause-performed
returns-then-c-eq1-clause-performed c =
    performed_as (ap (λ (n : ℕ). scaled n c.args.y) (sym c.if-c-eq1.true ∙ c.read-c.ensures)) performed_none

pub returns-in_default-clause-performed : goal.returns-in_default-clause-performed
returns-in_default-clause-performed c =
    let e = sym c.div.ensures.is ∙ c.in_default.is in
    performed_as (sym (scaled-none c.read-c.result _ _ e) ∙ ap (λ (n : ℕ). scaled n c.args.y) c.read-c.ensures) performed_none

pub returns-in-Ok-clause-performed : goal.returns-in-Ok-clause-performed
returns-in-Ok-clause-performed c =
    let e = sym c.div.ensures.is ∙ c.in-Ok.is in
    performed_as (sym (scaled-some c.read-c.result _ _ e c.if-c-eq1.false) ∙ ap (λ (n : ℕ). scaled n c.args.y) c.read-c.ensures) c.perform.ensures.performed
