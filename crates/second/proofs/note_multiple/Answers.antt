-- `second::note_multiple` meets its contract. Assumes nothing.
use mathlib.Core.Path.{sym, ap, ◌∙◌}
use mathlib.Core.List.{[], ◌∷◌}
use Prim.Native.Nat.{ℕ}
use Rattle.oplist.specs.Multiple.{small_multiple}
use Rattle.phases.proofs.Forward.{entry-multiple}
use Rattle.oplist.specs.declared.Op.{Op}
use Rattle.phases.specs.One.{entry}
use Rattle.second.specs.Backward.{cleared_none, cleared_one, cleared_as}
use native.Mathlib.Omega.{arith}
use Rattle.second.proofs.note_multiple.Goals as goal

pub returns-then-c-eq0-clause-cleared : goal.returns-then-c-eq0-clause-cleared
returns-then-c-eq0-clause-cleared c = cleared_as (ap (λ (n : ℕ). entry n c.args.y c.args.x []) (sym c.if-c-eq0.true)) cleared_none

pub record-requires-clause-small : goal.record-requires-clause-small
record-requires-clause-small c =
    let a = c.args in
    small_multiple a.c a.y a.x (omega (arith, c)) c.requires.y_bound.0 c.requires.y_bound.1 c.multiple_of-op.ensures

pub returns-clause-cleared : goal.returns-clause-cleared
returns-clause-cleared c =
    let a = c.args in
    cleared_as (ap (λ (o : Op). o ∷ []) c.multiple_of-op.ensures ∙ sym (entry-multiple a.c a.y a.x [] c.if-c-eq0.false)) (cleared_one c.record.ensures.noted.is)
