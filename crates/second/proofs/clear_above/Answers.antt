-- `second::clear_above` meets its contract. The invariant: for the rows passed the operations are noted. Assumes nothing.
use mathlib.Core.Path.{refl, ap, ◌∙◌}
use mathlib.Core.List.{[]}
use Prim.Native.Nat.{ℕ, ◌-◌}
use lib.ListN.{get_or}
use Rattle.phases.specs.One.{entry}
use Rattle.phases.specs.Two.{at}
use Rattle.second.specs.Store.{matrix}
use Rattle.second.specs.Backward.{cleared_none, cleared_as, cleared_fair, above-next}
use Rattle.second.proofs.clear_above.Goals as goal

pub loop-y-init : goal.loop-y-init
loop-y-init c = record { same_room = refl; cleared = cleared_none }

pub note_multiple-requires-clause-fair : goal.note_multiple-requires-clause-fair
note_multiple-requires-clause-fair c = cleared_fair c.loop-y.invariant.cleared c.requires.fair

pub loop-y-preserved : goal.loop-y-preserved
loop-y-preserved c =
    let a = c.args in
    let o = c.loop-y in
    let y = get_or a.ys.now o.y-index 0 in
    record {
      same_room = c.note_multiple.ensures.same_room ∙ o.invariant.same_room;
      cleared =
          above-next (λ (z : ℕ). at (matrix a.area a.work.now) z (a.q - a.area.i)) a.x a.ys.now o.y-index c.loop-y-test.true o.invariant.cleared
          (cleared_as (ap (λ (n : ℕ). entry n y a.x []) c.read-c.ensures) c.note_multiple.ensures.cleared);
    }
