-- `second::backward` meets its contract. The invariant: what is left to be noted from here makes the whole. Assumes nothing.
use mathlib.Core.Path.{◌≡◌, ◌∙◌}
use Prim.Native.Nat.{◌+◌, ◌-◌, ◌≤◌, ◌<◌}
use Rattle.second.specs.Store.{matrix}
use Rattle.second.specs.Backward.{cleared_fair, back-next, back_end}
use native.Mathlib.Omega.{arith}
use Rattle.second.proofs.backward.Goals as goal

pub loop-q-preserved : goal.loop-q-preserved
loop-q-preserved c =
    let a = c.args in
    let o = c.loop-q in
    let k = c.clear_above in
    let t : a.area.i < o.q = c.loop-q-test.true in
    let u : o.q ≤ a.area.l = c.loop-q.auto.q in
    let z : o.q - 1 + 1 ≡ o.q = omega arith in
    record {
      same_room = k.ensures.same_room ∙ o.invariant.same_room;
      fair = cleared_fair k.ensures.cleared o.invariant.fair;
      backing = back-next (matrix a.area a.work.now) a.d.now a.area.l a.area.i (omega arith) (omega arith) z o.invariant.backing k.ensures.cleared;
    }

pub returns-clause-cleared : goal.returns-clause-cleared
returns-clause-cleared c =
    let a = c.args in
    let o = c.loop-q in
    back_end (matrix a.area a.work.now) a.d.now a.area.l a.area.i (omega (arith, c.loop-q-test.false)) o.invariant.backing
