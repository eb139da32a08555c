-- `second::clear_below` meets its contract. The invariant: the rows passed are cleared, as often as the store at entry says. Assumes nothing.
use mathlib.Core.Path.{refl, ◌∙◌}
use Prim.Native.Nat.{suc, ◌-◌}
use Rattle.second.specs.Clear.{performed_none, performed_fair, clear_next}
use native.Mathlib.Omega.{arith}
use Rattle.second.proofs.clear_below.Goals as goal

pub loop-y-init : goal.loop-y-init
loop-y-init c = record { same_room = refl; performed = performed_none }

pub clear_row-requires-clause-fair : goal.clear_row-requires-clause-fair
clear_row-requires-clause-fair c = performed_fair c.loop-y.invariant.performed c.requires.fair

pub clear_row-requires-clause-x_lt_m : goal.clear_row-requires-clause-x_lt_m
clear_row-requires-clause-x_lt_m c =
    let rows = c.requires.rows in
    (rows.below 0 (omega arith), rows.below (suc c.loop-y.y-index) (omega (arith, c.loop-y-test.true)), c.requires.i_le_q.0, c.requires.i_le_q.1)

pub loop-y-preserved : goal.loop-y-preserved
loop-y-preserved c =
    let a = c.args in
    let o = c.loop-y in
    record {
      same_room = c.clear_row.ensures.same_room ∙ o.invariant.same_room;
      performed = clear_next a.area.m a.area.l a.area.i (a.q - a.area.i) a.x a.ys.now a.work.now c.requires.rows c.loop-y-test.true o.invariant.performed c.clear_row.ensures.performed;
    }
