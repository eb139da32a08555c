-- `columns::sweep` meets its contract. Assumes nothing.
use mathlib.Core.Path.{sym, ◌∙◌}
use Rattle.columns.specs.Sweep.{swept-zero, swept_none, swept-one, swept_end}
use native.Mathlib.Omega.{arith}
use Rattle.columns.proofs.sweep.Goals as goal
use Rattle.columns.proofs.sweep.Goals.{then-has+in-Some, then-has+in_default, else-has}

pub loop-c-preserved : goal.loop-c-preserved
loop-c-preserved c =
    elim c.if-has.branch [
      | then-has+in-Some w ↦
          rw w.v-is (swept-one c.loop-c.invariant c.loop-c-test.true (sym c.has.ensures ∙ w.if-has.true) w.in-Some.ensures.1 w.in-Some.ensures.0 w.swap.ensures)
      | then-has+in_default w ↦ rw w.v-is (swept_none c.loop-c.invariant c.loop-c-test.true (sym c.has.ensures ∙ w.if-has.true) w.in_default.ensures (omega arith))
      | else-has w ↦ rw w.v-is (swept-zero c.loop-c.invariant c.loop-c-test.true (sym c.has.ensures ∙ w.if-has.false))
    ]

pub returns : goal.returns
returns c = swept_end c.loop-c.invariant c.loop-c-test.false
