use mathlib.Core.Path.{sym, ◌∙◌}
use Rattle.singles.specs.Figures.{going_hit, going_skip, going_end}
use Rattle.singles.proofs.Singles.refresh_all.Goals as goal
use Rattle.singles.proofs.Singles.refresh_all.Goals.{then-has, else-has}

pub loop-y-preserved : goal.loop-y-preserved
loop-y-preserved c =
    elim c.if-has.branch [
      | then-has w ↦
          rw w.self-is record {
            same_room = w.refresh.ensures.same_room ∙ c.loop-y.invariant.same_room;
            going = going_hit c.loop-y.invariant.going c.loop-y-test.true (sym c.has.ensures ∙ w.if-has.true) w.refresh.ensures.done;
          }
      | else-has w ↦
          rw w.self-is record {
            same_room = c.loop-y.invariant.same_room;
            going = going_skip c.loop-y.invariant.going c.loop-y-test.true (sym c.has.ensures ∙ w.if-has.false);
          }
    ]

pub returns-clause-done : goal.returns-clause-done
returns-clause-done c = going_end c.loop-y.invariant.going c.loop-y-test.false
