use mathlib.Core.Path.{◌∙◌}
use Rattle.singles.specs.Figures.{leaving_next, leaving_end}
use Rattle.singles.proofs.Singles.lose_cols.Goals as goal

pub loop-q-preserved : goal.loop-q-preserved
loop-q-preserved c =
    record {
      same_room = c.lose_col.ensures.same_room ∙ c.loop-q.invariant.same_room;
      leaving = leaving_next c.loop-q.invariant.leaving c.loop-q-test.true c.lose_col.ensures.done;
    }

pub returns-clause-done : goal.returns-clause-done
returns-clause-done c = leaving_end c.loop-q.invariant.leaving c.loop-q-test.false
