use Rattle.singles.specs.Figures.{step-one, step_more, rows_tail, under_tail, under_still}
use mathlib.Core.Path.{◌∙◌}
use Rattle.std.proofs.Common.{rules, tests}
use Rattle.singles.proofs.Singles.next.Goals as goal

pub lose_col-requires : goal.lose_col-requires
lose_col-requires c =
    (rows_tail c.requires.5 c.requires.0, c.requires.4, under_still c.first_loss.ensures.done.same (under_tail c.requires.5 c.requires.2), c.first_loss.ensures.done.sound)

pub refresh_all-requires : goal.refresh_all-requires
refresh_all-requires c = (
  rows_tail c.requires.5 c.requires.0,
  c.requires.4,
  under_still (c.lose_cols.ensures.done.same ∙ c.lose_col.ensures.done.same ∙ c.first_loss.ensures.done.same) (under_tail c.requires.5 c.requires.2),
  c.lose_cols.ensures.done.sound,
)

pub returns-then-is_empty-clause-done : goal.returns-then-is_empty-clause-done
returns-then-is_empty-clause-done c =
    step-one _ _ _ _ _ _ c.requires.5 c.first_loss.ensures.done c.lose_col.ensures.done c.lose_cols.ensures.done (search (rules, tests))

pub returns-clause-done : goal.returns-clause-done
returns-clause-done c =
    step_more _ _ _ _ _ _ c.requires.5 c.first_loss.ensures.done c.lose_col.ensures.done c.lose_cols.ensures.done (search (rules, tests)) c.refresh_all.ensures.done
