-- `stored::judge` meets its contract: what is kept is in its place. Assumes nothing.
use mathlib.Core.Path.{sym, ◌∙◌}
use borrow.Author.Tests.{not-false}
use Rattle.stored.specs.Answers.{judged}
use Rattle.stored.specs.Accepted.{judged-placed}
use Rattle.stored.proofs.judge.Goals as goal

pub returns-clause-placed : goal.returns-clause-placed
unfolding judged
returns-clause-placed c =
    judged-placed _ _ _ _
    (rw (sym c.form_fine.ensures.fine ∙ not-false _ c.if-not-form_fine.false-raw, ← c.number2.ensures.0, ← c.number2-2.ensures.0, ← c.number4-operations.ensures.0) c.judge_by.ensures)
