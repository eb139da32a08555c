-- `shown::Page::put_digit` meets its contract: a digit, or nothing. Assumes nothing.
use mathlib.Core.Path.{ap, ◌∙◌}
use borrow.Author.Tests.{le-leb, lt-leb}
use Rattle.loops.specs.Room.{put}
use Rattle.shown.specs.Put.{byte, one, nothing}
use Rattle.shown.proofs.Page.put_digit.Goals as goal

pub returns-then-p-x-clause-text : goal.returns-then-p-x-clause-text
returns-then-p-x-clause-text c = rw (le-leb _ _ c.if-p-x.true) (one _ _ _ (c.put.ensures.text ∙ ap (put byte _) c.digit.ensures))

pub returns-else-p-x-clause-text : goal.returns-else-p-x-clause-text
returns-else-p-x-clause-text c = rw (lt-leb _ _ c.if-p-x.false) (nothing _)
