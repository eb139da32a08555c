-- `clear::numbers` meets its contract. Assumes nothing.
use mathlib.Core.Path.{◌∙◌}
use borrow.Author.Rules.{rules}
use Rattle.call.specs.Over.{replicate-blank}
use Rattle.call.proofs.clear.numbers.Goals as goal

pub returns : goal.returns
returns c = c.fill.ensures.after (λ y h. search rules) ∙ replicate-blank _
