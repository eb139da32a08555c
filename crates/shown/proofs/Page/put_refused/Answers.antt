-- `shown::Page::put_refused` meets its contract: words, then a number. Assumes nothing.
use Rattle.shown.specs.Put.{then}
use Rattle.shown.specs.Text.{refused_text}
use Rattle.shown.proofs.Page.put_refused.Goals as goal

pub returns-clause-text : goal.returns-clause-text
unfolding refused_text
returns-clause-text c = rw (← c.number.ensures) (then _ _ _ _ _ c.put_named.ensures.text c.put_all.ensures.text)
