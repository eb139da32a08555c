-- `shown::Page::put_order` meets its contract: part after part. Assumes nothing.
use Rattle.shown.specs.Put.{then}
use Rattle.shown.specs.Text.{order_text}
use Rattle.shown.proofs.Page.put_order.Goals as goal

pub returns-in-Some-clause-text : goal.returns-in-Some-clause-text
unfolding order_text
returns-in-Some-clause-text c = rw c.in-Some.is (then _ _ _ _ _ c.put_all.ensures.text (then _ _ _ _ _ c.put_entries.ensures.text c.put_all-in-Some.ensures.text))
