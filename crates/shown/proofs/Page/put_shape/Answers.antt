-- `shown::Page::put_shape` meets its contract: part after part. Assumes nothing.
use Rattle.shown.specs.Put.{then}
use Rattle.shown.specs.Text.{shape_text}
use Rattle.shown.proofs.Page.put_shape.Goals as goal

pub returns-clause-text : goal.returns-clause-text
unfolding shape_text
returns-clause-text c = then _ _ _ _ _ c.put_named.ensures.text (then _ _ _ _ _ c.put_named-2.ensures.text (then _ _ _ _ _ c.put_named-3.ensures.text c.put_all.ensures.text))
