-- `shown::Page::put_all` meets its contract: what is left to put makes the same text. Assumes nothing.
use mathlib.Core.Path.{◌∙◌}
use lib.ListN.{drop_of_length-le}
use Rattle.loops.specs.Part.{drop-next}
use Rattle.shown.specs.Put.{one, turn, over}
use Rattle.shown.proofs.Page.put_all.Goals as goal

pub loop-b-preserved : goal.loop-b-preserved
loop-b-preserved c =
    (c.put.ensures.same_room ∙ c.loop-b.invariant.0, turn _ _ _ _ _ _ c.loop-b.invariant.1 (drop-next _ _ c.loop-b-test.true) (one _ _ _ c.put.ensures.text))

pub returns : goal.returns
returns c = record { same_room = c.loop-b.invariant.0; text = over _ _ _ c.loop-b.invariant.1 (drop_of_length-le _ c.loop-b-test.false) }
