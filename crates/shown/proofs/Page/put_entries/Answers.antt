-- `shown::Page::put_entries` meets its contract: what is left to put makes the same text. Assumes nothing.
use mathlib.Core.Path.{ap, ◌∙◌}
use lib.ListN.{drop_of_length-le}
use Rattle.shown.specs.Text.{entries_text}
use Rattle.shown.specs.Put.{turn, over, entries_text-drop}
use Rattle.shown.proofs.Page.put_entries.Goals as goal

pub loop-x-preserved : goal.loop-x-preserved
loop-x-preserved c =
    (c.put_named.ensures.same_room ∙ c.loop-x.invariant.0, turn _ _ _ _ _ _ c.loop-x.invariant.1 (entries_text-drop _ _ c.loop-x-test.true) c.put_named.ensures.text)

pub returns : goal.returns
unfolding entries_text
returns c = record { same_room = c.loop-x.invariant.0; text = over _ _ _ c.loop-x.invariant.1 (ap entries_text (drop_of_length-le _ c.loop-x-test.false)) }
