-- `shown::Page::put_words` meets its contract: what is left to put makes the same text. Assumes nothing.
use Prim.Native.Nat.{ℕ}
use mathlib.Core.Path.{ap, ◌∙◌}
use mathlib.Core.List.{List}
use lib.ListN.{drop_of_length-le}
use Rattle.oplist.specs.Listed.{ops_of}
use Rattle.shown.specs.Text.{ops_text}
use Rattle.shown.specs.Put.{turn, over, ops_text-drop}
use Rattle.shown.proofs.Page.put_words.Goals as goal

pub loop-w-preserved : goal.loop-w-preserved
loop-w-preserved c =
    (c.put_word.ensures.same_room ∙ c.loop-w.invariant.0, turn _ _ _ _ _ _ c.loop-w.invariant.1 (ops_text-drop _ _ c.loop-w-test.true) c.put_word.ensures.text)

pub returns : goal.returns
unfolding ops_text ops_of
returns c = record { same_room = c.loop-w.invariant.0; text = over _ _ _ c.loop-w.invariant.1 (ap (λ (l : List ℕ). ops_text (ops_of l)) (drop_of_length-le _ c.loop-w-test.false)) }
