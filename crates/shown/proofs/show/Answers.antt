-- `shown::show` meets its contract: what reading left in the rooms is what the form says. Assumes nothing.
use Rattle.std.proofs.Common.{◌≤◌, length, arith}
use mathlib.Core.Path.{ap, ◌∙◌}
use borrow.Author.Tests.{le-leb}
use Rattle.loops.specs.Room.{puts}
use Rattle.stored.specs.Answers.{Got}
use Rattle.shown.specs.Put.{byte}
use Rattle.shown.specs.Filled.{showing, same_screen, read_shown}
use Rattle.shown.proofs.show.Goals as goal

pub show_answer-requires-2 : goal.show_answer-requires-2
show_answer-requires-2 c = (read_shown _ _ _ _ _ _ c.read-answer.ensures.is).filled

pub returns : goal.returns
unfolding showing
returns c =
    let e = c.read-answer.ensures.is in
    let few : length c.args.form.now ≤ 65536 = omega arith in
    rw (le-leb _ _ few)
    (same_screen (c.show_answer-2.ensures ∙ ap (puts byte _) (read_shown _ _ _ _ _ _ e).is) (ap (λ (g : Got). g.list) e) (ap (λ (g : Got). g.order) e))
