-- `shown::Page::put_op` meets its contract: each kind is a case of the definition. Assumes nothing.
use mathlib.Core.Path.{ap, ◌∙◌}
use Rattle.loops.specs.Room.{puts}
use Rattle.shown.specs.Text.{add_word, mul_word, fma_word, op_text}
use Rattle.shown.specs.Put.{byte, line_one, line_two}
use Rattle.shown.proofs.Page.put_op.Goals as goal

pub returns-in-AddAssign-clause-text : goal.returns-in-AddAssign-clause-text
unfolding op_text
returns-in-AddAssign-clause-text c = let a = c.in-AddAssign in rw a.is (c.put_line.ensures.text ∙ ap (puts byte _) (line_one add_word a.dest a.src))

pub returns-in-MulAssign-clause-text : goal.returns-in-MulAssign-clause-text
unfolding op_text
returns-in-MulAssign-clause-text c =
    let a = c.in-MulAssign in rw (a.is, ← c.from.ensures) (c.put_line-in-MulAssign.ensures.text ∙ ap (puts byte _) (line_one mul_word a.dest c.from.result))

pub returns-in-FMA-clause-text : goal.returns-in-FMA-clause-text
unfolding op_text
returns-in-FMA-clause-text c =
    let a = c.in-FMA in rw (a.is, ← c.from-in-FMA.ensures) (c.put_line-in-FMA.ensures.text ∙ ap (puts byte _) (line_two fma_word a.dest a.src c.from-in-FMA.result))
