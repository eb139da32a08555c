-- `stored::word_or_zero` meets its contract: an operation is at its place, and past the last is nothing. Assumes nothing.
use mathlib.Core.Path.{sym, ◌∙◌}
use native.Mathlib.Omega.{arith}
use Rattle.stored.specs.Form.{words_at}
use Rattle.stored.specs.Bytes.{get_or_out}
use Rattle.stored.specs.Scan.{length-words_at, get_or-words_at}
use Rattle.stored.proofs.word_or_zero.Goals as goal

pub returns-then-i-n : goal.returns-then-i-n
returns-then-i-n c = c.word_at.ensures ∙ sym (get_or-words_at _ 13 _ _ c.if-i-n.true)

pub returns-else-i-n : goal.returns-else-i-n
returns-else-i-n c =
    let a = c.args in
    let h = length-words_at a.form.now 13 a.n in
    sym (get_or_out (words_at a.form.now 13 a.n) a.i (omega arith))
