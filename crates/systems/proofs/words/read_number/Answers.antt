-- `words::read_number` meets its contract: a digit at least, then the digits. Assumes nothing.
use Rattle.std.proofs.Common.{sym, ◌∙◌}
use Rattle.systems.specs.Text.{number_out, number-space, number_digits}
use Rattle.systems.proofs.words.read_number.Goals as goal
use Rattle.systems.proofs.words.read_number.Goals.{then-line-from-via-then-line-from, then-line-from-via-else-line-from+then-line-from-eq32}

pub returns-then-line-from : goal.returns-then-line-from
returns-then-line-from c =
    let a = c.args in
    elim c.then-line-from.branch [
      | then-line-from-via-then-line-from w ↦ sym (number_out a.line.now a.from w.if-line-from.true)
      | then-line-from-via-else-line-from+then-line-from-eq32 w ↦ sym (number-space a.line.now a.from w.if-line-from.false w.if-line-from-eq32.true)
    ]

pub returns : goal.returns
returns c = let a = c.args in c.read_digits.ensures ∙ sym (number_digits a.line.now a.from c.if-line-from.false c.if-line-from-eq32.false)
