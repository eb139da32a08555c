-- `digits::is_clear` meets its contract: what is left to look at decides the same. Assumes nothing.
use Rattle.std.proofs.Common.{sym, ◌∙◌, arith}
use Rattle.systems.specs.Digits.{bits_in, length_bits, clear-not, clear_next, clear-over}
use Rattle.systems.proofs.digits.is_clear.Goals as goal

pub returns-then-bit-ne0 : goal.returns-then-bit-ne0
returns-then-bit-ne0 c =
    let n = length_bits c.args.digits.now in
    sym (c.loop-i.invariant ∙ clear-not (bits_in c.args.digits.now) c.loop-i.i (omega arith) (λ e. c.if-bit-ne0.true (c.bit.ensures ∙ e)))

pub loop-i-preserved : goal.loop-i-preserved
loop-i-preserved c =
    let n = length_bits c.args.digits.now in
    c.loop-i.invariant ∙ clear_next (bits_in c.args.digits.now) c.loop-i.i (omega arith) (sym c.bit.ensures ∙ c.if-bit-ne0.false)

pub returns : goal.returns
returns c =
    let n = length_bits c.args.digits.now in
    sym (c.loop-i.invariant ∙ clear-over (bits_in c.args.digits.now) c.loop-i.i (omega arith))
