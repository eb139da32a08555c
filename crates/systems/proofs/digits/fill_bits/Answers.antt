-- `digits::fill_bits` meets its contract: the room is filled from the front. Assumes nothing.
use Rattle.std.proofs.Common.{sym, ◌∙◌, length, arith, length-take-le, get_or-take}
use Rattle.loops.specs.Front.{begin, turn, end}
use Rattle.systems.specs.Digits.{bits_in, length_bits}
use Rattle.systems.proofs.digits.fill_bits.Goals as goal

pub loop-i-init : goal.loop-i-init
loop-i-init c = let a = c.args in begin (length-take-le _ _ (omega (arith, length_bits a.digits.now, c.requires)))

pub loop-i-preserved : goal.loop-i-preserved
loop-i-preserved c =
    let a = c.args in
    let l = c.loop-i.invariant in
    turn l (omega (arith, l.long)) (c.bit.ensures ∙ sym (get_or-take (length a.out.now) (bits_in a.digits.now) c.loop-i.i 0 (omega (arith, l.long))))

pub returns : goal.returns
returns c = let l = c.loop-i.invariant in end l (omega (arith, l.long))
