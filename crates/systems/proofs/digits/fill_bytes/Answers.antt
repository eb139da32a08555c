-- `digits::fill_bytes` meets its contract: the room is filled from the front. Assumes nothing.
use Rattle.std.proofs.Common.{◌+◌, ◌*◌, ◌<◌, sym, ◌∙◌, length, arith}
use Rattle.loops.specs.Front.{begin, turn, end}
use Rattle.systems.specs.Digits.{length-bytes, get_or-bytes, digits_all}
use Rattle.systems.proofs.digits.fill_bytes.Goals as goal

pub loop-i-init : goal.loop-i-init
loop-i-init c = begin (length-bytes _ _ c.requires.1)

pub byte-requires : goal.byte-requires
byte-requires c =
    let ds = c.args.digits.now in
    let i = c.loop-i.i in
    let l = c.loop-i.invariant in
    let h : 2 * i + 1 < length ds = omega (arith, l.long, c.requires.1) in
    (omega (arith, digits_all ds (2 * i) c.requires.0 (omega arith)), omega (arith, digits_all ds (2 * i + 1) c.requires.0 h))

pub loop-i-preserved : goal.loop-i-preserved
loop-i-preserved c =
    let l = c.loop-i.invariant in
    turn l (omega (arith, l.long)) (c.byte.ensures ∙ sym (get_or-bytes c.args.digits.now c.loop-i.i (omega (arith, l.long, c.requires.1))))

pub returns : goal.returns
returns c = let l = c.loop-i.invariant in end l (omega (arith, l.long))
