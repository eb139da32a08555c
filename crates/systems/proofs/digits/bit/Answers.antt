-- `digits::bit` meets its contract: four bits a digit. Assumes nothing.
use Rattle.std.proofs.Common.{◌%◌, sym, ◌∙◌, arith, refl}
use Rattle.systems.specs.Digits.{digit_or, bit_shifted, bit_at}
use Rattle.systems.proofs.digits.bit.Goals as goal

pub returns : goal.returns
returns c =
    let a = c.args in
    let e = digit_or _ _ _ c.nibble.ensures.value c.unwrap_or-d.ensures in
    bit_shifted _ _ (a.i % 4) e (omega arith) ∙ sym (bit_at a.digits.now a.i (a.i % 4) c.requires refl)
