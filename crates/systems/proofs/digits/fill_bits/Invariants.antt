-- `digits::fill_bits` meets its contract: the room is filled from the front. Assumes nothing.
use Rattle.std.proofs.Common.{length, take}
use Rattle.loops.specs.Front.{Front}
use Rattle.systems.specs.Digits.{bits_in}
use Rattle.systems.proofs.digits.fill_bits.Given as goal

abbrev pub invariant-loop-i : goal.invariant-loop-i
invariant-loop-i l = Front (take (length l.initial.out) (bits_in l.digits)) l.initial.out l.out l.i
