-- `digits::fill_bytes` meets its contract: the room is filled from the front. Assumes nothing.
use Rattle.loops.specs.Front.{Front}
use Rattle.systems.specs.Digits.{bytes_of}
use Rattle.systems.proofs.digits.fill_bytes.Given as goal

abbrev pub invariant-loop-i : goal.invariant-loop-i
invariant-loop-i l = Front (bytes_of l.digits) l.initial.out l.out l.i
