-- `digits::is_clear` meets its contract: what is left to look at decides the same. Assumes nothing.
use Rattle.std.proofs.Common.{◌≡◌, drop}
use Rattle.systems.specs.Digits.{bits_in, clear}
use Rattle.systems.proofs.digits.is_clear.Given as goal

abbrev pub invariant-loop-i : goal.invariant-loop-i
invariant-loop-i l = clear (drop l.from (bits_in l.digits)) ≡ clear (drop l.i (bits_in l.digits))
