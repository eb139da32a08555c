-- `words::read_digits` meets its contract: what is left says the same number. Assumes nothing.
use Rattle.std.proofs.Common.{◌≡◌, ◌<◌, drop}
use Rattle.systems.specs.Text.{digits_of}
use Rattle.systems.proofs.words.read_digits.Given as goal

abbrev pub invariant-loop-i : goal.invariant-loop-i
invariant-loop-i l = (l.value < 10000000) × (digits_of 0 l.from (drop l.from l.line) ≡ digits_of l.value l.i (drop l.i l.line))
