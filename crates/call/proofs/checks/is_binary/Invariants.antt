-- `checks::is_binary` meets its contract. Assumes nothing.
use Rattle.call.specs.Tests.{Sofar}
use Rattle.call.proofs.checks.is_binary.Given as goal

abbrev pub invariant-loop-bit : goal.invariant-loop-bit
invariant-loop-bit l = Sofar l.bits l.fine l.bit-index
