-- `checks::is_binary` meets its contract. Assumes nothing.
use Rattle.call.specs.Tests.{sofar_end}
use native.Mathlib.Omega.{arith}
use Rattle.call.proofs.checks.is_binary.Goals as goal

pub returns : goal.returns
returns c = sofar_end c.loop-bit.invariant (omega arith)
