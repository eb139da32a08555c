use Rattle.std.proofs.Common.{length}
use Rattle.loops.specs.Front.{Front}
use Rattle.phases.specs.System.{range}
use Rattle.opening.proofs.numbers.Given as goal

abbrev pub invariant-loop-k : goal.invariant-loop-k
invariant-loop-k l = Front (range 0 (length l.initial.s)) l.initial.s l.s l.k
