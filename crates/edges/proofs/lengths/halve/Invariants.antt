-- `lengths::halve` is safe and ends. Assumes nothing.
use Prim.Native.Nat.{◌-◌, ◌≤◌}
use Rattle.edges.proofs.lengths.halve.Given as goal

abbrev pub invariant-loop-low : goal.invariant-loop-low
invariant-loop-low g l = l.high ≤ 4096

abbrev pub decreases-loop-low : goal.decreases-loop-low
decreases-loop-low g l = l.high - l.low
