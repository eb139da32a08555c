-- `second::fill` meets its contract. The invariant: the rows passed are filled. Assumes nothing.
use mathlib.Core.List.{map}
use Prim.Native.Nat.{ℕ}
use Rattle.second.specs.Fill.{entries, Filled}
use Rattle.second.proofs.fill.Given as goal

abbrev pub invariant-loop-y : goal.invariant-loop-y
invariant-loop-y l = Filled l.z.m l.z.l l.i (λ (x : ℕ). map (entries l.z.m l.z.l l.z.s l.z.h l.bits l.octets x) l.cols) l.y l.work
