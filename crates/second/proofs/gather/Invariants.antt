-- `second::gather` meets its contract. The loop makes the row from the front. Assumes nothing.
use mathlib.Core.List.{map}
use Prim.Native.Nat.{ℕ}
use lib.ListN.{get_or}
use Rattle.loops.specs.Front.{Front}
use Rattle.second.proofs.gather.Given as goal

abbrev pub invariant-loop-k : goal.invariant-loop-k
invariant-loop-k l = Front (map (λ (q : ℕ). get_or l.row q 0) l.cols) l.initial.dest l.dest l.k
