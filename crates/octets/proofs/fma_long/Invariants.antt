-- `octets::fma_long` meets its contract. The loop makes the sum from the front, a block at a time; the last block was made before.
-- Assumes nothing.
use Prim.Native.Nat.{◌-◌, ◌≤◌}
use lib.ListN.{length}
use Rattle.octets.specs.Spans.{Span, fma_at}
use Rattle.octets.proofs.fma_long.Given as goal

abbrev pub invariant-loop-i : goal.invariant-loop-i
invariant-loop-i l = (l.i ≤ length l.initial.dest) × Span (fma_at l.initial.dest l.src l.k) l.initial.dest 0 l.i l.dest

abbrev pub decreases-loop-i : goal.decreases-loop-i
decreases-loop-i l = length l.initial.dest - l.i
