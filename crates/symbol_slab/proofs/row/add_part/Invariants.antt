-- `row::add_part` meets its contract. Assumes nothing.
use Prim.Native.Nat.{◌+◌, ◌-◌, ◌≤◌}
use Rattle.octets.specs.Spans.{Span}
use Rattle.symbol_slab.specs.Placed.{add_at}
use Rattle.symbol_slab.proofs.row.add_part.Given as goal

abbrev pub invariant-loop-i : goal.invariant-loop-i
invariant-loop-i l = (l.i ≤ l.n) × Span (add_at l.initial.slab l.dest l.src) l.initial.slab l.dest (l.dest + l.i) l.slab

abbrev pub decreases-loop-i : goal.decreases-loop-i
decreases-loop-i l = l.n - l.i
