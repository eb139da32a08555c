-- `list::undo_all` meets its contract. Assumes nothing.
use Prim.Native.Nat.{◌-◌, ◌≤◌}
use Rattle.algebra.specs.Rows.{undo}
use Rattle.octets.specs.Multiples.{Blank}
use Rattle.oplist.specs.Listed.{ops_of}
use Rattle.symbol_slab.specs.Columns.{Cols}
use Rattle.symbol_slab.proofs.list.undo_all.Given as goal

abbrev pub invariant-loop-at : goal.invariant-loop-at
invariant-loop-at l = (l.at ≤ l.t) × Cols l.t 0 l.at (undo (ops_of l.list)) l.initial.slab l.slab × Blank l.room.bytes

abbrev pub decreases-loop-at : goal.decreases-loop-at
decreases-loop-at l = l.t - l.at
