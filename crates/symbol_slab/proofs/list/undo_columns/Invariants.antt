-- `list::undo_columns` meets its contract. Assumes nothing.
use Prim.Native.Nat.{◌+◌}
use Rattle.symbol_slab.specs.Placed.{Ready}
use Rattle.symbol_slab.specs.Turns.{Down}
use Rattle.symbol_slab.proofs.list.undo_columns.Given as goal

abbrev pub invariant-loop-i : goal.invariant-loop-i
invariant-loop-i l = Down l.part.t l.part.at (l.part.at + l.part.n) l.list l.initial.slab l.slab l.i × Ready l.part.n l.room.held l.slab l.room.bytes
