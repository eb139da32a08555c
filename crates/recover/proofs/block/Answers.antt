-- `block` is safe and ends. Assumes nothing.
use mathlib.Core.Path.{sym}
use Prim.Native.Nat.{ℕ}
use lib.ListN.{length-replicate}
use Rattle.recover.proofs.block.Goals as goal

pub slice_bounds-first-end : goal.slice_bounds-first-end
slice_bounds-first-end g c = sym (length-replicate {0} {A = ℕ} 66000 0)

pub slice_bounds-first-end-3 : goal.slice_bounds-first-end-3
slice_bounds-first-end-3 g c = sym (length-replicate {0} {A = ℕ} 524288 0)
