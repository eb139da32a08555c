-- `main` is safe and ends. Assumes nothing.
use mathlib.Core.Path.{sym}
use Prim.Native.Nat.{ℕ}
use lib.ListN.{length-replicate}
use Rattle.vectors.proofs.main.Goals as goal

pub slice_bounds-read_all-end : goal.slice_bounds-read_all-end
slice_bounds-read_all-end c = sym (length-replicate {0} {A = ℕ} 2097152 0)
