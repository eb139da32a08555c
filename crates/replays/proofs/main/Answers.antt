-- `main` is safe and ends. Assumes nothing.
use Rattle.std.proofs.Common.{sym, ℕ}
use lib.ListN.{length-replicate}
use Rattle.replays.proofs.main.Goals as goal

pub slice_bounds-read_full-end : goal.slice_bounds-read_full-end
slice_bounds-read_full-end c = sym (length-replicate {0} {A = ℕ} 524288 0)
