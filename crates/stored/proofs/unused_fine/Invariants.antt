-- `stored::unused_fine` meets its contract: what is left to look at decides the same. Assumes nothing.
use Prim.Native.Nat.{◌+◌, ◌*◌, ◌-◌, ◌≤◌}
use mathlib.Core.Path.{◌≡◌}
use Rattle.stored.specs.Form.{unused_fine}
use Rattle.stored.proofs.unused_fine.Given as goal

abbrev pub invariant-loop-k : goal.invariant-loop-k
invariant-loop-k l = (l.k ≤ l.n) × (unused_fine l.form 13 l.n ≡ unused_fine l.form (13 + 4 * l.k) (l.n - l.k))
