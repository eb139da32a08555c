-- `stored::words_fine` meets its contract: what is left to look at decides the same. Assumes nothing.
use Prim.Native.Nat.{◌+◌, ◌*◌, ◌-◌, ◌≤◌}
use mathlib.Core.Path.{◌≡◌}
use Rattle.oplist.specs.Check.{list_fine}
use Rattle.stored.specs.Form.{words_at}
use Rattle.stored.proofs.words_fine.Given as goal

abbrev pub invariant-loop-k : goal.invariant-loop-k
invariant-loop-k l = (l.k ≤ l.n) × (list_fine l.m (words_at l.form 13 l.n) ≡ list_fine l.m (words_at l.form (13 + 4 * l.k) (l.n - l.k)))
