-- What a room holds once a run begins.
--   held_filled   filled, it holds the multiples of the source
--   held_still    where it holds those of the source already, it does so still
-- Assumes nothing.
use Rattle.std.specs.Prelude.{◌≡◌, List, ℕ, ◌+◌, ◌≤◌, length}
use Rattle.std.proofs.Common.{subst, arith}
use Rattle.octets.specs.Multiples.{Multiples, entry}
use Rattle.symbol_slab.specs.Placed.{Ready}

pub held_still : (l room : List ℕ) (n held src : ℕ) → held ≡ src → Ready n held l room → src + n ≤ length l → Multiples n (entry l src) room
held_still l room n held src e r h = subst (λ (k : ℕ). Multiples n (entry l k) room) e (r.holds (omega arith))
