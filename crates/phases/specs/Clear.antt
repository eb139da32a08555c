-- What clearing does to a column: row x is added to each of the rows ys, as often as s says.
--   bump, bump_octet   one addition of a multiple
-- Assumes nothing.
use Rattle.std.specs.Prelude.{Bool, true, false, ℕ, eqb}
use Rattle.octet.specs.Field as L
use Rattle.octet.specs.Field.{Octet, Octets}
use Rattle.octet.specs.Octet.{add, mul}
use Rattle.algebra.specs.Rows.{put}
use Rattle.algebra.specs.Sums.{pick}

-- the column after c times row x was added to row y
abbrev pub bump : ℕ → ℕ → ℕ → (ℕ → ℕ) → ℕ → ℕ
bump c y x v = put v y (add (v y) (mul c (v x)))

pub bump_octet : (c y x : ℕ) (v : ℕ → ℕ) → Octets v → Octets (bump c y x v)
bump_octet c y x v h r = at (eqb r y)
  where
    at : (b : Bool) → Octet (pick b (add (v y) (mul c (v x))) (v r))
    at true = L.add_octet (v y) (mul c (v x)) (h y) (L.mul_octet c (v x))
    at false = h r
