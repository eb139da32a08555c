-- The first places, computed: the octet rows are exchanged with the last rows, one by one, and not moved past them.
--   exchanged   of six rows, the second and the third being octet rows: the rows that may be chosen, by place
-- Assumes nothing.
use Rattle.std.specs.Prelude.{◌≡◌, refl, [], ◌∷◌}
use Rattle.phases.specs.System.{first_rows}

-- six rows, the second and the third of them octet rows
pub exchanged : first_rows (record { m = 6; n = 6; s = 1; h = 2; w = 4 }) ≡ 0 ∷ 4 ∷ 5 ∷ 3 ∷ []
exchanged = refl
