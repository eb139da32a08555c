-- The first places, computed: the octet rows are exchanged with the last rows, one by one, and not moved past them.
--   last        and the octet rows, which stand behind them
-- Assumes nothing.
use Rattle.std.specs.Prelude.{◌≡◌, refl, [], ◌∷◌}
use Rattle.phases.specs.System.{octet_rows}

pub last : octet_rows (record { m = 6; n = 6; s = 1; h = 2; w = 4 }) ≡ 1 ∷ 2 ∷ []
last = refl
