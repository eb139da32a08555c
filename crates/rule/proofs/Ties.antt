-- The smallest systems that tell the rule from what looks like it, computed: for each step the row, its column, and the columns that leave V with it.
--   ties         they are so
-- Assumes nothing.
use Rattle.std.specs.Prelude.{refl, zero}
use Rattle.rule.specs.Ties.{Ties}

pub ties : Ties
ties = record { singles = refl; refreshed = refl; pushed = refl; component = refl; place = refl; zero = refl }
