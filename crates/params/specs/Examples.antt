-- The worked examples of the parameters: K = 10; the last K whose L is within the bound, and the first that is refused.
--   ten           the answer for 10
--   last          the answer for 217
--   too_long      218 is refused, its L being above the bound
--   above-table   56,404 is refused, being above each row of the table
-- Assumes nothing.
use Rattle.std.specs.Prelude.{◌≡◌, refl, Ok}
use Rattle.params.specs.Table.{table}
use Rattle.params.specs.Params.{first, answer, bad_count, params_of}

pub ten : params_of 10 ≡ Ok (record { k = 10; j = 254; s = 7; h = 10; w = 17; l = 27; p = 10 })
unfolding params_of first answer table
ten = refl

pub last : params_of 217 ≡ Ok (record { k = 217; j = 764; s = 29; h = 10; w = 233; l = 256; p = 23 })
unfolding params_of first answer table
last = refl

pub too_long : params_of 218 ≡ bad_count
unfolding params_of first answer table
too_long = refl

pub above-table : params_of 56_404 ≡ bad_count
unfolding params_of first answer table
above-table = refl
