-- Worked examples.
--   two-by_128   2 x 128 = 29
--   half         1 / 2 = 142
-- Assumes nothing.
use Rattle.std.specs.Prelude.{◌≡◌, refl}
use Rattle.octet.specs.Octet.{add, times, product, rest, mul, squares, inverse, quotient}

pub two-by_128 : mul 2 128 ≡ 29
unfolding mul rest product times add
two-by_128 = refl

pub half : quotient 1 2 ≡ 142
unfolding quotient inverse squares mul rest product times add
half = refl
