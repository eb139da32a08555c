-- Rows as numbers, the form in which the code holds the table: the decimal digits are those of K', then of J (four), S (three), H (two) and W (five).
--   k_unit, j_unit, s_unit, h_unit   the weight of the last digit of K', J, S, H
--   pack r, unpack x   a row as a number, and back
--   scan k t           the first packed row of t for k
--   packed_answer x     what a packed row answers
--   Packed x           the sums of a packed row are safe
-- Assumes nothing.
use Rattle.std.specs.Prelude.{List, ℕ, ◌+◌, ◌*◌, ◌/◌, ◌%◌, ◌≤◌, ◌<◌, leb, Option, find}
use Rattle.params.specs.Table.{Row, row}
use Rattle.params.specs.Params.{Parameters, entry, length_of, answer}

abbrev pub k_unit : ℕ
k_unit = 100_000_000_000_000

abbrev pub j_unit : ℕ
j_unit = 10_000_000_000

abbrev pub s_unit : ℕ
s_unit = 10_000_000

abbrev pub h_unit : ℕ
h_unit = 100_000

abbrev pub pack : Row → ℕ
pack r = r.k * k_unit + r.j * j_unit + r.s * s_unit + r.h * h_unit + r.w

abbrev pub unpack : ℕ → Row
unpack x = row (x / k_unit) (x % k_unit / j_unit) (x % j_unit / s_unit) (x % s_unit / h_unit) (x % h_unit)

-- the first packed row whose K' is not below k
abbrev pub scan : ℕ → List ℕ → Option ℕ
scan k t = find (λ x. leb k (unpack x).k) t

-- what the row answers
unfoldable pub packed_answer : ℕ → Parameters
packed_answer x = answer (entry (unpack x))

-- L - W does not fall below 0, and no sum is large
pub record Packed (x : ℕ) : Type 0 where
  pub w_upto_l : (unpack x).w ≤ length_of (unpack x)
  pub l_small : length_of (unpack x) < 65_536
