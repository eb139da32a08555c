-- How long the defined list can be, so that rooms can be planned.
--   ramp a k, tri k   (a - 1) + (a - 2) + .., k terms; 0 + 1 + .. + (k - 1)
--   cost              the most that m rows and n columns can cost where phase one takes i steps
--   later             the part of that cost which is not clearing below: the rest of phase two, and phases three to five
--   longest           the most for a shape
--   largest           the longest list of 256 rows and 256 columns, 233 of them in V at first
-- Assumes nothing.
use Rattle.std.specs.Prelude.{◌≡◌, refl, ℕ, zero, suc, ◌+◌, ◌-◌, ◌*◌}
use Rattle.phases.specs.System.{Shape}

abbrev pub ramp : ℕ → ℕ → ℕ
ramp a zero = 0
ramp a (suc k) = (a - 1) + ramp (a - 1) k

abbrev pub tri : ℕ → ℕ
tri zero = 0
tri (suc k) = k + tri k

-- phases three to five and the rest of phase two, where phase one takes i of n columns
abbrev pub later : ℕ → ℕ → ℕ
later n i = (n - i) + tri (n - i) + tri i + tri i + i * (n - i)

-- clearing below in phases one and two, and the rest
abbrev pub cost : ℕ → ℕ → ℕ → ℕ
cost m n i = ramp m n + later n i

abbrev pub longest : Shape → ℕ
longest z = cost z.m z.n z.w

pub largest : longest (record { m = 256; n = 256; s = 29; h = 10; w = 233 }) ≡ 92331
largest = refl
