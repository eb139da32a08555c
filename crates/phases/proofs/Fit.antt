-- A system that the definition takes, and its rows and columns at first.
--   rows-occ, rows_once, rows-below   they are 0 .. m - 1, once each
-- Assumes nothing.
use Rattle.std.specs.Prelude.{◌≡◌, ◌⊎◌, List, ◌++◌, ℕ, ◌+◌, ◌-◌, ◌<◌, ◌≤◌}
use Rattle.std.proofs.Common.{ap, ◌∙◌, inl, inr, arith}
use Rattle.phases.specs.System.{Shape, range, first_rows, octet_rows}
use Rattle.phases.specs.Occ.{occ, occ-append, occ-range, Member, Once}
use Rattle.phases.specs.Fit.{all-rows, less?}

module _ (z : Shape) (fits : z.s + z.h + z.h ≤ z.m) where
  module _ (y : ℕ) where
    abbrev a : List ℕ
    a = range 0 z.s

    abbrev b : List ℕ
    b = range (z.m - z.h) z.h

    abbrev c : List ℕ
    c = range (z.s + z.h) (z.m - (z.s + z.h + z.h))

    sums : occ y (all-rows z) ≡ occ y a + occ y b + occ y c + occ y (octet_rows z)
    sums = occ-append y (first_rows z) (octet_rows z)
        ∙ ap (λ (k : ℕ). k + occ y (octet_rows z)) (occ-append y (a ++ b) c ∙ ap (λ (k : ℕ). k + occ y c) (occ-append y a b))

    ra : (y < z.s → occ y a ≡ 1) × (z.s ≤ y → occ y a ≡ 0)
    ra = (λ l. (occ-range 0 z.s y).inside (omega arith) (omega arith), λ l. (occ-range 0 z.s y).after (omega arith))

    low : y < z.m → occ y (all-rows z) ≡ 1
    low l = go (less? y z.s) (less? y (z.s + z.h)) (less? y (z.m - z.h))
      where
        go : (y < z.s) ⊎ (z.s ≤ y) → (y < z.s + z.h) ⊎ (z.s + z.h ≤ y) → (y < z.m - z.h) ⊎ (z.m - z.h ≤ y) → occ y (all-rows z) ≡ 1
        go (inl p) q r =
            omega (
              arith,
              sums,
              ra.0 p,
              (occ-range (z.m - z.h) z.h y).before (omega arith),
              (occ-range (z.s + z.h) (z.m - (z.s + z.h + z.h)) y).before (omega arith),
              (occ-range z.s z.h y).before p,
            )
        go (inr p) (inl q) r =
            omega (
              arith,
              sums,
              ra.1 p,
              (occ-range (z.m - z.h) z.h y).before (omega arith),
              (occ-range (z.s + z.h) (z.m - (z.s + z.h + z.h)) y).before q,
              (occ-range z.s z.h y).inside p q,
            )
        go (inr p) (inr q) (inl r) =
            omega (
              arith,
              sums,
              ra.1 p,
              (occ-range (z.m - z.h) z.h y).before r,
              (occ-range (z.s + z.h) (z.m - (z.s + z.h + z.h)) y).inside q (omega arith),
              (occ-range z.s z.h y).after q,
            )
        go (inr p) (inr q) (inr r) =
            omega (
              arith,
              sums,
              ra.1 p,
              (occ-range (z.m - z.h) z.h y).inside r (omega arith),
              (occ-range (z.s + z.h) (z.m - (z.s + z.h + z.h)) y).after (omega arith),
              (occ-range z.s z.h y).after q,
            )

    high : z.m ≤ y → occ y (all-rows z) ≡ 0
    high g =
        omega (
          arith,
          sums,
          ra.1 (omega arith),
          (occ-range (z.m - z.h) z.h y).after (omega arith),
          (occ-range (z.s + z.h) (z.m - (z.s + z.h + z.h)) y).after (omega arith),
          (occ-range z.s z.h y).after (omega arith),
        )

  pub rows-occ : (y : ℕ) → (y < z.m → occ y (all-rows z) ≡ 1) × (z.m ≤ y → occ y (all-rows z) ≡ 0)
  rows-occ y = (low y, high y)

  pub rows_once : Once (all-rows z)
  rows_once y = go (less? y z.m)
    where
      go : (y < z.m) ⊎ (z.m ≤ y) → occ y (all-rows z) ≤ 1
      go (inl l) = omega (arith, low y l)
      go (inr l) = omega (arith, high y l)

  pub rows-below : (y : ℕ) → Member (all-rows z) y → y < z.m
  rows-below y k = go (less? y z.m)
    where
      go : (y < z.m) ⊎ (z.m ≤ y) → y < z.m
      go (inl l) = l
      go (inr l) = absurd (omega (arith, high y l))
