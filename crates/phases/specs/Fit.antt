-- A system that the definition takes, and its rows and columns at first.
--   Fit                     every entry is an octet, eligible rows are binary, and the rows and columns fit
--   all-rows                the rows by place at first
--   cols-occ, cols_once, cols-below   the columns are 0 .. n - 1, once each
--   less?                   a number is below another or not
-- Assumes nothing.
use Rattle.std.specs.Prelude.{◌≡◌, refl, ◌⊎◌, Bool, true, false, List, ◌++◌, ℕ, ◌+◌, ◌-◌, ◌<◌, ◌≤◌, ltb}
use Rattle.std.proofs.Common.{inl, inr, arith, ltb-true, ltb-false}
use Rattle.octet.specs.Field.{Octet}
use Rattle.phases.specs.System.{Shape, range, first_rows, octet_rows}
use Rattle.phases.specs.Occ.{occ, occ-range, Member}

pub record Fit (z : Shape) (A : ℕ → ℕ → ℕ) : Type 0 where
  pub entries : (x q : ℕ) → Octet (A x q)
  pub binary : (x q : ℕ) → Member (first_rows z) x → q < z.n → A x q ≤ 1
  pub rows_fit : z.s + z.h + z.h ≤ z.m
  pub cols_fit : z.w ≤ z.n

abbrev pub all-rows : Shape → List ℕ
all-rows z = first_rows z ++ octet_rows z

pub less? : (y k : ℕ) → (y < k) ⊎ (k ≤ y)
less? y k = go (ltb y k) refl
  where
    go : (p : Bool) → ltb y k ≡ p → (y < k) ⊎ (k ≤ y)
    go true e = inl (ltb-true y k e)
    go false e = inr (ltb-false y k e)

module _ (z : Shape) (fits : z.w ≤ z.n) where
  pub cols-occ : (q : ℕ) → (q < z.n → occ q (range 0 z.w) + occ q (range z.w (z.n - z.w)) ≡ 1)
      × (z.n ≤ q → occ q (range 0 z.w) + occ q (range z.w (z.n - z.w)) ≡ 0)
  cols-occ q =
      (λ l. low l (less? q z.w), λ l. omega (arith, (occ-range 0 z.w q).after (omega arith), (occ-range z.w (z.n - z.w) q).after (omega arith)))
    where
      low : q < z.n → (q < z.w) ⊎ (z.w ≤ q) → occ q (range 0 z.w) + occ q (range z.w (z.n - z.w)) ≡ 1
      low l (inl h) = omega (arith, (occ-range 0 z.w q).inside (omega arith) (omega arith), (occ-range z.w (z.n - z.w) q).before h)
      low l (inr h) = omega (arith, (occ-range 0 z.w q).after (omega arith), (occ-range z.w (z.n - z.w) q).inside h (omega arith))

  pub cols_once : (q : ℕ) → occ q (range 0 z.w) + occ q (range z.w (z.n - z.w)) ≤ 1
  cols_once q = go (less? q z.n)
    where
      go : (q < z.n) ⊎ (z.n ≤ q) → occ q (range 0 z.w) + occ q (range z.w (z.n - z.w)) ≤ 1
      go (inl l) = omega (arith, (cols-occ q).0 l)
      go (inr l) = omega (arith, (cols-occ q).1 l)

  pub cols-below : (q : ℕ) → 0 < occ q (range 0 z.w) + occ q (range z.w (z.n - z.w)) → q < z.n
  cols-below q k = go (less? q z.n)
    where
      go : (q < z.n) ⊎ (z.n ≤ q) → q < z.n
      go (inl l) = l
      go (inr l) = absurd (omega (arith, (cols-occ q).1 l))
