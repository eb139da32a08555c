-- How many columns the column rule keeps in V.
--   Kept               how many columns of v are left, and how many are gone, for a row with r ones
--   arranged_lengths   a row with r ones takes its pivot and r - 1 columns
-- Assumes nothing.
use Rattle.std.specs.Prelude.{◌≡◌, List, Bool, ℕ, suc, ◌+◌, ◌-◌, ◌<◌, length}
use Rattle.std.proofs.Common.{arith}
use Rattle.rule.specs.Permitted.{count}
use Rattle.rule.specs.Rule.{Cut, arrange}
use Rattle.columns.specs.Parts.{length_rest, length_gone}

pub record Kept (v : List ℕ) (r : ℕ) (k : Cut) : Type 0 where
  pub rest : suc (length k.rest) ≡ length v - (r - 1)
  pub gone : length k.gone ≡ r - 1
  pub whole : length v ≡ suc (length k.rest + length k.gone)

pub arranged_lengths : (row : ℕ → ℕ → Bool) (v : List ℕ) (x r : ℕ) → r ≡ count row v x → 0 < r → Kept v r (arrange row v x)
arranged_lengths row v x r e h =
    let a = length_rest row v x r e h in
    let b = length_gone row v x r e h in
    record { rest = omega arith; gone = omega arith; whole = omega arith }
