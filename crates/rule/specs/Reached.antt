-- Every choice of phase one, from the start on, is one that RFC 6330 permits.
--   Reached        the states of phase one
--   GoodState   what is known in each of them
-- Assumes nothing.
use Rattle.std.specs.Prelude.{◌≡◌, Bool, ℕ}
use Rattle.std.proofs.Math.Option.{some}
use Rattle.rule.specs.Rule.{State, chosen, after, arrange}
use Rattle.rule.specs.Chosen.{Good}

abbrev pub GoodState : (ℕ → ℕ → Bool) → State → Type 0
GoodState row s = Good row s.cols s.elig s.singles s.marks

-- the states of phase one
pub data Reached (row : ℕ → ℕ → Bool) (deg : ℕ → ℕ) (first : State) : State → Type 0 where
  begun : Reached row deg first first
  stepped : {s : State} → Reached row deg first s → (x : ℕ) → chosen row deg s ≡ some x
      → Reached row deg first (after row s x (arrange row s.cols x).pivot (arrange row s.cols x).gone (arrange row s.cols x).rest)
