-- The definition's phase one: a legal sequence of steps, in which every choice is one that the rule makes, and which ends where no row can be chosen.
--   Walked            what is known of phase one after any number of steps
-- Assumes nothing.
use Rattle.std.specs.Prelude.{◌≡◌, ◌++◌, ℕ, ◌+◌, ◌-◌}
use Rattle.rule.specs.Rule.{State, start}
use Rattle.rule.specs.Reached.{Reached}
use Rattle.phases.specs.System.{Shape, range, first_rows, octet_rows}
use Rattle.phases.specs.One.{Phase, pivots_of, one, degree}
use Rattle.phases.specs.Occ.{occ, Member, Once}
use Rattle.phases.specs.Sweep.{Legal, last-rows, last-cols}
use Rattle.phases.specs.Fit.{all-rows}

module _ (z : Shape) (A : ℕ → ℕ → ℕ) where
  abbrev first : State
  first = start (one A) (range 0 z.w) (first_rows z) z.w

  pub record Walked (p : Phase) : Type 0 where
    pub legal : Legal A p.steps (all-rows z) (range 0 z.w)
    pub rows_left : last-rows p.steps (all-rows z) ≡ p.now.elig ++ octet_rows z
    pub cols-left : last-cols p.steps (range 0 z.w) ≡ p.now.cols
    pub rest_in : (y : ℕ) → Member p.now.elig y → Member (first_rows z) y
    pub columns : (q : ℕ) → occ q (pivots_of p.steps) + occ q p.now.cols + occ q p.out ≡ occ q (range 0 z.w) + occ q (range z.w (z.n - z.w))
    pub reached : Reached (one A) (degree A z) first p.now
    pub rows_once : Once p.now.elig
