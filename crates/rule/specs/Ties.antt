-- The smallest systems that tell the rule from what looks like it, computed: for each step the row, its column, and the columns that leave V with it.
--   choices            the steps of phase one, for a matrix given by its rows
--   Ties         what they are
-- Assumes nothing.
use Rattle.std.specs.Prelude.{◌≡◌, Bool, List, [], ◌∷◌, ◌++◌, ℕ, zero, suc, eqb, length, get_or}
use Rattle.std.proofs.Math.Option.{some, none}
use Rattle.rule.specs.Permitted.{count}
use Rattle.rule.specs.Rule.{State, start, chosen, after, Cut, arrange}

abbrev below : ℕ → List ℕ
below zero = []
below (suc n) = below n ++ (n ∷ [])

abbrev has_one : List (List ℕ) → ℕ → ℕ → Bool
has_one X x q = eqb (get_or (get_or X x []) q 0) 1

abbrev steps : ℕ → (ℕ → ℕ → Bool) → (ℕ → ℕ) → State → List (List ℕ)
steps zero row deg s = []
steps (suc k) row deg s = elim (chosen row deg s) [
  | none ↦ []
  | some x ↦ (let c : Cut = arrange row s.cols x in
      (x ∷ c.pivot ∷ c.gone) ∷ steps k row deg (after row s x c.pivot c.gone c.rest))
]

-- n columns, all of them in V
abbrev pub choices : ℕ → List (List ℕ) → List (List ℕ)
choices n X = steps n (has_one X) (count (has_one X) (below n)) (start (has_one X) (below n) (below (length X)) n)

pub record Ties : Type 0 where
  -- r = 1: after row 0 the last single row took its place, so row 3 goes before row 2
  pub singles : choices 3 ((0 ∷ 1 ∷ 0 ∷ []) ∷ (0 ∷ 1 ∷ 0 ∷ []) ∷ (0 ∷ 0 ∷ 1 ∷ []) ∷ (0 ∷ 0 ∷ 1 ∷ []) ∷ []) ≡ (0 ∷ 1 ∷ []) ∷ (3 ∷ 2 ∷ []) ∷ []
  -- a step with r > 1 refreshes the rows with a one at the pivot: row 2 goes to the end of the single rows
  pub refreshed : choices 3 ((0 ∷ 1 ∷ 1 ∷ []) ∷ (1 ∷ 0 ∷ 1 ∷ []) ∷ (1 ∷ 1 ∷ 0 ∷ []) ∷ (0 ∷ 1 ∷ 1 ∷ []) ∷ []) ≡ (1 ∷ 0 ∷ 2 ∷ []) ∷ (3 ∷ 1 ∷ []) ∷ []
  -- a step with r > 2 puts the chosen row among the single rows and takes it out again, which moves the last one
  pub pushed : choices 4 ((1 ∷ 0 ∷ 1 ∷ 1 ∷ []) ∷ (1 ∷ 1 ∷ 1 ∷ 0 ∷ []) ∷ (0 ∷ 1 ∷ 1 ∷ 1 ∷ []) ∷ (1 ∷ 1 ∷ 1 ∷ 0 ∷ []) ∷ []) ≡ (0 ∷ 0 ∷ 2 ∷ 3 ∷ []) ∷ (1 ∷ 1 ∷ []) ∷ []
  -- r = 2: of two components of one size, the one that was labelled first, not the leftmost
  pub component : choices 5 ((1 ∷ 0 ∷ 1 ∷ 0 ∷ 0 ∷ []) ∷ (0 ∷ 1 ∷ 0 ∷ 1 ∷ 0 ∷ []) ∷ (0 ∷ 1 ∷ 1 ∷ 1 ∷ 0 ∷ []) ∷ (0 ∷ 1 ∷ 0 ∷ 1 ∷ 0 ∷ []) ∷ (0 ∷ 0 ∷ 0 ∷ 0 ∷ 1 ∷ []) ∷ [])
      ≡ (4 ∷ 4 ∷ []) ∷ (0 ∷ 2 ∷ 0 ∷ []) ∷ (2 ∷ 1 ∷ 3 ∷ []) ∷ []
  -- r > 2: the lowest place, which is not the lowest row: row 0 was exchanged with row 2
  pub place : choices 4 ((1 ∷ 0 ∷ 1 ∷ 1 ∷ []) ∷ (1 ∷ 0 ∷ 1 ∷ 1 ∷ []) ∷ (0 ∷ 1 ∷ 0 ∷ 0 ∷ []) ∷ (1 ∷ 0 ∷ 1 ∷ 1 ∷ []) ∷ []) ≡ (2 ∷ 1 ∷ []) ∷ (1 ∷ 0 ∷ 2 ∷ 3 ∷ []) ∷ []
  -- the columns: a one of the middle is exchanged with the rightmost zero
  pub zero : choices 5 ((1 ∷ 1 ∷ 1 ∷ 0 ∷ 0 ∷ []) ∷ (1 ∷ 1 ∷ 0 ∷ 0 ∷ 1 ∷ []) ∷ (0 ∷ 0 ∷ 1 ∷ 1 ∷ 1 ∷ []) ∷ (1 ∷ 0 ∷ 1 ∷ 1 ∷ 0 ∷ []) ∷ (1 ∷ 0 ∷ 1 ∷ 1 ∷ 0 ∷ [])
      ∷ (1 ∷ 0 ∷ 1 ∷ 1 ∷ 1 ∷ []) ∷ []) ≡ (0 ∷ 0 ∷ 2 ∷ 1 ∷ []) ∷ (3 ∷ 3 ∷ []) ∷ (2 ∷ 4 ∷ []) ∷ []
