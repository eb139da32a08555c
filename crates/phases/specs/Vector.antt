-- The vector by place is the vector by step.
--   vals_of           the values of a vector
--   length_vals       they are as many as its columns
--   chain-cols_are    its columns are those of the steps, and then the one without pivot
--   beside-value      the value beside a column
-- Assumes nothing.
use Rattle.std.specs.Prelude.{◌≡◌, refl, cond, List, [], ◌∷◌, ◌++◌, ℕ, suc, ◌+◌, eqb, length}
use Rattle.std.proofs.Common.{ap}
use Rattle.phases.specs.One.{Step, pivots_of}
use Rattle.phases.specs.Rest.{beside}
use Rattle.phases.specs.Kernel.{Value, chain, value_of, cols_of}

abbrev pub vals_of : List Value → List ℕ
vals_of [] = []
vals_of (a ∷ vs) = a.val ∷ vals_of vs

pub length_vals : (vs : List Value) → length (vals_of vs) ≡ length (cols_of vs)
length_vals [] = refl
length_vals (a ∷ vs) = ap suc (length_vals vs)

pub beside-value : (k : ℕ) (vs : List Value) → beside k (cols_of vs) (vals_of vs) ≡ value_of k vs
beside-value k [] = refl
beside-value k (a ∷ vs) = ap (λ (w : ℕ). cond (eqb k a.col) a.val w) (beside-value k vs)

pub chain-cols_are : (D : ℕ → ℕ → ℕ) (us : List Step) (q : ℕ) → cols_of (chain D us q) ≡ pivots_of us ++ (q ∷ [])
chain-cols_are D [] q = refl
chain-cols_are D (u ∷ us) q = ap (λ (l : List ℕ). u.pivot ∷ l) (chain-cols_are D us q)
