-- The vector of a Singular answer: where column p has no pivot, it is 1 at p, 0 at later columns, and the rest by substitution.
--   singular      put back in the matrix's own order of columns, the vector is sent to zeros, and is not all zeros
--   never         a matrix that sends such a vector to zeros is reduced by no list
-- Assumes nothing.
use Rattle.std.specs.Prelude.{◌≡◌, List, ℕ, ◌<◌}
use Rattle.std.proofs.Common.{◌∙◌, arith}
use Rattle.octet.specs.Field.{Octets}
use Rattle.oplist.specs.declared.Op.{Op}
use Rattle.algebra.specs.Solve.{Makes, Reduces}
use Rattle.algebra.proofs.Solve.{injective}
use Rattle.algebra.specs.Order.{Arranged}
use Rattle.algebra.proofs.Order.{arranged_kernel}
use Rattle.algebra.specs.Singular.{Stuck, Substituted, sent}

pub singular : (m n p : ℕ) (os : List Op) (A W : ℕ → ℕ → ℕ) (rd rd' c c' : ℕ → ℕ) → Arranged m n os A W rd rd' c c'
    → (x y : ℕ → ℕ) → Stuck m n p W → Substituted n p W x
    → ((j : ℕ) → j < n → y (c j) ≡ x j) → Makes m n A y (λ _. 0) × (c p < n) × (y (c p) ≡ 1)
singular m n p os A W rd rd' c c' H x y K S e = (
  arranged_kernel m n os A W rd rd' c c' H x y e (sent m n p W x K S),
  H.cols.into p K.column,
  e p K.column ∙ S.one,
)

pub never : (m n : ℕ) (os : List Op) (A : ℕ → ℕ → ℕ) (order y : ℕ → ℕ) (k : ℕ) → Octets y
    → Makes m n A y (λ _. 0) → k < n → y k ≡ 1 → Reduces m n os A order → ⊥
never m n os A order y k hy h l e R =
    let z : y k ≡ 0 = injective m n os A order R y hy h k l in
    omega arith
