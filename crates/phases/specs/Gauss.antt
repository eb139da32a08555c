-- Phase two as elimination: forward to ones on a diagonal with zeros below, then to a unit in each column.
--   ops_at, ops_two          the operations of a step in the matrix as it stands, and of steps
--   Pivot, Works, works_kept   a step whose row has a nonzero at its column; steps one after another; the rows are theirs and those left
--   Stairs, Falls, falls   ones, and zeros below them: what the laws of proofs/Gauss.antt carry along
--   above   clearing above
-- Assumes nothing.
use Rattle.std.specs.Prelude.{◌≡◌, ◌≢◌, List, [], ◌∷◌, ◌++◌, ℕ, ◌+◌, ◌-◌, ◌<◌}
use Rattle.std.proofs.Common.{arith}
use Rattle.octet.specs.Field as L
use Rattle.oplist.specs.declared.Op.{Op}
use Rattle.algebra.specs.Rows.{runs}
use Rattle.phases.specs.Occ.{occ}
use Rattle.phases.specs.One.{Step, clears, rows_of}
use Rattle.phases.specs.Sweep.{Every, last-rows}
use Rattle.phases.specs.Two.{column_ops}

-- forward
-- the step's operations in the matrix as it stands
abbrev pub ops_at : (ℕ → ℕ → ℕ) → Step → List Op
ops_at B t = column_ops B t.pivot t.row t.under

abbrev pub ops_two : (ℕ → ℕ → ℕ) → List Step → List Op
ops_two B [] = []
ops_two B (t ∷ ts) = ops_at B t ++ ops_two (runs (ops_at B t) B) ts

pub record Pivot (B : ℕ → ℕ → ℕ) (t : Step) (rows : List ℕ) : Type 0 where
  pub same : (y : ℕ) → occ y (t.row ∷ t.under) ≡ occ y rows
  pub nonzero : B t.row t.pivot ≢ 0

abbrev pub Works : (ℕ → ℕ → ℕ) → List Step → List ℕ → Type 0
Works B [] rows = Unit {0}
Works B (t ∷ ts) rows = Pivot B t rows × Works (runs (ops_at B t) B) ts t.under

pub works_kept : (B : ℕ → ℕ → ℕ) (ts : List Step) (rows : List ℕ) → Works B ts rows
    → (y : ℕ) → occ y (rows_of ts) + occ y (last-rows ts rows) ≡ occ y rows
works_kept B [] rows g y = omega arith
works_kept B (t ∷ ts) rows g y =
    let e : occ y (rows_of ts) + occ y (last-rows ts t.under) ≡ occ y t.under = works_kept (runs (ops_at B t) B) ts t.under g.1 y in
    let f : occ y (t.row ∷ t.under) ≡ occ y rows = g.0.same y in
    omega arith

-- a one in the step's row, zeros in the rows under it
abbrev pub Stairs : (ℕ → ℕ → ℕ) → List Step → Type 0
Stairs D ts = Every (λ t. (D t.row t.pivot ≡ 1) × ((y : ℕ) → 0 < occ y t.under → D y t.pivot ≡ 0)) ts

-- above
-- a one in the step's row, zeros in the rows of later steps
abbrev pub Falls : (ℕ → ℕ → ℕ) → List Step → Type 0
Falls D [] = Unit {0}
Falls D (t ∷ ts) = (D t.row t.pivot ≡ 1) × ((y : ℕ) → 0 < occ y (rows_of ts) → D y t.pivot ≡ 0) × Falls D ts

pub falls : (D B : ℕ → ℕ → ℕ) (ts : List Step) (rows : List ℕ) → Works B ts rows → Stairs D ts → Falls D ts
falls D B [] rows g s = tt
falls D B (t ∷ ts) rows g s = (
  s.0.0,
  λ y k. s.0.1 y (omega (arith, works_kept (runs (ops_at B t) B) ts t.under g.1 y)),
  falls D (runs (ops_at B t) B) ts t.under g.1 s.1,
)

-- the columns of the steps cleared in the rows of earlier ones and in the rows `before`, the last column first
abbrev pub above : (ℕ → ℕ → ℕ) → List ℕ → List Step → List Op
above B before [] = []
above B before (t ∷ ts) = above B (before ++ (t.row ∷ [])) ts ++ clears (λ z. B z t.pivot) t.row before
