-- The shape of the matrix after each phase, in RFC 6330's form, also where phase one ended early. Columns are named by the steps that took them:
-- ts are phase one's steps and us phase two's.
--   First    5.4.2.2: I is the identity with zeros below, the chosen rows are zeros in what is left of V, and V is as it was given
--   Reduced  5.4.2.3: the lower rows are the identity on phase two's columns, with zeros below
--   Sparse   5.4.2.4: the chosen rows are as they were given: sparse, and a lower triangle with ones
--   Upper    5.4.2.5: the chosen rows are zeros on phase two's columns
--   Identity 5.4.2.6: every column is the unit of its row
--   Shapes   and each shape after its phase, where the run is solved: the steps are a course, so that each column is exactly one step's
-- Assumes nothing.
use Rattle.std.specs.Prelude.{◌≡◌, List, ◌++◌, ℕ, ◌+◌, ◌<◌}
use Rattle.algebra.specs.Sums.{delta}
use Rattle.algebra.specs.Rows.{runs}
use Rattle.phases.specs.System.{Shape, range}
use Rattle.phases.specs.One.{Step, rows_of}
use Rattle.phases.specs.Run.{Run}
use Rattle.phases.specs.Occ.{Member}
use Rattle.phases.specs.Fit.{all-rows}
use Rattle.phases.specs.Sweep.{Every, Triangle}
use Rattle.phases.specs.Solved.{Course}

pub record First (m : ℕ) (A B : ℕ → ℕ → ℕ) (ts : List Step) (left V' : List ℕ) : Type 0 where
  pub unit : Every (λ t. (x : ℕ) → x < m → B x t.pivot ≡ delta x t.row) ts
  pub clear : Every (λ t. (q : ℕ) → Member V' q → B t.row q ≡ 0) ts
  pub same : (x q : ℕ) → Member left x → Member V' q → B x q ≡ A x q

pub record Reduced (m : ℕ) (B : ℕ → ℕ → ℕ) (ts us : List Step) (left : List ℕ) : Type 0 where
  pub unit : Every (λ t. (x : ℕ) → x < m → B x t.pivot ≡ delta x t.row) ts
  pub lower : Every (λ u. (x : ℕ) → Member left x → B x u.pivot ≡ delta x u.row) us

pub record Sparse (A B : ℕ → ℕ → ℕ) (ts us : List Step) (left : List ℕ) : Type 0 where
  pub given : (x q : ℕ) → Member (rows_of ts) x → B x q ≡ A x q
  pub triangle : Triangle A ts
  pub lower : Every (λ u. (x : ℕ) → Member left x → B x u.pivot ≡ delta x u.row) us

pub record Upper (A B : ℕ → ℕ → ℕ) (ts us : List Step) : Type 0 where
  pub clear : Every (λ u. (x : ℕ) → Member (rows_of ts) x → B x u.pivot ≡ 0) us
  pub given : Every (λ t. (x : ℕ) → Member (rows_of ts) x → B x t.pivot ≡ A x t.pivot) ts

abbrev pub Identity : ℕ → (ℕ → ℕ → ℕ) → List Step → Type 0
Identity m B ts = Every (λ t. (x : ℕ) → x < m → B x t.pivot ≡ delta x t.row) ts

-- the shapes of a run whose phases two to five were done, by steps that give every column a row: phase one's and phase two's
pub record Shapes (z : Shape) (A : ℕ → ℕ → ℕ) (ts us : List Step) (left : List ℕ) (r : Run) : Type 0 where
  pub course : Course z.m z.n A (all-rows z) (range 0 z.w) ts us
  pub two : Reduced z.m (runs (r.one ++ r.two) A) ts us left
  pub three : Sparse A (runs (r.one ++ r.two ++ r.three) A) ts us left
  pub four : Upper A (runs (r.one ++ r.two ++ r.three ++ r.four) A) ts us
  pub five : Identity z.m (runs (r.one ++ r.two ++ r.three ++ r.four ++ r.five) A) (ts ++ us)
