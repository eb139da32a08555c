-- Phase one as elimination: what any legal sequence of steps does to the matrix. Ties do not enter here.
--   Every, every_map, every-both   a property of every step
--   last-rows, last-cols, last-rows-snoc, last-cols-snoc   the rows that are left, what is left of V; one step more
--   Entries, runs-entries          every entry is an octet, also after operations
--   Fair, Legal, legal_snoc        a step that elimination allows; a sequence of them
--   rows-kept   the rows are those chosen and those left
--   Agrees                 V never changes
--   Unit_at    each step's column becomes the unit of its row; the chosen rows are zeros in what is left of V
--   Triangle             the given matrix is a lower triangle at the steps' rows and columns
-- Assumes nothing.
use Rattle.std.specs.Prelude.{◌≡◌, refl, List, [], ◌∷◌, ◌++◌, ℕ, ◌+◌, ◌-◌, ◌<◌, ◌≤◌}
use Rattle.std.proofs.Common.{arith}
use Rattle.octet.specs.Field as L
use Rattle.octet.specs.Field.{Octet}
use Rattle.oplist.specs.declared.Op.{Op}
use Rattle.algebra.specs.Rows.{runs, column, run_octet}
use Rattle.algebra.specs.Sums.{delta}
use Rattle.phases.specs.Occ.{occ}
use Rattle.phases.specs.One.{Step, rows_of}

abbrev pub Every : (Step → Type 0) → List Step → Type 0
Every P [] = Unit {0}
Every P (t ∷ ts) = P t × Every P ts

pub every_map : (P Q : Step → Type 0) (ts : List Step) → ((t : Step) → P t → Q t) → Every P ts → Every Q ts
every_map P Q [] f e = tt
every_map P Q (t ∷ ts) f e = (f t e.0, every_map P Q ts f e.1)

pub every-both : (P Q : Step → Type 0) (ts : List Step) → Every P ts → Every Q ts → Every (λ t. P t × Q t) ts
every-both P Q [] e f = tt
every-both P Q (t ∷ ts) e f = ((e.0, f.0), every-both P Q ts e.1 f.1)

-- the rows that are left, and what is left of V
abbrev pub last-rows : List Step → List ℕ → List ℕ
last-rows [] rows = rows
last-rows (t ∷ ts) rows = last-rows ts t.under

abbrev pub last-cols : List Step → List ℕ → List ℕ
last-cols [] v = v
last-cols (t ∷ ts) v = last-cols ts t.left

pub last-rows-snoc : (ts : List Step) (rows : List ℕ) (t : Step) → last-rows (ts ++ (t ∷ [])) rows ≡ t.under
last-rows-snoc [] rows t = refl
last-rows-snoc (s ∷ ts) rows t = last-rows-snoc ts s.under t

pub last-cols-snoc : (ts : List Step) (v : List ℕ) (t : Step) → last-cols (ts ++ (t ∷ [])) v ≡ t.left
last-cols-snoc [] v t = refl
last-cols-snoc (s ∷ ts) v t = last-cols-snoc ts s.left t

-- every entry is an octet
abbrev pub Entries : (ℕ → ℕ → ℕ) → Type 0
Entries B = (r q : ℕ) → Octet (B r q)

pub runs-entries : (os : List Op) (B : ℕ → ℕ → ℕ) → Entries B → Entries (runs os B)
runs-entries os B h r q = run_octet os (column B q) (λ k. h k q) r

module _ (A : ℕ → ℕ → ℕ) where
  -- the row is one of the rows and the others go on; it has a one at its column, a column of V; the columns that stay in V are others of V, and the
  -- row has zeros there
  pub record Fair (t : Step) (rows v : List ℕ) : Type 0 where
    pub same : (y : ℕ) → occ y (t.row ∷ t.under) ≡ occ y rows
    pub some : (q : ℕ) → occ q (t.pivot ∷ t.left) ≤ occ q v
    pub one : A t.row t.pivot ≡ 1
    pub zeros : (q : ℕ) → 0 < occ q t.left → A t.row q ≡ 0

  abbrev pub Legal : List Step → List ℕ → List ℕ → Type 0
  Legal [] rows v = Unit {0}
  Legal (t ∷ ts) rows v = Fair t rows v × Legal ts t.under t.left

  -- bookkeeping
  -- the chosen rows and the rows left are the rows
  pub rows-kept : (ts : List Step) (rows v : List ℕ) → Legal ts rows v
      → (y : ℕ) → occ y (rows_of ts) + occ y (last-rows ts rows) ≡ occ y rows
  rows-kept [] rows v g y = omega arith
  rows-kept (t ∷ ts) rows v g y =
      let e : occ y (rows_of ts) + occ y (last-rows ts t.under) ≡ occ y t.under = rows-kept ts t.under t.left g.1 y in
      let f : occ y (t.row ∷ t.under) ≡ occ y rows = g.0.same y in
      omega arith

  -- one step more
  pub legal_snoc : (ts : List Step) (rows v : List ℕ) → Legal ts rows v → (t : Step) → Fair t (last-rows ts rows) (last-cols ts v) → Legal (ts ++ (t ∷ [])) rows v
  legal_snoc [] rows v g t f = (f, tt)
  legal_snoc (s ∷ ts) rows v g t f = (g.0, legal_snoc ts s.under s.left g.1 t f)

  -- on V the matrix is the original one
  abbrev pub Agrees : (ℕ → ℕ → ℕ) → List ℕ → List ℕ → Type 0
  Agrees B rows v = (y q : ℕ) → 0 < occ y rows → 0 < occ q v → B y q ≡ A y q

  -- each step's column is zero in all the rows but the step's own, which has a one
  abbrev pub Unit_at : (ℕ → ℕ → ℕ) → List ℕ → Step → Type 0
  Unit_at B rows t = (r : ℕ) → 0 < occ r rows → B r t.pivot ≡ delta r t.row

  -- the given matrix at the steps' rows and columns: ones, and zeros right of them
  abbrev pub Triangle : List Step → Type 0
  Triangle [] = Unit {0}
  Triangle (t ∷ ts) = (A t.row t.pivot ≡ 1) × Every (λ s. A t.row s.pivot ≡ 0) ts × Triangle ts
