-- Phase two (RFC 6330, 5.4.2.3): Gaussian elimination of the rows that were not chosen, octet rows last, on the columns that are left.
-- The matrix is a list of its rows by slab row, each with those columns by place.
--   at, act, acts     an entry; one operation on the matrix, and a list of them
--   sums, made        two rows added, entry by entry; the row that an operation makes
--   working           the matrix of A's columns `cols`
--   scaled            a row is divided by its entry c: no operation where that is 1, or 0
--   column_ops        row y gets a one in column k, and the column is cleared with it in other rows, from the top
--   Second            phase two so far: the columns that got a row, the rows that have none, and the matrix as it stands
--   given, giving     the kth column gets row y; the same for a row that was found, and the end where none was
--   turn, forward     the kth column gets a row, or ends it; all columns
--   backward          the columns cleared above, the last one first
-- Assumes nothing.
use Rattle.std.specs.Prelude.{not, List, [], ◌∷◌, ◌++◌, map, ℕ, zero, suc, eqb, length, get_or, set, take, drop}
use Rattle.std.proofs.Math.Option.{Option, some, none}
use Rattle.loops.specs.Out.{Out, done}
use Rattle.loops.specs.Way.{Way, go, halt, for_way}
use Rattle.octet.specs.Octet.{add, mul, inverse}
use Rattle.oplist.specs.declared.Op.{Op}
use Rattle.oplist.specs.declared.Op.TheVariants.{AddAssign, MulAssign, FMA}
use Rattle.oplist.specs.Ops.{dest}
use Rattle.rule.specs.Lists.{filter, head}
use Rattle.rule.specs.Rule.{without}
use Rattle.phases.specs.System.{range}
use Rattle.phases.specs.One.{Step, clears}

abbrev pub at : List (List ℕ) → ℕ → ℕ → ℕ
at X y k = get_or (get_or X y []) k 0

abbrev pub sums : List ℕ → List ℕ → List ℕ
sums [] ys = []
sums (x ∷ xs) [] = []
sums (x ∷ xs) (y ∷ ys) = add x y ∷ sums xs ys

-- the row that an operation makes
abbrev pub made : Op → List (List ℕ) → List ℕ
made (AddAssign d s) X = sums (get_or X d []) (get_or X s [])
made (MulAssign d c) X = map (mul c) (get_or X d [])
made (FMA d s c) X = sums (get_or X d []) (map (mul c) (get_or X s []))

abbrev pub act : Op → List (List ℕ) → List (List ℕ)
act o X = set X (dest o) (made o X)

abbrev pub acts : List Op → List (List ℕ) → List (List ℕ)
acts [] X = X
acts (o ∷ os) X = acts os (act o X)

-- m rows
abbrev pub working : (ℕ → ℕ → ℕ) → ℕ → List ℕ → List (List ℕ)
working A m cols = map (λ x. map (A x) cols) (range 0 m)

-- row y is divided by its entry c: nothing for 1
abbrev pub scaled : ℕ → ℕ → List Op
scaled zero y = []
scaled (suc zero) y = []
scaled (suc (suc c)) y = MulAssign y (inverse (suc (suc c))) ∷ []

-- row y, with a nonzero in column k, gets a one there; then the column is cleared in the rows ys, from the top
abbrev pub column_ops : (ℕ → ℕ → ℕ) → ℕ → ℕ → List ℕ → List Op
column_ops B k y ys = scaled (B y k) y ++ clears (λ x. B x k) y ys

-- the columns that got a row, the rows that have none yet by place, and the matrix as it stands
pub record Second : Type 0 where
  pub steps : List Step
  pub left : List ℕ
  pub mat : List (List ℕ)

-- row y gets the kth column
abbrev pub given : List ℕ → ℕ → Second → ℕ → Out Op Second
given cols k s y =
    let ys : List ℕ = without y s.left in
    let os : List Op = column_ops (at s.mat) k y ys in
    record {
      st = record {
        steps = s.steps ++ (record { row = y; pivot = get_or cols k 0; under = ys; left = drop (suc k) cols } ∷ []);
        left = ys;
        mat = acts os s.mat;
      };
      ops = os;
    }

abbrev pub giving : List ℕ → ℕ → Second → Option ℕ → Way (Out Op Second)
giving cols k s none = halt k (done s)
giving cols k s (some y) = go (given cols k s y)

-- the first row with a nonzero in the column is exchanged into the first place; a column without one ends it
abbrev pub turn : List ℕ → ℕ → Second → Way (Out Op Second)
turn cols k s = giving cols k s (head (filter (λ y. not (eqb (at s.mat y k) 0)) s.left))

abbrev pub forward : List ℕ → List ℕ → List (List ℕ) → Way (Out Op Second)
forward cols rows X = for_way 0 (length cols) (turn cols) (record { steps = []; left = rows; mat = X })

-- the first k columns are cleared in the rows above their own, the last column first
abbrev pub backward : List (List ℕ) → List ℕ → ℕ → List Op
backward X rows zero = []
backward X rows (suc k) = clears (λ y. at X y k) (get_or rows k 0) (take k rows) ++ backward X rows k
