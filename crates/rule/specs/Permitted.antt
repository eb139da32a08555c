-- What RFC 6330, 5.4.2.2 permits as a choice in phase one.
-- Rows and columns are numbers, and `row x q` says whether row x has a one in column q, in the matrix as it stands. C lists V's columns, E the rows that may
-- be chosen (HDPC rows are not among them), and `deg` is the original degree: the ones that a row has in V before the first step.
--   ones, count    the columns of V where a row has a one, and how many they are
--   IsLeast        r is the least positive number of ones in V that a row of E has
--   Joined, Reach  the graph: two columns are joined by a row with exactly two ones in V, and reached along joined columns
--   IsComponent    a list is the component of a column
--   InLargest      a row has a one in a component of maximum size
--   Permitted      row x may be chosen
-- Assumes nothing.
use Rattle.std.specs.Prelude.{◌≡◌, ◌⊎◌, List, [], ◌∷◌, Bool, ℕ, ◌≤◌, ◌<◌, length}
use Rattle.rule.specs.Lists.{In, Nodup, filter}

abbrev pub ones : (ℕ → ℕ → Bool) → List ℕ → ℕ → List ℕ
ones row C x = filter (row x) C

abbrev pub count : (ℕ → ℕ → Bool) → List ℕ → ℕ → ℕ
count row C x = length (ones row C x)

-- "Let r be the minimum integer such that at least one row of A has exactly r nonzeros in V" (r positive)
pub record IsLeast (row : ℕ → ℕ → Bool) (C E : List ℕ) (r : ℕ) : Type 0 where
  pub positive : 0 < r
  pub reached : (x : ℕ) × In x E × (count row C x ≡ r)
  pub least : (x : ℕ) → In x E → 0 < count row C x → r ≤ count row C x

-- "the graph defined by V": the columns of V are the nodes, and a row with exactly two ones in V is an edge between those two columns
abbrev pub Joined : (ℕ → ℕ → Bool) → List ℕ → List ℕ → ℕ → ℕ → Type 0
Joined row C E p q = (x : ℕ) × In x E × ((ones row C x ≡ p ∷ q ∷ []) ⊎ (ones row C x ≡ q ∷ p ∷ []))

pub data Reach (row : ℕ → ℕ → Bool) (C E : List ℕ) : ℕ → ℕ → Type 0 where
  here : {p : ℕ} → Reach row C E p p
  along : {p q s : ℕ} → Joined row C E p q → Reach row C E q s → Reach row C E p s

-- "a maximal set of nodes such that there is a path between each pair": S lists, once each, the columns of V that are reached from p
pub record IsComponent (row : ℕ → ℕ → Bool) (C E : List ℕ) (p : ℕ) (S : List ℕ) : Type 0 where
  pub once : Nodup S
  pub within : (q : ℕ) → In q S → In q C × Reach row C E p q
  pub whole : (q : ℕ) → In q C → Reach row C E p q → In q S

-- "part of a maximum size component": row x has a one in a column p whose component is at least as long as any other
pub record InLargest (row : ℕ → ℕ → Bool) (C E : List ℕ) (x : ℕ) : Type 0 where
  pub p : ℕ
  pub S : List ℕ
  pub end : In p (ones row C x)
  pub component : IsComponent row C E p S
  pub largest : (p' : ℕ) (S' : List ℕ) → IsComponent row C E p' S' → length S' ≤ length S

-- "choose a row with exactly r nonzeros in V": r ≠ 2, "with minimum original degree among all such rows"; r = 2, "any row .. that is part of a maximum size
-- component"
pub record Permitted (row : ℕ → ℕ → Bool) (deg : ℕ → ℕ) (C E : List ℕ) (x : ℕ) : Type 0 where
  pub r : ℕ
  pub least : IsLeast row C E r
  pub eligible : In x E
  pub exactly : count row C x ≡ r
  pub lightest : (r ≡ 2 → ⊥) → (y : ℕ) → In y E → count row C y ≡ r → deg x ≤ deg y
  pub joined : r ≡ 2 → InLargest row C E x
