-- The checks on a list and an order. m is the number of slab rows, l that of columns.
--   shape_fine    at least one column, no more columns than rows, rows and operations within the bounds
--   two_rows      two rows below m, not the same
--   op_fine       rows of an operation that are below m, and dest not src in AddAssign and FMA
--   word_fine     the same of a word, which is of a known kind
--   list_fine     the same of every word of a list
--   has          an entry is in an order
--   rows_fine     entries below m, none twice
--   order_fine    l entries below m, none twice, where there is an order; a list without one passes
--   undoable     no MulAssign by zero
--   op_undoable   the same of one operation
--   word_undoable the same of a word
-- What a test that passed says is in Facts.
-- Assumes nothing.
use Rattle.std.specs.Prelude.{ℕ, Bool, true, false, not, ◌&&◌, ◌||◌, List, [], ◌∷◌, leb, ltb, eqb, length, Option, Some, None}
use Rattle.bounds.specs.Bounds.{most_rows, most_ops}
use Rattle.oplist.specs.declared.Op.{Op}
use Rattle.oplist.specs.declared.Op.TheVariants.{AddAssign, MulAssign, FMA}
use Rattle.oplist.specs.Word.{meaning}

-- n operations on m rows, for l columns
unfoldable pub shape_fine : ℕ → ℕ → ℕ → Bool
shape_fine m l n = leb 1 l && (leb l m && (leb m most_rows && leb n most_ops))

-- two rows below m, not the same
abbrev pub two_rows : ℕ → ℕ → ℕ → Bool
two_rows m d s = ltb d m && (ltb s m && not (eqb d s))

unfoldable pub op_fine : ℕ → Op → Bool
op_fine m (AddAssign d s) = two_rows m d s
op_fine m (MulAssign d x) = ltb d m
op_fine m (FMA d s x) = two_rows m d s

abbrev pub word_fine : ℕ → Option Op → Bool
word_fine m (Some o) = op_fine m o
word_fine m None = false

unfoldable pub list_fine : ℕ → List ℕ → Bool
list_fine m [] = true
list_fine m (w ∷ ws) = word_fine m (meaning w) && list_fine m ws

unfoldable pub has : ℕ → List ℕ → Bool
has x [] = false
has x (y ∷ ys) = eqb y x || has x ys

unfoldable pub rows_fine : ℕ → List ℕ → Bool
rows_fine m [] = true
rows_fine m (x ∷ xs) = ltb x m && (not (has x xs) && rows_fine m xs)

-- the flag says whether there is an order
unfoldable pub order_fine : ℕ → ℕ → Bool → List ℕ → Bool
order_fine m l true xs = eqb (length xs) l && rows_fine m xs
order_fine m l false xs = true

abbrev pub op_undoable : Op → Bool
op_undoable (AddAssign d s) = true
op_undoable (MulAssign d x) = not (eqb x 0)
op_undoable (FMA d s x) = true

abbrev pub word_undoable : Option Op → Bool
word_undoable (Some o) = op_undoable o
word_undoable None = true

unfoldable pub undoable : List Op → Bool
undoable [] = true
undoable (o ∷ os) = op_undoable o && undoable os
