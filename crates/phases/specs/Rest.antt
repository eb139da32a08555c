-- Phases three to five (RFC 6330, 5.4.2.4 to 5.4.2.6), which need no matrix but A; the order; the vector of a Singular answer.
--   has               a number stands in a list
--   kept              phase one's additions among the chosen rows: phase five, and phase three with the last one first;
--                     they are the operations of its list that write a chosen row
--   keep_op           an operation in front of a list, or the list alone, by a truth value
--   last-first        a list of operations from its last to its first
--   gather, phase_four   each chosen row gets the rows in whose columns it has a nonzero
--   by-column         a list by place, put in the order of columns: the order of a Solved answer, and the vector of a Singular one
--   beside            what stands beside a column, in two lists by place; 0 where nothing does
--   weigh             two lists multiplied, entry by entry, and summed
--   values            the vector on phase two's columns, by place: 1 at the column without pivot, and before it what each row makes of those after it
--   by_substitution   the vector, by place: what the chosen rows make of these values, and then these values
-- Assumes nothing.
use Rattle.std.specs.Prelude.{Bool, true, false, cond, ◌||◌, List, [], ◌∷◌, ◌++◌, map, ℕ, suc, eqb, get_or, drop}
use Rattle.octet.specs.Octet.{add, mul}
use Rattle.oplist.specs.declared.Op.{Op}
use Rattle.oplist.specs.Ops.{dest}
use Rattle.phases.specs.System.{range}
use Rattle.phases.specs.One.{Step, entry}

abbrev pub has : ℕ → List ℕ → Bool
has x [] = false
has x (y ∷ ys) = eqb x y || has x ys

abbrev pub keep_op : Bool → Op → List Op → List Op
keep_op true o os = o ∷ os
keep_op false o os = os

abbrev pub kept : List ℕ → List Op → List Op
kept xs [] = []
kept xs (o ∷ os) = keep_op (has (dest o) xs) o (kept xs os)

abbrev pub last-first : List Op → List Op
last-first [] = []
last-first (o ∷ os) = last-first os ++ (o ∷ [])

-- row x gets the row of each of the steps, by place, as often as it has their column
abbrev pub gather : (ℕ → ℕ → ℕ) → ℕ → List Step → List Op
gather A x [] = []
gather A x (t ∷ ts) = entry (A x t.pivot) x t.row (gather A x ts)

abbrev pub phase_four : (ℕ → ℕ → ℕ) → List ℕ → List Step → List Op
phase_four A [] ts = []
phase_four A (x ∷ xs) ts = gather A x ts ++ phase_four A xs ts

-- what stands beside column q, and 0 where nothing does
abbrev pub beside : ℕ → List ℕ → List ℕ → ℕ
beside q [] xs = 0
beside q (c ∷ cs) [] = 0
beside q (c ∷ cs) (x ∷ xs) = cond (eqb q c) x (beside q cs xs)

-- the first n columns: entry c[p] is xs[p]
abbrev pub by-column : ℕ → List ℕ → List ℕ → List ℕ
by-column n c xs = map (λ q. beside q c xs) (range 0 n)

-- the products of two lists, entry by entry, summed
abbrev pub weigh : List ℕ → List ℕ → ℕ
weigh [] xs = 0
weigh (b ∷ bs) [] = 0
weigh (b ∷ bs) (x ∷ xs) = add (weigh bs xs) (mul b x)

-- from place p on: 1 at the column without pivot; before it each column gets what its row makes of those after it
abbrev pub values : List (List ℕ) → ℕ → List ℕ → List ℕ
values X p [] = 1 ∷ []
values X p (y ∷ ys) = let xs : List ℕ = values X (suc p) ys in weigh (drop (suc p) (get_or X y [])) xs ∷ xs

-- the chosen rows' columns get what their rows make of phase two's columns; later columns have nothing
abbrev pub by_substitution : List (List ℕ) → List ℕ → List ℕ → List ℕ
by_substitution X chosen rows = let xs : List ℕ = values X 0 rows in map (λ x. weigh (get_or X x []) xs) chosen ++ xs
