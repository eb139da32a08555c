-- The parameters of a source block of k symbols (RFC 6330, 5.3.1, 5.3.3.3 and 5.6), what `params` answers.
--   Entry, pick  a row, or none; one of two, by a test
--   first k t    the row of t for k, an Entry
--   length_of r   L of a row;  sizes r   all its figures
--   Parameters   sizes, or that there are none;  bad_count   that there are none
--   answer e     what an entry answers;  params_of k   what k is answered
--   number a     the number of an answer;  refusal_of k   the number that k is answered with
--   entry_refusal e   the number that an entry is answered with
--   Answered     the promise of `params`
-- Assumes nothing.
use Rattle.std.specs.Prelude.{◌≡◌, Bool, true, false, List, [], ◌∷◌, ℕ, ◌+◌, ◌-◌, leb, eqb, Result, Ok, Err}
use Rattle.bounds.specs.Bounds.{most_rows}
use Rattle.params.specs.Table.{Row, table}
use Rattle.params.specs.declared.Sizes.{Sizes}
use Rattle.params.specs.declared.BadCount.{BadCount}

-- a row, or none
pub data Entry : Type 0 where
  entry : Row → Entry
  none : Entry

abbrev pub pick : {A : Type 0} → Bool → A → A → A
pick true a b = a
pick false a b = b

-- the first row whose K' is not below k (5.3.1)
unfoldable pub first : ℕ → List Row → Entry
first k [] = none
first k (r ∷ rs) = pick (leb k r.k) (entry r) (first k rs)

-- L = K' + S + H (5.3.3.3)
abbrev pub length_of : Row → ℕ
length_of r = r.k + r.s + r.h

-- the figures of a row, with L and P = L - W (5.3.3.3)
abbrev pub sizes : Row → Sizes
sizes r = record { k = r.k; j = r.j; s = r.s; h = r.h; w = r.w; l = length_of r; p = length_of r - r.w }

-- sizes, or that there are none
abbrev pub Parameters : Type 0
Parameters = Result Sizes BadCount

abbrev pub bad_count : Parameters
bad_count = Err (record {})

-- the sizes of a row whose L is within the bound
unfoldable pub answer : Entry → Parameters
answer none = bad_count
answer (entry r) = pick (leb (length_of r) most_rows) (Ok (sizes r)) bad_count

-- 0 symbols are no source block
unfoldable pub params_of : ℕ → Parameters
params_of k = pick (eqb k 0) bad_count (answer (first k table))

-- 0: found; 1: a bad count
abbrev pub number : Parameters → ℕ
number (Ok z) = 0
number (Err e) = 1

-- 1 where there is no row, or its L exceeds the bound
unfoldable pub entry_refusal : Entry → ℕ
entry_refusal none = 1
entry_refusal (entry r) = pick (leb (length_of r) most_rows) 0 1

-- 1 where k is 0, where no K' reaches it, or where L exceeds the bound; else 0
unfoldable pub refusal_of : ℕ → ℕ
refusal_of k = pick (eqb k 0) 1 (entry_refusal (first k table))

-- a is the answer for k, and has the number for k
pub record Answered (k : ℕ) (a : Parameters) : Type 0 where
  pub is : a ≡ params_of k
  pub numbered : number a ≡ refusal_of k
