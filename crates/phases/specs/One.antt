-- Phase one (RFC 6330, 5.4.2.2), over the matrix A as it was given. V never changes, so the choices and the list are functions of A.
--   Step             a row chosen, its column, and what then is left
--   rows_of, pivots_of   the rows of steps, and their columns
--   Phase            phase one so far: d is the steps' rows, the eligible rows and the octet rows; c is the steps' columns, V and the inactive columns
--   one              row x has a one in column q
--   degree           the original degree of a row: its ones in V before the first step
--   begin, step      before the first step; one step, or nothing where no row can be chosen
--   taken            row x is chosen: the step is added, its column leaves V, and the columns of its other ones in V become the first of the inactive ones
--   taking           the same for a choice, and nothing where there is none
--   phase_after k, phase_one   after k steps, and at its end
--   entry, clears    the operations that clear a column with a row: in one row none for 0, AddAssign for 1, else FMA; and in rows, from the top
--   ops_one          phase one's list
-- Assumes nothing.
use Rattle.std.specs.Prelude.{Bool, List, [], ◌∷◌, ◌++◌, ℕ, zero, suc, ◌-◌, eqb}
use Rattle.std.proofs.Math.Option.{Option, some, none}
use Rattle.loops.specs.Loop.{for_to}
use Rattle.oplist.specs.declared.Op.{Op}
use Rattle.oplist.specs.declared.Op.TheVariants.{AddAssign, FMA}
use Rattle.rule.specs.Permitted.{count}
use Rattle.rule.specs.Rule.{State, start, chosen, after, Cut, arrange, without}
use Rattle.phases.specs.System.{Shape, range, first_rows, octet_rows}

-- the row chosen, its column, the rows then below it (octet rows last), and the columns then in V
pub record Step : Type 0 where
  pub row : ℕ
  pub pivot : ℕ
  pub under : List ℕ
  pub left : List ℕ

abbrev pub rows_of : List Step → List ℕ
rows_of [] = []
rows_of (t ∷ ts) = t.row ∷ rows_of ts

abbrev pub pivots_of : List Step → List ℕ
pivots_of [] = []
pivots_of (t ∷ ts) = t.pivot ∷ pivots_of ts

-- the steps so far, the rule's state (V, the eligible rows, what ties are broken by), and the inactive columns by place
pub record Phase : Type 0 where
  pub steps : List Step
  pub now : State
  pub out : List ℕ

module _ (A : ℕ → ℕ → ℕ) where
  -- row x has a one in column q
  abbrev pub one : ℕ → ℕ → Bool
  one x q = eqb (A x q) 1

  module _ (z : Shape) where
    -- the original degree: a row's ones in the first V, before the first step
    abbrev pub degree : ℕ → ℕ
    degree x = count one (range 0 z.w) x

    abbrev pub begin : Phase
    begin = record { steps = []; now = start one (range 0 z.w) (first_rows z) z.w; out = range z.w (z.n - z.w) }

    -- row x is chosen: it comes first; its pivot leaves V, and its other columns in V become the first of the inactive ones
    abbrev pub taken : Phase → ℕ → Phase
    taken p x =
        let k : Cut = arrange one p.now.cols x in
        record {
          steps = p.steps ++ (record { row = x; pivot = k.pivot; under = without x p.now.elig ++ octet_rows z; left = k.rest } ∷ []);
          now = after one p.now x k.pivot k.gone k.rest;
          out = k.gone ++ p.out;
        }

    abbrev pub taking : Phase → Option ℕ → Phase
    taking p none = p
    taking p (some x) = taken p x

    abbrev pub step : Phase → Phase
    step p = taking p (chosen one degree p.now)

    abbrev pub phase_after : ℕ → Phase
    phase_after k = for_to 0 k (λ _. step) begin

    -- each step takes a column out of V, so n steps are enough
    abbrev pub phase_one : Phase
    phase_one = phase_after z.n

-- c times row x is added to row y: nothing for 0, AddAssign for 1, FMA otherwise
abbrev pub entry : ℕ → ℕ → ℕ → List Op → List Op
entry zero y x os = os
entry (suc zero) y x os = AddAssign y x ∷ os
entry (suc (suc c)) y x os = FMA y x (suc (suc c)) ∷ os

-- row x is added to each of the rows, from the top, as often as s says
abbrev pub clears : (ℕ → ℕ) → ℕ → List ℕ → List Op
clears s x [] = []
clears s x (y ∷ ys) = entry (s y) y x (clears s x ys)

-- each chosen row is added to the rows below it with a nonzero at its column: eligible rows by place, then octet rows, which take a multiple
abbrev pub ops_one : (ℕ → ℕ → ℕ) → List Step → List Op
ops_one A [] = []
ops_one A (t ∷ ts) = clears (λ y. A y t.pivot) t.row t.under ++ ops_one A ts
