-- The defined run: for every system the five lists and how it ends; and the answer to a call with room for a list.
--   End, Run, whole   how a run ends, its lists by phase, and its list
--   solved, no_pivot, singular   the ends: all phases done, with the order; no pivot in phase one; a column without pivot in phase two, with the vector
--   second, finish    the run that goes on to phase two: from the end of phase one, and from how the first part of phase two ends
--   refused           the run that ends without a pivot after phase one
--   goes_on           whether phase two comes: no column is left in V, or the run is wide
--   defined           the run of a system, plain or wide: wide goes on where phase one finds no pivot
--   counts            the additions, or the multiplications, of each phase's part
--   no_counts         a zero for each phase
--   Answer            an answer's number and values: 0 Solved, 5 ListFull, 6 NoPivot, 7 Singular
--   Solved            the answer with the list, the order and the counts
--   Refused           an answer with a number and a vector, and else nothing
--   ListFull, NoPivot, Singular   the refusals; only Singular has a vector
--   ending            the answer by how the run ends, where there is room for its list
--   answer            the answer to a call with room for so many operations: ListFull where the list is longer, else by how the run ends
-- Assumes nothing.
use Rattle.std.specs.Prelude.{Bool, true, cond, List, [], ◌∷◌, ◌++◌, ℕ, ◌+◌, ltb, length}
use Rattle.loops.specs.Out.{Out}
use Rattle.loops.specs.Way.{Way, go, halt}
use Rattle.oplist.specs.declared.Op.{Op}
use Rattle.oplist.specs.Count.{adds, muls}
use Rattle.phases.specs.System.{Shape, octet_rows}
use Rattle.phases.specs.One.{Step, Phase, rows_of, pivots_of, phase_one, ops_one}
use Rattle.phases.specs.Two.{Second, acts, working, forward, backward}
use Rattle.phases.specs.Rest.{kept, last-first, phase_four, by-column, by_substitution}

-- all phases done, with the order; no eligible row has a one in V; a column without pivot in phase two, with the vector
pub data End : Type 0 where
  solved : List ℕ → End
  no_pivot : End
  singular : List ℕ → End

-- the operations of each phase, up to the end or the refusal
pub record Run : Type 0 where
  pub one : List Op
  pub two : List Op
  pub three : List Op
  pub four : List Op
  pub five : List Op
  pub end : End

abbrev pub whole : Run → List Op
whole r = r.one ++ r.two ++ r.three ++ r.four ++ r.five

module _ (z : Shape) (A : ℕ → ℕ → ℕ) where
  -- after phase one's steps ts and list os, phase two's first part on the columns `cols` ended so
  abbrev pub finish : List Step → List Op → List ℕ → Way (Out Op Second) → Run
  finish ts os cols (go f) =
      let k : List Op = kept (rows_of ts) os in
      let us : List Step = f.st.steps in
      record {
        one = os;
        two = f.ops ++ backward f.st.mat (rows_of us) (length us);
        three = last-first k;
        four = phase_four A (rows_of ts) us;
        five = k;
        end = solved (by-column z.n (pivots_of ts ++ cols) (rows_of ts ++ rows_of us));
      }
  finish ts os cols (halt j f) = record {
    one = os;
    two = f.ops;
    three = [];
    four = [];
    five = [];
    end = singular (by-column z.n (pivots_of ts ++ cols) (by_substitution f.st.mat (rows_of ts) (rows_of f.st.steps)));
  }

  -- phase two: the rows that were not chosen, the octet rows last; the columns left in V and the inactive ones
  abbrev pub second : Phase → Run
  second p =
      let os : List Op = ops_one A p.steps in
      let cols : List ℕ = p.now.cols ++ p.out in
      finish p.steps os cols (forward cols (p.now.elig ++ octet_rows z) (acts os (working A z.m cols)))

  abbrev pub refused : Phase → Run
  refused p = record { one = ops_one A p.steps; two = []; three = []; four = []; five = []; end = no_pivot }

  -- columns left in V: no pivot, unless the run is wide
  abbrev pub goes_on : Bool → List ℕ → Bool
  goes_on wide [] = true
  goes_on wide (q ∷ qs) = wide

  abbrev pub defined : Bool → Run
  defined wide = let p : Phase = phase_one A z in cond (goes_on wide p.now.cols) (second p) (refused p)

-- AddAssign and FMA are additions; MulAssign and FMA are multiplications
abbrev pub counts : (List Op → ℕ) → Run → List ℕ
counts f r = f r.one ∷ f r.two ∷ f r.three ∷ f r.four ∷ f r.five ∷ []

-- an answer's number, and what it gives: the list, the order, the counts by phase, the vector
pub record Answer : Type 0 where
  pub number : ℕ
  pub list : List Op
  pub order : List ℕ
  pub additions : List ℕ
  pub multiplications : List ℕ
  pub vector : List ℕ

abbrev pub no_counts : List ℕ
no_counts = 0 ∷ 0 ∷ 0 ∷ 0 ∷ 0 ∷ []

abbrev pub Solved : List Op → List ℕ → List ℕ → List ℕ → Answer
Solved os order as_added as-scaled = record { number = 0; list = os; order = order; additions = as_added; multiplications = as-scaled; vector = [] }

abbrev pub Refused : ℕ → List ℕ → Answer
Refused k x = record { number = k; list = []; order = []; additions = no_counts; multiplications = no_counts; vector = x }

abbrev pub ListFull : Answer
ListFull = Refused 5 []

abbrev pub NoPivot : Answer
NoPivot = Refused 6 []

abbrev pub Singular : List ℕ → Answer
Singular x = Refused 7 x

abbrev pub ending : Run → End → Answer
ending r (solved order) = Solved (whole r) order (counts adds r) (counts muls r)
ending r no_pivot = NoPivot
ending r (singular x) = Singular x

-- ListFull comes before NoPivot and Singular: the list, up to its end or its refusal, is longer than the room
abbrev pub answer : ℕ → Run → Answer
answer room r = cond (ltb room (length (whole r))) ListFull (ending r r.end)
