-- What the defined run means, plain and wide: Solved reduces the matrix, Singular shows a vector that is sent to zeros, NoPivot leaves no nonzero in V.
--   columns_two, turns_two   phase two's columns by place, and how its first part ends
--   Nulled       a vector that the whole matrix sends to zeros, with a 1 at the column without pivot and zeros at the later columns of phase two
--   Blank        columns are left in V, and no eligible row has a nonzero there, as it was given and after the list
--   Says         what each end of a run says
-- Assumes nothing.
use Rattle.std.specs.Prelude.{◌≡◌, ◌≢◌, List, [], ◌++◌, ℕ, ◌+◌, ◌<◌, length, get_or}
use Rattle.loops.specs.Out.{Out}
use Rattle.loops.specs.Way.{Way, halt}
use Rattle.octet.specs.Field.{Octets}
use Rattle.oplist.specs.declared.Op.{Op}
use Rattle.algebra.specs.Rows.{runs}
use Rattle.algebra.specs.Solve.{Reduces, Makes}
use Rattle.phases.specs.System.{Shape, octet_rows}
use Rattle.phases.specs.One.{Step, Phase, phase_one, ops_one}
use Rattle.phases.specs.Two.{acts, working, Second, forward}
use Rattle.phases.specs.Run.{Run, End, solved, no_pivot, singular, whole}
use Rattle.phases.specs.Occ.{Member}
use Rattle.phases.specs.Fit.{Fit}
use Rattle.phases.specs.Gauss.{ops_two}
use Rattle.phases.specs.Kernel as Ker
use Rattle.phases.specs.Forward.{Stage}

module _ (z : Shape) (A : ℕ → ℕ → ℕ) where
  -- the columns left in V and the inactive ones
  abbrev pub columns_two : List ℕ
  columns_two = (phase_one A z).now.cols ++ (phase_one A z).out

  -- the rows that were not chosen, the octet rows last, over these columns
  abbrev pub turns_two : Way (Out Op Second)
  turns_two =
      forward columns_two ((phase_one A z).now.elig ++ octet_rows z) (acts (ops_one A (phase_one A z).steps) (working A z.m columns_two))

  -- the whole matrix sends x to zeros; phase two finds no pivot at the place `stop`, where x is 1, and x is 0 at the later places
  pub record Nulled (x : ℕ → ℕ) : Type 0 where
    pub sent : Makes z.m z.n A x (λ _. 0)
    pub octets : Octets x
    pub stop : ℕ
    pub stops : (f : Out Op Second) × (turns_two ≡ halt stop f)
    pub inside : get_or columns_two stop 0 < z.n
    pub one : x (get_or columns_two stop 0) ≡ 1
    pub later : (i : ℕ) → stop < i → i < length columns_two → x (get_or columns_two i 0) ≡ 0

  -- columns are left in V, where no eligible row has a nonzero, as it was given and as it stands after the list
  pub record Blank (os : List Op) : Type 0 where
    pub left : (phase_one A z).now.cols ≢ []
    pub zeros : (y q : ℕ) → Member (phase_one A z).now.elig y → Member (phase_one A z).now.cols q → (A y q ≡ 0) × (runs os A y q ≡ 0)

  abbrev pub Says : Run → End → Type 0
  Says r (solved order) = Reduces z.m z.n (whole r) A (λ j. get_or order j 0)
  Says r no_pivot = Blank r.one
  Says r (singular x) = Nulled (λ k. get_or x k 0)

module _ (z : Shape) (A : ℕ → ℕ → ℕ) (fit : Fit z A) where
  abbrev p : Phase
  p = phase_one A z

  abbrev ts : List Step
  ts = p.steps

  abbrev os : List Op
  os = ops_one A ts

  abbrev B : ℕ → ℕ → ℕ
  B = runs os A

  abbrev left : List ℕ
  left = p.now.elig ++ octet_rows z

  abbrev cols : List ℕ
  cols = p.now.cols ++ p.out

  module _ (k : ℕ) (f : Out Op Second) (S : Stage z.m B cols left k f) where
    abbrev us : List Step
    us = f.st.steps

    abbrev D : ℕ → ℕ → ℕ
    D = runs (ops_two B us) B
