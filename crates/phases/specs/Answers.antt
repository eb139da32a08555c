-- What an answer means to a caller.
--   Decided             an end with an order or with a vector
--   wide_decides        a wide run is never without a pivot
--   blind               the answer has nothing of the symbols
-- Assumes nothing.
use Rattle.std.specs.Prelude.{◌≡◌, refl, Bool, true, cond, List, [], ◌∷◌, ◌++◌, ℕ, ◌+◌}
use Rattle.loops.specs.Out.{Out}
use Rattle.loops.specs.Way.{Way, go, halt}
use Rattle.oplist.specs.declared.Op.{Op}
use Rattle.algebra.specs.Rows.{run}
use Rattle.phases.specs.System.{Shape, octet_rows}
use Rattle.phases.specs.One.{Step, Phase, phase_one, ops_one}
use Rattle.phases.specs.Two.{Second, acts, working, forward}
use Rattle.phases.specs.Run.{End, solved, no_pivot, singular, finish, second, refused, goes_on, defined, Answer, answer}

-- a wide run ends with an order or with a vector
abbrev pub Decided : End → Type 0
Decided (solved order) = Unit {0}
Decided no_pivot = ⊥
Decided (singular x) = Unit {0}

pub wide_decides : (z : Shape) (A : ℕ → ℕ → ℕ) → Decided (defined z A true).end
wide_decides z A = at-cols (phase_one A z).now.cols
  where
    at_way : (ts : List Step) (os : List Op) (cols : List ℕ) (w : Way (Out Op Second)) → Decided (finish z A ts os cols w).end
    at_way ts os cols (go f) = tt
    at_way ts os cols (halt j f) = tt

    p : Phase
    p = phase_one A z

    after_one : Decided (second z A (phase_one A z)).end
    after_one = at_way p.steps (ops_one A p.steps) (p.now.cols ++ p.out)
        (forward (p.now.cols ++ p.out) (p.now.elig ++ octet_rows z) (acts (ops_one A p.steps) (working A z.m (p.now.cols ++ p.out))))

    at-cols : (l : List ℕ) → Decided (cond (goes_on z A true l) (second z A (phase_one A z)) (refused z A (phase_one A z))).end
    at-cols [] = after_one
    at-cols (q ∷ qs) = after_one

-- a call with a slab: its answer, and the finished slab column
abbrev called : ℕ → Bool → Shape → (ℕ → ℕ → ℕ) → (ℕ → ℕ) → Answer × (ℕ → ℕ)
called room wide z A D = (answer room (defined z A wide), run (answer room (defined z A wide)).list D)

-- number, list, order, counts and vector are the same for any two slabs
pub blind : (room : ℕ) (wide : Bool) (z : Shape) (A : ℕ → ℕ → ℕ) (D D' : ℕ → ℕ) → (called room wide z A D).0 ≡ (called room wide z A D').0
blind room wide z A D D' = refl
