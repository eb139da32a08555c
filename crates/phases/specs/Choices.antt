-- Every choice of phase one is one that RFC 6330, 5.4.2.2 permits, in the matrix as it stands then: the list so far, applied.
--   standing         the matrix after k steps
--   refused_exactly  a plain run ends with no pivot exactly when columns are left in V
-- Assumes nothing.
use Rattle.std.specs.Prelude.{◌≡◌, refl, ◌≢◌, ◌↔◌, false, cond, List, [], ◌∷◌, ◌++◌, ℕ, ◌+◌}
use Rattle.std.proofs.Common.{arith}
use Rattle.loops.specs.Out.{Out}
use Rattle.loops.specs.Way.{Way, go, halt}
use Rattle.oplist.specs.declared.Op.{Op}
use Rattle.algebra.specs.Rows.{runs}
use Rattle.phases.specs.System.{Shape, octet_rows}
use Rattle.phases.specs.One.{Step, Phase, phase_after, phase_one, ops_one}
use Rattle.phases.specs.Two.{Second, acts, working, forward}
use Rattle.phases.specs.Run.{no_pivot, finish, second, refused, goes_on, defined}

-- the matrix after k steps: phase one's list so far, applied
abbrev pub standing : Shape → (ℕ → ℕ → ℕ) → ℕ → ℕ → ℕ → ℕ
standing z A k = runs (ops_one A (phase_after A z k).steps) A

-- a plain run is refused exactly when columns are left in V
pub refused_exactly : (z : Shape) (A : ℕ → ℕ → ℕ) → ((defined z A false).end ≡ no_pivot) ↔ ((phase_one A z).now.cols ≢ [])
refused_exactly z A = (forth (phase_one A z).now.cols, back (phase_one A z).now.cols)
  where
    apart : (ts : List Step) (os : List Op) (cols : List ℕ) (w : Way (Out Op Second)) → (finish z A ts os cols w).end ≡ no_pivot → ⊥
    apart ts os cols (go f) e = let q : ◌≡◌ {A = ℕ} 0 1 = cc in omega arith
    apart ts os cols (halt j f) e = let q : ◌≡◌ {A = ℕ} 0 1 = cc in omega arith

    p : Phase
    p = phase_one A z

    goes : (second z A (phase_one A z)).end ≡ no_pivot → ⊥
    goes = apart p.steps (ops_one A p.steps) (p.now.cols ++ p.out)
        (forward (p.now.cols ++ p.out) (p.now.elig ++ octet_rows z) (acts (ops_one A p.steps) (working A z.m (p.now.cols ++ p.out))))

    forth : (l : List ℕ) → (cond (goes_on z A false l) (second z A (phase_one A z)) (refused z A (phase_one A z))).end ≡ no_pivot → l ≢ []
    forth [] e f = goes e
    forth (q ∷ l) e f = let h : ◌≡◌ {A = ℕ} 0 1 = cc in omega arith

    back : (l : List ℕ) → l ≢ [] → (cond (goes_on z A false l) (second z A (phase_one A z)) (refused z A (phase_one A z))).end ≡ no_pivot
    back [] n = absurd (n refl)
    back (q ∷ l) n = refl
