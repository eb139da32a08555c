-- The definition's phase two is an elimination: each column gets the first row with a nonzero, or ends it.
--   works_snoc, ops_two-snoc   one column more
--   clears_alike    clearing depends only on the multiples of the rows that it clears
--   Stage           phase two after some columns
--   Ended           how it ends: all columns, or stuck at one that has no nonzero left
-- Assumes nothing.
use Rattle.std.specs.Prelude.{◌≡◌, refl, List, [], ◌∷◌, ◌++◌, take}
use Rattle.std.proofs.Common.{sym, ap, ap₂, ◌∙◌, append_assoc, append-nil}
use Rattle.std.proofs.Math.Path.{subst}
use Prim.Native.Nat.{ℕ, ◌+◌, ◌-◌, ◌<◌}
use native.Mathlib.Omega.{arith}
use Rattle.std.proofs.Math.ListN.{length}
use Rattle.loops.specs.Out.{Out}
use Rattle.loops.specs.Way.{Way, go, halt}
use Rattle.oplist.specs.declared.Op.{Op}
use Rattle.algebra.specs.Rows.{runs}
use Rattle.phases.specs.One.{Step, entry, clears, pivots_of}
use Rattle.phases.specs.Two.{at, Second}
use Rattle.phases.specs.Occ.{tick_eq, Member}
use Rattle.phases.specs.Sweep.{last-rows}
use Rattle.phases.specs.Gauss.{Works, Pivot, ops_at, ops_two}
use Rattle.phases.specs.Matrix.{runs_append, Full, Shows}

-- one column more
pub ops_two-snoc : (B : ℕ → ℕ → ℕ) (us : List Step) (t : Step) → ops_two B (us ++ (t ∷ [])) ≡ ops_two B us ++ ops_at (runs (ops_two B us) B) t
ops_two-snoc B [] t = append-nil (ops_at B t)
ops_two-snoc B (s ∷ us) t =
    ap (λ (l : List Op). ops_at B s ++ l) (ops_two-snoc (runs (ops_at B s) B) us t)
    ∙ sym (append_assoc (ops_at B s) (ops_two (runs (ops_at B s) B) us) (ops_at (runs (ops_two (runs (ops_at B s) B) us) (runs (ops_at B s) B)) t))
    ∙ ap (λ (M : ℕ → ℕ → ℕ). ops_two B (s ∷ us) ++ ops_at M t) (sym (runs_append (ops_at B s) (ops_two (runs (ops_at B s) B) us) B))

pub works_snoc : (B : ℕ → ℕ → ℕ) (us : List Step) (rows : List ℕ) (t : Step) → Works B us rows → Pivot (runs (ops_two B us) B) t (last-rows us rows)
    → Works B (us ++ (t ∷ [])) rows
works_snoc B [] rows t w p = (p, tt)
works_snoc B (s ∷ us) rows t w p = (
  w.0,
  works_snoc (runs (ops_at B s) B) us s.under t w.1
      (subst (λ (M : ℕ → ℕ → ℕ). Pivot M t (last-rows us s.under)) (runs_append (ops_at B s) (ops_two (runs (ops_at B s) B) us) B) p),
)

pub clears_alike : (s s' : ℕ → ℕ) (x : ℕ) (ys : List ℕ) → ((y : ℕ) → Member ys y → s y ≡ s' y) → clears s x ys ≡ clears s' x ys
clears_alike s s' x [] h = refl
clears_alike s s' x (y ∷ ys) h =
    ap₂ (λ (c : ℕ) (l : List Op). entry c y x l) (h y (omega (arith, tick_eq y y refl))) (clears_alike s s' x ys (λ w k. h w (omega arith)))

module _ (m : ℕ) (B : ℕ → ℕ → ℕ) (cols rows : List ℕ) where
  -- after k columns
  pub record Stage (k : ℕ) (f : Out Op Second) : Type 0 where
    pub works : Works B f.st.steps rows
    pub ops : f.ops ≡ ops_two B f.st.steps
    pub left : f.st.left ≡ last-rows f.st.steps rows
    pub reached : pivots_of f.st.steps ≡ take k cols
    pub full : Full m (length cols) f.st.mat
    pub shows : Shows m (length cols) f.st.mat (runs (ops_two B f.st.steps) B) cols

  -- all k columns, or stuck at one of them
  abbrev pub Ended : ℕ → Way (Out Op Second) → Type 0
  Ended k (go f) = Stage k f
  Ended k (halt j f) = Stage j f × (j < k) × ((y : ℕ) → Member f.st.left y → at f.st.mat y j ≡ 0)
