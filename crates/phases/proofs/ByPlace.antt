-- What the definition says by place, and what the laws say by step, are the same.
--   kept_append       the operations kept of a joined list
--   reversed_is       phase three undoes additions, the last one first
-- Assumes nothing.
use Rattle.std.specs.Prelude.{◌≡◌, refl, Bool, true, false, List, [], ◌∷◌, ◌++◌, ℕ, zero, suc, ◌+◌, ◌≤◌}
use Rattle.std.proofs.Common.{sym, ap, subst, arith}
use Rattle.oplist.specs.declared.Op.{Op}
use Rattle.oplist.specs.declared.Op.TheVariants.{AddAssign, MulAssign, FMA}
use Rattle.oplist.specs.Ops.{dest, Each}
use Rattle.algebra.specs.Rows.{undo}
use Rattle.phases.specs.One.{Step, entry, clears, ops_one, rows_of, pivots_of}
use Rattle.phases.specs.Rest.{has, keep_op, kept, last-first}
use Rattle.phases.specs.Occ.{tick_eq, Member}
use Rattle.phases.specs.Finish.{has-true}

-- phase three
abbrev Adds : Op → Type 0
Adds (AddAssign d s) = Unit {0}
Adds (MulAssign d c) = ⊥
Adds (FMA d s c) = ⊥

undo-adds : (os : List Op) → Each Adds os → undo os ≡ last-first os
undo-adds [] e = refl
undo-adds (AddAssign d s ∷ os) e = ap (λ (l : List Op). l ++ (AddAssign d s ∷ [])) (undo-adds os e.1)
undo-adds (MulAssign d c ∷ os) e = absurd e.0
undo-adds (FMA d s c ∷ os) e = absurd e.0

-- additions to the rows of xs, where these are binary
module _ (xs : List ℕ) where
  pub kept_append : (os ps : List Op) → kept xs (os ++ ps) ≡ kept xs os ++ kept xs ps
  kept_append [] ps = refl
  kept_append (o ∷ os) ps = go (has (dest o) xs) (kept_append os ps)
    where
      go : (b : Bool) → kept xs (os ++ ps) ≡ kept xs os ++ kept xs ps → keep_op b o (kept xs (os ++ ps)) ≡ keep_op b o (kept xs os) ++ kept xs ps
      go true e = ap (λ (l : List Op). o ∷ l) e
      go false e = e

  adds-append : (os ps : List Op) → Each Adds os → Each Adds ps → Each Adds (os ++ ps)
  adds-append [] ps e f = f
  adds-append (o ∷ os) ps e f = (e.0, adds-append os ps e.1 f)

  clears-adds : (s : ℕ → ℕ) (x : ℕ) (ys : List ℕ) → ((y : ℕ) → Member xs y → s y ≤ 1) → Each Adds (kept xs (clears s x ys))
  clears-adds s x [] b = tt
  clears-adds s x (y ∷ ys) b = go (s y) refl (clears-adds s x ys b)
    where
      go : (c : ℕ) → s y ≡ c → Each Adds (kept xs (clears s x ys)) → Each Adds (kept xs (entry c y x (clears s x ys)))
      go zero e r = r
      go (suc zero) e r = keep (has y xs)
        where
          keep : (t : Bool) → Each Adds (keep_op t (AddAssign y x) (kept xs (clears s x ys)))
          keep true = (tt, r)
          keep false = r
      go (suc (suc c)) e r = drop_it (has y xs) refl
        where
          drop_it : (t : Bool) → has y xs ≡ t → Each Adds (keep_op t (FMA y x (suc (suc c))) (kept xs (clears s x ys)))
          drop_it true f = absurd (omega (arith, b y (has-true y xs f)))
          drop_it false f = r

  ops_adds : (A : ℕ → ℕ → ℕ) (ts : List Step) → ((y q : ℕ) → Member xs y → Member (pivots_of ts) q → A y q ≤ 1) → Each Adds (kept xs (ops_one A ts))
  ops_adds A [] b = tt
  ops_adds A (t ∷ ts) b =
      subst (Each Adds) (sym (kept_append (clears (λ y. A y t.pivot) t.row t.under) (ops_one A ts)))
      (adds-append (kept xs (clears (λ y. A y t.pivot) t.row t.under)) (kept xs (ops_one A ts))
      (clears-adds (λ y. A y t.pivot) t.row t.under (λ y i. b y t.pivot i (omega (arith, tick_eq t.pivot t.pivot refl))))
      (ops_adds A ts (λ y q i j. b y q i (omega arith))))

pub reversed_is : (A : ℕ → ℕ → ℕ) (ts : List Step) → ((y q : ℕ) → Member (rows_of ts) y → Member (pivots_of ts) q → A y q ≤ 1)
    → last-first (kept (rows_of ts) (ops_one A ts)) ≡ undo (kept (rows_of ts) (ops_one A ts))
reversed_is A ts b = sym (undo-adds (kept (rows_of ts) (ops_one A ts)) (ops_adds (rows_of ts) A ts b))
