-- Phases three to five.
--   On, From, Alike          operations within some rows, or from them; columns that agree in them
--   run_alike, run_off, run_none, on-undo   what such operations do
--   has-true, kept-each, kept_on, kept_run   the operations kept: in the chosen rows they do what all do
--   Zeros, Column            a column with zeros in the steps' rows; the column of one of the steps
-- Assumes nothing.
use Rattle.std.specs.Prelude.{◌≡◌, refl, Bool, true, false, ◌||◌, List, [], ◌∷◌, ℕ, ◌-◌, eqb}
use Rattle.std.proofs.Common.{sym, ap, ap₂, ◌∙◌, arith}
use Rattle.octet.specs.Field as L
use Rattle.octet.specs.Octet.{add, mul}
use Rattle.oplist.specs.Ops.{dest, Each, each_append, source}
use Rattle.oplist.specs.declared.Op.{Op}
use Rattle.oplist.specs.declared.Op.TheVariants.{AddAssign, MulAssign, FMA}
use Rattle.algebra.specs.Loops.{idle}
use Rattle.algebra.specs.Rows.{value, step, inverse, undo, run, put_other, Good}
use Rattle.algebra.specs.Sums.{pick, delta}
use Rattle.phases.specs.Occ.{tick, occ, Member}
use Rattle.phases.specs.One.{Step}
use Rattle.phases.specs.Rest.{has, kept, keep_op}
use Rattle.phases.specs.Sweep.{Every}

-- operations within some rows
abbrev pub On : List ℕ → Op → Type 0
On xs o = Member xs (dest o) × Member xs (source o)

abbrev pub From : List ℕ → Op → Type 0
From xs o = Member xs (source o)

abbrev pub Alike : List ℕ → (ℕ → ℕ) → (ℕ → ℕ) → Type 0
Alike xs v w = (r : ℕ) → Member xs r → v r ≡ w r

value_alike : (xs : List ℕ) (o : Op) (v w : ℕ → ℕ) → On xs o → Alike xs v w → value o v ≡ value o w
value_alike xs (AddAssign d s) v w b a = ap₂ (λ (x y : ℕ). add x y) (a d b.0) (a s b.1)
value_alike xs (MulAssign d c) v w b a = ap (λ (x : ℕ). mul c x) (a d b.0)
value_alike xs (FMA d s c) v w b a = ap₂ (λ (x y : ℕ). add x (mul c y)) (a d b.0) (a s b.1)

step_alike : (xs : List ℕ) (o : Op) (v w : ℕ → ℕ) → On xs o → Alike xs v w → Alike xs (step o v) (step o w)
step_alike xs o v w b a r k = at (eqb r (dest o))
  where
    at : (t : Bool) → pick t (value o v) (v r) ≡ pick t (value o w) (w r)
    at true = value_alike xs o v w b a
    at false = a r k

pub run_alike : (xs : List ℕ) (os : List Op) (v w : ℕ → ℕ) → Each (On xs) os → Alike xs v w → Alike xs (run os v) (run os w)
run_alike xs [] v w b a = a
run_alike xs (o ∷ os) v w b a = run_alike xs os (step o v) (step o w) b.1 (step_alike xs o v w b.0 a)

-- rows that are none of them stay
pub run_off : (xs : List ℕ) (os : List Op) (v : ℕ → ℕ) → Each (On xs) os → (r : ℕ) → occ r xs ≡ 0 → run os v r ≡ v r
run_off xs [] v b r z = refl
run_off xs (o ∷ os) v b r z =
    run_off xs os (step o v) b.1 r z
    ∙ put_other v (dest o) (value o v) r (λ e. (let k : occ (dest o) xs ≡ 0 = ap (λ (x : ℕ). occ x xs) (sym e) ∙ z in omega (arith, b.0.0)))

-- a column with zeros in them stays
pub run_none : (xs : List ℕ) (os : List Op) (v : ℕ → ℕ) → Each (On xs) os → Each Good os → ((r : ℕ) → Member xs r → v r ≡ 0) → run os v ≡ v
run_none xs [] v b g z = refl
run_none xs (o ∷ os) v b g z =
    ap (λ (u : ℕ → ℕ). run os u) (idle o v g.0 (z (source o) b.0.1)) ∙ run_none xs os v b.1 g.1 z

on-inverse : (xs : List ℕ) (o : Op) → On xs o → On xs (inverse o)
on-inverse xs (AddAssign d s) b = b
on-inverse xs (MulAssign d c) b = b
on-inverse xs (FMA d s c) b = b

pub on-undo : (xs : List ℕ) (os : List Op) → Each (On xs) os → Each (On xs) (undo os)
on-undo xs [] b = tt
on-undo xs (o ∷ os) b = each_append (On xs) (undo os) (inverse o ∷ []) (on-undo xs os b.1) (on-inverse xs o b.0, tt)

-- the operations kept
pub has-true : (r : ℕ) (xs : List ℕ) → has r xs ≡ true → Member xs r
has-true r [] e = absurd (let z : ◌≡◌ {A = ℕ} 1 0 = ap tick (sym e) in omega arith)
has-true r (x ∷ xs) e = at (eqb r x) refl e (λ f. has-true r xs f)
  where
    at : (b : Bool) → eqb r x ≡ b → (b || has r xs) ≡ true → (has r xs ≡ true → Member xs r) → Member (x ∷ xs) r
    at true p q f = let t : tick (eqb r x) ≡ 1 = ap tick p in omega arith
    at false p q f = omega (arith, f q)

has-false : (r : ℕ) (xs : List ℕ) → has r xs ≡ false → occ r xs ≡ 0
has-false r [] e = refl
has-false r (x ∷ xs) e = at (eqb r x) refl e (λ f. has-false r xs f)
  where
    at : (b : Bool) → eqb r x ≡ b → (b || has r xs) ≡ false → (has r xs ≡ false → occ r xs ≡ 0) → occ r (x ∷ xs) ≡ 0
    at true p q f = absurd (let z : ◌≡◌ {A = ℕ} 1 0 = ap tick q in omega arith)
    at false p q f = let t : tick (eqb r x) ≡ 0 = ap tick p in omega (arith, f q)

pub kept-each : (P : Op → Type 0) (xs : List ℕ) (os : List Op) → Each P os → Each P (kept xs os)
kept-each P xs [] e = tt
kept-each P xs (o ∷ os) e = at (has (dest o) xs) (kept-each P xs os e.1)
  where
    at : (b : Bool) → Each P (kept xs os) → Each P (keep_op b o (kept xs os))
    at true k = (e.0, k)
    at false k = k

pub kept_on : (xs : List ℕ) (os : List Op) → Each (From xs) os → Each (On xs) (kept xs os)
kept_on xs [] e = tt
kept_on xs (o ∷ os) e = at (has (dest o) xs) refl (kept_on xs os e.1)
  where
    at : (b : Bool) → has (dest o) xs ≡ b → Each (On xs) (kept xs os) → Each (On xs) (keep_op b o (kept xs os))
    at true p k = ((has-true (dest o) xs p, e.0), k)
    at false p k = k

-- in the rows kept, the operations kept do what all do
pub kept_run : (xs : List ℕ) (os : List Op) (v w : ℕ → ℕ) → Each (From xs) os → Alike xs v w → Alike xs (run os v) (run (kept xs os) w)
kept_run xs [] v w e a = a
kept_run xs (o ∷ os) v w e a =
    at (has (dest o) xs) refl (λ (x y : ℕ → ℕ) (b : Alike xs x y). kept_run xs os x y e.1 b)
  where
    at : (b : Bool) → has (dest o) xs ≡ b
        → ((x y : ℕ → ℕ) → Alike xs x y → Alike xs (run os x) (run (kept xs os) y))
        → Alike xs (run os (step o v)) (run (keep_op b o (kept xs os)) w)
    at true p rec = rec (step o v) (step o w) (step_alike xs o v w (has-true (dest o) xs p, e.0) a)
    at false p rec =
        rec (step o v) w (λ r k. put_other v (dest o) (value o v) r
        (λ q. (let z : occ r xs ≡ 0 = ap (λ (x : ℕ). occ x xs) q ∙ has-false (dest o) xs p in omega arith)) ∙ a r k)

-- phase four
abbrev pub Zeros : (ℕ → ℕ) → List Step → Type 0
Zeros w ts = Every (λ t. w t.row ≡ 0) ts

module _ (A : ℕ → ℕ → ℕ) where
  -- column q is the column of one of the steps: its row has a one, the others zeros
  abbrev pub Column : ℕ → (ℕ → ℕ) → List Step → Type 0
  Column q w ts = Every (λ t. w t.row ≡ delta t.pivot q) ts
