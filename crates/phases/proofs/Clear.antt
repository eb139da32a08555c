-- What clearing does to a column: row x is added to each of the rows ys, as often as s says.
--   run-entry   one addition of a multiple
--   clears_miss, clears_hit       a row that is none of them stays; one of them gets its multiple
--   clears_idle                   a zero in row x changes nothing
--   clears-each, clears_good, clears_within   what holds of each of the operations
-- Assumes nothing.
use Rattle.std.specs.Prelude.{◌≡◌, refl, ◌≢◌, List, [], ◌∷◌, ℕ, zero, suc, ◌-◌, ◌<◌, eqb}
use Rattle.std.proofs.Common.{sym, ap, ap₂, ◌∙◌, arith}
use Rattle.std.proofs.Math.Path.{fun_ext}
use Rattle.octet.specs.Field as L
use Rattle.octet.specs.Field.{Octets, mul-zero}
use Rattle.octet.specs.Octet.{add, mul}
use Rattle.oplist.specs.Ops.{Each}
use Rattle.oplist.specs.declared.Op.{Op}
use Rattle.oplist.specs.declared.Op.TheVariants.{AddAssign, FMA}
use Rattle.algebra.specs.Rows.{run, put, put_same, put_other, Good, Within}
use Rattle.phases.specs.Occ.{tick, occ, tick_eq, tick_ne, Same?, yes_same, not_same, same?}
use Rattle.phases.specs.One.{entry, clears}
use Rattle.phases.specs.Clear.{bump, bump_octet}

pub run-entry : (c y x : ℕ) (os : List Op) (v : ℕ → ℕ) → Octets v → run (entry c y x os) v ≡ run os (bump c y x v)
run-entry zero y x os v h = ap (λ (u : ℕ → ℕ). run os u) (fun_ext (λ r. at r (same? r y)))
  where
    at : (r : ℕ) → Same? r y → v r ≡ bump 0 y x v r
    at r (yes_same e) =
        ap v e ∙ sym (put_same v y (add (v y) (mul 0 (v x))) r e
        ∙ ap (λ (k : ℕ). add (v y) k) (L.zero-mul (v x)) ∙ L.add-zero (v y))
    at r (not_same e) = sym (put_other v y (add (v y) (mul 0 (v x))) r e)
run-entry (suc zero) y x os v h =
    ap (λ (k : ℕ). run os (put v y (add (v y) k))) (sym (L.one-mul (v x) (h x)))
run-entry (suc (suc c)) y x os v h = refl

pub clears_miss : (s : ℕ → ℕ) (x : ℕ) (ys : List ℕ) (v : ℕ → ℕ) → Octets v → (r : ℕ) → occ r ys ≡ 0
    → run (clears s x ys) v r ≡ v r
clears_miss s x [] v h r m = refl
clears_miss s x (y ∷ ys) v h r m =
    at (λ (k : occ r ys ≡ 0). clears_miss s x ys (bump (s y) y x v) (bump_octet (s y) y x v h) r k) (same? r y)
  where
    w : ℕ → ℕ
    w = bump (s y) y x v

    at : (occ r ys ≡ 0 → run (clears s x ys) w r ≡ w r) → Same? r y → run (clears s x (y ∷ ys)) v r ≡ v r
    at rec (yes_same e) = absurd (let t : tick (eqb r y) ≡ 1 = tick_eq r y e in omega arith)
    at rec (not_same e) =
        ap (λ (u : ℕ → ℕ). u r) (run-entry (s y) y x (clears s x ys) v h)
        ∙ rec (let t : tick (eqb r y) ≡ 0 = tick_ne r y e in omega arith)
        ∙ put_other v y (add (v y) (mul (s y) (v x))) r e

pub clears_hit : (s : ℕ → ℕ) (x : ℕ) (ys : List ℕ) (v : ℕ → ℕ) → Octets v → occ x ys ≡ 0 → (r : ℕ) → occ r ys ≡ 1
    → run (clears s x ys) v r ≡ add (v r) (mul (s r) (v x))
clears_hit s x [] v h f r m = absurd (let z : ◌≡◌ {A = ℕ} 0 1 = m in omega arith)
clears_hit s x (y ∷ ys) v h f r m =
    at (λ (a : occ x ys ≡ 0) (k : occ r ys ≡ 1). clears_hit s x ys (bump (s y) y x v) (bump_octet (s y) y x v h) a r k)
    (same? r y) (same? x y)
  where
    n : ℕ
    n = add (v y) (mul (s y) (v x))

    w : ℕ → ℕ
    w = bump (s y) y x v

    at : (occ x ys ≡ 0 → occ r ys ≡ 1 → run (clears s x ys) w r ≡ add (w r) (mul (s r) (w x)))
        → Same? r y → Same? x y → run (clears s x (y ∷ ys)) v r ≡ add (v r) (mul (s r) (v x))
    at rec a (yes_same b) = absurd (let t : tick (eqb x y) ≡ 1 = tick_eq x y b in omega arith)
    at rec (yes_same e) (not_same b) =
        ap (λ (u : ℕ → ℕ). u r) (run-entry (s y) y x (clears s x ys) v h)
        ∙ clears_miss s x ys w (bump_octet (s y) y x v h) r (let t : tick (eqb r y) ≡ 1 = tick_eq r y e in omega arith)
        ∙ put_same v y n r e
        ∙ ap (λ (k : ℕ). add (v k) (mul (s k) (v x))) (sym e)
    at rec (not_same e) (not_same b) =
        ap (λ (u : ℕ → ℕ). u r) (run-entry (s y) y x (clears s x ys) v h)
        ∙ rec (let t : tick (eqb x y) ≡ 0 = tick_ne x y b in omega arith)
        (let t : tick (eqb r y) ≡ 0 = tick_ne r y e in omega arith)
        ∙ ap₂ (λ (a k : ℕ). add a (mul (s r) k)) (put_other v y n r e) (put_other v y n x b)

-- a row with a zero in the column leaves it alone
pub clears_idle : (s : ℕ → ℕ) (x : ℕ) (ys : List ℕ) (v : ℕ → ℕ) → Octets v → v x ≡ 0 → occ x ys ≡ 0 → run (clears s x ys) v ≡ v
clears_idle s x [] v h z f = refl
clears_idle s x (y ∷ ys) v h z f =
    run-entry (s y) y x (clears s x ys) v h
    ∙ ap (λ (u : ℕ → ℕ). run (clears s x ys) u) (fun_ext (λ r. at r (same? r y)))
    ∙ clears_idle s x ys v h z (omega arith)
  where
    at : (r : ℕ) → Same? r y → bump (s y) y x v r ≡ v r
    at r (yes_same e) =
        put_same v y (add (v y) (mul (s y) (v x))) r e
        ∙ ap (λ (k : ℕ). add (v y) (mul (s y) k)) z ∙ ap (λ (k : ℕ). add (v y) k) (mul-zero (s y)) ∙ L.add-zero (v y)
        ∙ ap v (sym e)
    at r (not_same e) = put_other v y (add (v y) (mul (s y) (v x))) r e

-- a test of operations that holds of each addition of x to one of the rows
pub clears-each : (P : Op → Type 0) (s : ℕ → ℕ) (x : ℕ) (ys : List ℕ)
    → ((y : ℕ) → 0 < occ y ys → P (AddAssign y x)) → ((y c : ℕ) → 0 < occ y ys → P (FMA y x c)) → Each P (clears s x ys)
clears-each P s x [] p f = tt
clears-each P s x (y ∷ ys) p f =
    at (s y) (clears-each P s x ys (λ z k. p z (omega arith)) (λ z c k. f z c (omega arith)))
  where
    here : 0 < occ y (y ∷ ys)
    here = let t : tick (eqb y y) ≡ 1 = tick_eq y y refl in omega arith

    at : (c : ℕ) → Each P (clears s x ys) → Each P (entry c y x (clears s x ys))
    at zero e = e
    at (suc zero) e = (p y here, e)
    at (suc (suc c)) e = (f y (suc (suc c)) here, e)

absent : (x : ℕ) (ys : List ℕ) → occ x ys ≡ 0 → (y : ℕ) → 0 < occ y ys → x ≢ y
absent x ys f y k e =
    let t : occ y ys ≡ 0 = ap (λ (z : ℕ). occ z ys) (sym e) ∙ f in
    omega arith

pub clears_good : (s : ℕ → ℕ) (x : ℕ) (ys : List ℕ) → occ x ys ≡ 0 → Each Good (clears s x ys)
clears_good s x ys f = clears-each Good s x ys (λ y k. absent x ys f y k) (λ y c k. absent x ys f y k)

pub clears_within : (m : ℕ) (s : ℕ → ℕ) (x : ℕ) (ys : List ℕ) → x < m → ((y : ℕ) → 0 < occ y ys → y < m)
    → Each (Within m) (clears s x ys)
clears_within m s x ys hx hy = clears-each (Within m) s x ys (λ y k. (hy y k, hx)) (λ y c k. (hy y k, hx))
