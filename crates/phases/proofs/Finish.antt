-- Phases three to five.
--   four_idle, four-other, four_hit, four-each   phase four
--   one_from                 phase one's operations add chosen rows
-- Assumes nothing.
use Rattle.std.specs.Prelude.{◌≡◌, refl, ◌≢◌, List, [], ◌∷◌, ℕ, zero, suc, ◌-◌, eqb}
use Rattle.std.proofs.Common.{sym, ap, ap₂, ◌∙◌, subst, not-suc-le-zero, arith}
use Rattle.std.proofs.Math.Path.{fun_ext}
use Rattle.octet.specs.Field as L
use Rattle.octet.specs.Field.{Octets, mul-zero}
use Rattle.octet.specs.Octet.{add, mul}
use Rattle.oplist.specs.Ops.{Each, each_append}
use Rattle.oplist.specs.declared.Op.{Op}
use Rattle.oplist.specs.declared.Op.TheVariants.{AddAssign, FMA}
use Rattle.algebra.specs.Rows.{run, put_same, put_other, run_octet, run-append}
use Rattle.algebra.specs.Sums.{pick_eq, pick_ne}
use Rattle.phases.specs.Clear.{bump, bump_octet}
use Rattle.phases.proofs.Clear.{run-entry, clears-each}
use Rattle.phases.specs.Occ.{tick, occ, tick_eq, tick_ne, Same?, yes_same, not_same, same?, Once, Member}
use Rattle.phases.specs.One.{Step, entry, clears, rows_of, pivots_of, ops_one}
use Rattle.phases.specs.Rest.{gather, phase_four}
use Rattle.phases.specs.Sweep.{Every, Entries}
use Rattle.phases.specs.Finish.{Column, From, Zeros}

module _ (A : ℕ → ℕ → ℕ) where
  bump-none : (c y x : ℕ) (w : ℕ → ℕ) → w x ≡ 0 → bump c y x w ≡ w
  bump-none c y x w z = fun_ext (λ r. at r (same? r y))
    where
      at : (r : ℕ) → Same? r y → bump c y x w r ≡ w r
      at r (yes_same e) =
          put_same w y (add (w y) (mul c (w x))) r e
          ∙ ap (λ (k : ℕ). add (w y) (mul c k)) z ∙ ap (λ (k : ℕ). add (w y) k) (mul-zero c) ∙ L.add-zero (w y)
          ∙ ap w (sym e)
      at r (not_same e) = put_other w y (add (w y) (mul c (w x))) r e

  gather_idle : (x : ℕ) (ts : List Step) (w : ℕ → ℕ) → Octets w → Zeros w ts → run (gather A x ts) w ≡ w
  gather_idle x [] w h z = refl
  gather_idle x (t ∷ ts) w h z =
      run-entry (A x t.pivot) x t.row (gather A x ts) w h
      ∙ ap (λ (u : ℕ → ℕ). run (gather A x ts) u) (bump-none (A x t.pivot) x t.row w z.0)
      ∙ gather_idle x ts w h z.1

  gather-other : (x : ℕ) (ts : List Step) (w : ℕ → ℕ) → Octets w → (r : ℕ) → r ≢ x → run (gather A x ts) w r ≡ w r
  gather-other x [] w h r n = refl
  gather-other x (t ∷ ts) w h r n =
      ap (λ (u : ℕ → ℕ). u r) (run-entry (A x t.pivot) x t.row (gather A x ts) w h)
      ∙ gather-other x ts (bump (A x t.pivot) x t.row w) (bump_octet (A x t.pivot) x t.row w h) r n
      ∙ put_other w x (add (w x) (mul (A x t.pivot) (w t.row))) r n

  -- after the step whose column it is, zeros
  later : (q : ℕ) (w : ℕ → ℕ) (ts : List Step) → occ q (pivots_of ts) ≡ 0 → Column A q w ts → Zeros w ts
  later q w [] z c = tt
  later q w (t ∷ ts) z c = (
    c.0 ∙ pick_ne t.pivot q 1 0 (λ e. (let k : tick (eqb q t.pivot) ≡ 1 = tick_eq q t.pivot (sym e) in omega arith)),
    later q w ts (omega arith) c.1,
  )

  away : (x c : ℕ) (t : Step) (ts : List Step) (w : ℕ → ℕ) (P : ℕ → ℕ → Type 0) → occ x (rows_of ts) ≡ 0
      → Every (λ u. P u.pivot (w u.row)) ts → Every (λ u. P u.pivot (bump c x t.row w u.row)) ts
  away x c t [] w P z e = tt
  away x c t (u ∷ us) w P z e = (
    subst (λ (k : ℕ). P u.pivot k)
        (sym (put_other w x (add (w x) (mul c (w t.row))) u.row
        (λ p. (let k : tick (eqb x u.row) ≡ 1 = tick_eq x u.row (sym p) in omega arith)))) e.0,
    away x c t us w P (omega arith) e.1,
  )

  gather_hit : (x q : ℕ) (ts : List Step) (w : ℕ → ℕ) → Octets w → Entries A → occ x (rows_of ts) ≡ 0
      → occ q (pivots_of ts) ≡ 1 → Column A q w ts → run (gather A x ts) w x ≡ add (w x) (A x q)
  gather_hit x q [] w h ha z o c = absurd (let k : ◌≡◌ {A = ℕ} 0 1 = o in omega arith)
  gather_hit x q (t ∷ ts) w h ha z o c =
      at (λ (a : occ q (pivots_of ts) ≡ 1). gather_hit x q ts w h ha (omega arith) a c.1) (same? q t.pivot)
    where
      n : ℕ
      n = add (w x) (mul (A x t.pivot) (w t.row))

      u : ℕ → ℕ
      u = bump (A x t.pivot) x t.row w

      at : (occ q (pivots_of ts) ≡ 1 → run (gather A x ts) w x ≡ add (w x) (A x q)) → Same? q t.pivot
          → run (gather A x (t ∷ ts)) w x ≡ add (w x) (A x q)
      at rec (yes_same e) =
          let k : tick (eqb q t.pivot) ≡ 1 = tick_eq q t.pivot e in
          ap (λ (f : ℕ → ℕ). f x) (run-entry (A x t.pivot) x t.row (gather A x ts) w h)
          ∙ ap (λ (f : ℕ → ℕ). f x) (gather_idle x ts u (bump_octet (A x t.pivot) x t.row w h)
          (away x (A x t.pivot) t ts w (λ p y. y ≡ 0) (omega arith) (later q w ts (omega arith) c.1)))
          ∙ put_same w x n x refl
          ∙ ap (λ (y : ℕ). add (w x) y)
          (ap₂ (λ (a b : ℕ). mul (A x a) b) (sym e) (c.0 ∙ pick_eq t.pivot q 1 0 (sym e))
          ∙ L.mul_comm (A x q) 1 ∙ L.one-mul (A x q) (ha x q))
      at rec (not_same e) =
          let k : tick (eqb q t.pivot) ≡ 0 = tick_ne q t.pivot e in
          ap (λ (f : ℕ → ℕ). f x) (run-entry (A x t.pivot) x t.row (gather A x ts) w h)
          ∙ ap (λ (f : ℕ → ℕ). run (gather A x ts) f x)
          (bump-none (A x t.pivot) x t.row w (c.0 ∙ pick_ne t.pivot q 1 0 (λ p. e (sym p))))
          ∙ rec (omega arith)

  pub four_idle : (xs : List ℕ) (ts : List Step) (w : ℕ → ℕ) → Octets w → Zeros w ts → run (phase_four A xs ts) w ≡ w
  four_idle [] ts w h z = refl
  four_idle (x ∷ xs) ts w h z =
      run-append (gather A x ts) (phase_four A xs ts) w
      ∙ ap (λ (u : ℕ → ℕ). run (phase_four A xs ts) u) (gather_idle x ts w h z) ∙ four_idle xs ts w h z

  pub four-other : (xs : List ℕ) (ts : List Step) (w : ℕ → ℕ) → Octets w → (r : ℕ) → occ r xs ≡ 0 → run (phase_four A xs ts) w r ≡ w r
  four-other [] ts w h r z = refl
  four-other (x ∷ xs) ts w h r z =
      ap (λ (u : ℕ → ℕ). u r) (run-append (gather A x ts) (phase_four A xs ts) w)
      ∙ four-other xs ts (run (gather A x ts) w) (run_octet (gather A x ts) w h) r (omega arith)
      ∙ gather-other x ts w h r (λ e. (let k : tick (eqb r x) ≡ 1 = tick_eq r x e in omega arith))

  column_stays : (x q : ℕ) (ts us : List Step) (w : ℕ → ℕ) → Octets w → occ x (rows_of us) ≡ 0 → Column A q w us → Column A q (run (gather A x ts) w) us
  column_stays x q ts [] w h z c = tt
  column_stays x q ts (u ∷ us) w h z c = (
    gather-other x ts w h u.row (λ p. (let k : tick (eqb x u.row) ≡ 1 = tick_eq x u.row (sym p) in omega arith)) ∙ c.0,
    column_stays x q ts us w h (omega arith) c.1,
  )

  pub four_hit : (xs : List ℕ) (q : ℕ) (ts : List Step) (w : ℕ → ℕ) → Octets w → Entries A → Once xs
      → ((x : ℕ) → Member xs x → occ x (rows_of ts) ≡ 0) → occ q (pivots_of ts) ≡ 1 → Column A q w ts
      → (x : ℕ) → Member xs x → run (phase_four A xs ts) w x ≡ add (w x) (A x q)
  four_hit [] q ts w h ha o f p c x k = absurd (not-suc-le-zero k)
  four_hit (y ∷ xs) q ts w h ha o f p c x k =
      at (λ (i : Member xs x). four_hit xs q ts (run (gather A y ts) w) (run_octet (gather A y ts) w h) ha (λ r. omega (arith, o r))
      (λ r j. f r (omega arith)) p
      (column_stays y q ts ts w h (f y (let t : tick (eqb y y) ≡ 1 = tick_eq y y refl in omega arith)) c) x i)
      (same? x y)
    where
      first : run (phase_four A (y ∷ xs) ts) w x ≡ run (phase_four A xs ts) (run (gather A y ts) w) x
      first = ap (λ (u : ℕ → ℕ). u x) (run-append (gather A y ts) (phase_four A xs ts) w)

      at : (Member xs x → run (phase_four A xs ts) (run (gather A y ts) w) x ≡ add (run (gather A y ts) w x) (A x q))
          → Same? x y → run (phase_four A (y ∷ xs) ts) w x ≡ add (w x) (A x q)
      at rec (yes_same e) =
          let t : tick (eqb x y) ≡ 1 = tick_eq x y e in
          first
          ∙ four-other xs ts (run (gather A y ts) w) (run_octet (gather A y ts) w h) x (omega (arith, o x))
          ∙ ap (λ (z : ℕ). run (gather A y ts) w z) e
          ∙ gather_hit y q ts w h ha (f y (subst (λ (z : ℕ). Member (y ∷ xs) z) e k)) p c
          ∙ ap (λ (z : ℕ). add (w z) (A z q)) (sym e)
      at rec (not_same e) =
          let t : tick (eqb x y) ≡ 0 = tick_ne x y e in
          first ∙ rec (omega arith) ∙ ap (λ (z : ℕ). add z (A x q)) (gather-other y ts w h x e)

  gather-each : (P : Op → Type 0) (x : ℕ) (ts : List Step)
      → ((y : ℕ) → Member (rows_of ts) y → P (AddAssign x y)) → ((y c : ℕ) → Member (rows_of ts) y → P (FMA x y c)) → Each P (gather A x ts)
  gather-each P x [] p f = tt
  gather-each P x (t ∷ ts) p f =
      at (A x t.pivot) (gather-each P x ts (λ y k. p y (omega arith)) (λ y c k. f y c (omega arith)))
    where
      here : Member (rows_of (t ∷ ts)) t.row
      here = let k : tick (eqb t.row t.row) ≡ 1 = tick_eq t.row t.row refl in omega arith

      at : (c : ℕ) → Each P (gather A x ts) → Each P (entry c x t.row (gather A x ts))
      at zero e = e
      at (suc zero) e = (p t.row here, e)
      at (suc (suc c)) e = (f t.row (suc (suc c)) here, e)

  pub four-each : (P : Op → Type 0) (xs : List ℕ) (ts : List Step)
      → ((x y : ℕ) → Member xs x → Member (rows_of ts) y → P (AddAssign x y)) → ((x y c : ℕ) → Member xs x → Member (rows_of ts) y → P (FMA x y c))
      → Each P (phase_four A xs ts)
  four-each P [] ts p f = tt
  four-each P (x ∷ xs) ts p f =
      let t : tick (eqb x x) ≡ 1 = tick_eq x x refl in
      each_append P (gather A x ts) (phase_four A xs ts)
      (gather-each P x ts (λ y k. p x y (omega arith) k) (λ y c k. f x y c (omega arith) k))
      (four-each P xs ts (λ z y j k. p z y (omega arith) k) (λ z y c j k. f z y c (omega arith) k))

-- phase one's operations add chosen rows
pub one_from : (A : ℕ → ℕ → ℕ) (ts : List Step) (xs : List ℕ) → ((y : ℕ) → Member (rows_of ts) y → Member xs y) → Each (From xs) (ops_one A ts)
one_from A [] xs i = tt
one_from A (t ∷ ts) xs i =
    let k : tick (eqb t.row t.row) ≡ 1 = tick_eq t.row t.row refl in
    each_append (From xs) (clears (λ y. A y t.pivot) t.row t.under) (ops_one A ts)
    (clears-each (From xs) (λ y. A y t.pivot) t.row t.under (λ y j. i t.row (omega arith)) (λ y c j. i t.row (omega arith)))
    (one_from A ts xs (λ y j. i y (omega arith)))
