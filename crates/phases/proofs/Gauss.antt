-- Phase two as elimination: forward to ones on a diagonal with zeros below, then to a unit in each column.
--   scaled_within            a scaled row
--   works_other, works_idle  rows that are none of them, and columns of zeros, stay
--   stairs   ones, and zeros below them
--   works_good, works_within   the operations can be undone, and stay within the rows
--   back_idle, back-other, back_good, back_within   clearing above
--   units                    each column ends as a unit
-- Assumes nothing.
use Rattle.std.specs.Prelude.{◌≡◌, refl, ◌≢◌, List, [], ◌∷◌, ◌++◌, ℕ, zero, suc, ◌+◌, ◌-◌, ◌<◌, ◌≤◌, eqb}
use Rattle.std.proofs.Common.{sym, ap, ap₂, ◌∙◌, subst, suc-ne-zero, arith}
use Rattle.std.proofs.Math.Path.{fun_ext}
use Rattle.octet.specs.Field as L
use Rattle.octet.proofs.Field as Lp
use Rattle.octet.specs.Field.{Octet, Octets, mul-zero}
use Rattle.octet.specs.Octet.{add, mul, inverse}
use Rattle.oplist.specs.Ops.{Each, each_append}
use Rattle.oplist.specs.declared.Op.{Op}
use Rattle.algebra.specs.Rows.{run, runs, put, put_same, put_other, column, run_octet, run-append, Good, Within}
use Rattle.algebra.specs.Sums.{pick_eq, pick_ne, delta}
use Rattle.phases.proofs.Clear.{clears_miss, clears_hit, clears_idle, clears_good, clears_within}
use Rattle.phases.specs.Occ.{tick, occ, tick_eq, tick_ne, occ-append, Same?, yes_same, not_same, same?, Once}
use Rattle.phases.specs.One.{Step, clears, rows_of}
use Rattle.phases.specs.Sweep.{Every, every_map, every-both, Entries, runs-entries}
use Rattle.phases.specs.Two.{scaled}
use Rattle.phases.specs.Gauss.{Falls, Pivot, Stairs, Works, above, ops_at, ops_two}

-- scaling
scaled-other : (c y : ℕ) (v : ℕ → ℕ) (r : ℕ) → r ≢ y → run (scaled c y) v r ≡ v r
scaled-other zero y v r n = refl
scaled-other (suc zero) y v r n = refl
scaled-other (suc (suc c)) y v r n = put_other v y (mul (inverse (suc (suc c))) (v y)) r n

scaled_idle : (c y : ℕ) (v : ℕ → ℕ) → v y ≡ 0 → run (scaled c y) v ≡ v
scaled_idle zero y v z = refl
scaled_idle (suc zero) y v z = refl
scaled_idle (suc (suc c)) y v z = fun_ext (λ r. at r (same? r y))
  where
    at : (r : ℕ) → Same? r y → put v y (mul (inverse (suc (suc c))) (v y)) r ≡ v r
    at r (yes_same e) =
        put_same v y (mul (inverse (suc (suc c))) (v y)) r e
        ∙ ap (λ (k : ℕ). mul (inverse (suc (suc c))) k) z ∙ mul-zero (inverse (suc (suc c))) ∙ sym (ap v e ∙ z)
    at r (not_same e) = put_other v y (mul (inverse (suc (suc c))) (v y)) r e

scaled-one : (c y : ℕ) (v : ℕ → ℕ) → v y ≡ c → c ≢ 0 → Octet c → run (scaled c y) v y ≡ 1
scaled-one zero y v e n h = absurd (n refl)
scaled-one (suc zero) y v e n h = e
scaled-one (suc (suc c)) y v e n h =
    put_same v y (mul (inverse (suc (suc c))) (v y)) y refl
    ∙ ap (λ (k : ℕ). mul (inverse (suc (suc c))) k) e ∙ Lp.inv_mul (suc (suc c)) h n

inverse-nonzero : (c : ℕ) → Octet c → c ≢ 0 → inverse c ≢ 0
inverse-nonzero c h n e =
    let z : ◌≡◌ {A = ℕ} 0 1 = sym (L.zero-mul c) ∙ ap (λ (x : ℕ). mul x c) (sym e) ∙ Lp.inv_mul c h n in
    omega arith

scaled_good : (c y : ℕ) → Octet c → Each Good (scaled c y)
scaled_good zero y h = tt
scaled_good (suc zero) y h = tt
scaled_good (suc (suc c)) y h =
    ((L.inv_octet (suc (suc c)), inverse-nonzero (suc (suc c)) h (suc-ne-zero (suc c))), tt)

pub scaled_within : (m c y : ℕ) → y < m → Each (Within m) (scaled c y)
scaled_within m zero y h = tt
scaled_within m (suc zero) y h = tt
scaled_within m (suc (suc c)) y h = ((h, h), tt)

module _ (B : ℕ → ℕ → ℕ) (t : Step) (rows : List ℕ) (p : Pivot B t rows) where
  in_row : 0 < occ t.row rows
  in_row = omega (arith, tick_eq t.row t.row refl, p.same t.row)

  in_under : (y : ℕ) → 0 < occ y t.under → 0 < occ y rows
  in_under y k = omega (arith, p.same y)

  once_under : Once rows → Once t.under
  once_under o y = omega (arith, p.same y, o y)

  out_row : Once rows → occ t.row t.under ≡ 0
  out_row o = omega (arith, tick_eq t.row t.row refl, p.same t.row, o t.row)

  apart : Once rows → (y : ℕ) → 0 < occ y t.under → y ≢ t.row
  apart o y k e = let z : occ y t.under ≡ 0 = ap (λ (x : ℕ). occ x t.under) e ∙ out_row o in omega arith

  -- a row that is none of the rows
  at_other : (w : ℕ → ℕ) → Octets w → (r : ℕ) → occ r rows ≡ 0 → run (ops_at B t) w r ≡ w r
  at_other w h r z =
      let c : ℕ = B t.row t.pivot in
      let ne : r ≢ t.row = λ e. (let k : 0 < occ r rows = subst (λ (x : ℕ). 0 < occ x rows) (sym e) in_row in omega arith) in
      ap (λ (u : ℕ → ℕ). u r) (run-append (scaled c t.row) (clears (λ x. B x t.pivot) t.row t.under) w)
      ∙ clears_miss (λ x. B x t.pivot) t.row t.under (run (scaled c t.row) w) (run_octet (scaled c t.row) w h) r
      (omega (arith, p.same r))
      ∙ scaled-other c t.row w r ne

  at_idle : (w : ℕ → ℕ) → Octets w → Once rows → w t.row ≡ 0 → run (ops_at B t) w ≡ w
  at_idle w h o z =
      let c : ℕ = B t.row t.pivot in
      run-append (scaled c t.row) (clears (λ x. B x t.pivot) t.row t.under) w
      ∙ ap (λ (u : ℕ → ℕ). run (clears (λ x. B x t.pivot) t.row t.under) u) (scaled_idle c t.row w z)
      ∙ clears_idle (λ x. B x t.pivot) t.row t.under w h z (out_row o)

  module _ (h : Entries B) (o : Once rows) where
    abbrev v : ℕ → ℕ
    v = run (scaled (B t.row t.pivot) t.row) (column B t.pivot)

    v_octets : Octets v
    v_octets = run_octet (scaled (B t.row t.pivot) t.row) (column B t.pivot) (λ k. h k t.pivot)

    v-one : v t.row ≡ 1
    v-one = scaled-one (B t.row t.pivot) t.row (column B t.pivot) refl p.nonzero (h t.row t.pivot)

    through : (r : ℕ) → run (ops_at B t) (column B t.pivot) r ≡ run (clears (λ x. B x t.pivot) t.row t.under) v r
    through r =
        ap (λ (u : ℕ → ℕ). u r) (run-append (scaled (B t.row t.pivot) t.row) (clears (λ x. B x t.pivot) t.row t.under) (column B t.pivot))

    at_one : runs (ops_at B t) B t.row t.pivot ≡ 1
    at_one = through t.row ∙ clears_miss (λ x. B x t.pivot) t.row t.under v v_octets t.row (out_row o) ∙ v-one

    at_clear : (y : ℕ) → 0 < occ y t.under → runs (ops_at B t) B y t.pivot ≡ 0
    at_clear y k =
        through y
        ∙ clears_hit (λ x. B x t.pivot) t.row t.under v v_octets (out_row o) y (omega (arith, once_under o y))
        ∙ ap₂ (λ (a b : ℕ). add a (mul (B y t.pivot) b))
        (scaled-other (B t.row t.pivot) t.row (column B t.pivot) y (apart o y k)) v-one
        ∙ ap (λ (b : ℕ). add (B y t.pivot) b) (L.mul_comm (B y t.pivot) 1 ∙ L.one-mul (B y t.pivot) (h y t.pivot))
        ∙ L.add_self (B y t.pivot)

-- rows that are not among the rows stay
pub works_other : (B : ℕ → ℕ → ℕ) (ts : List Step) (rows : List ℕ) → Works B ts rows → (w : ℕ → ℕ) → Octets w
    → (r : ℕ) → occ r rows ≡ 0 → run (ops_two B ts) w r ≡ w r
works_other B [] rows g w h r z = refl
works_other B (t ∷ ts) rows g w h r z =
    ap (λ (u : ℕ → ℕ). u r) (run-append (ops_at B t) (ops_two (runs (ops_at B t) B) ts) w)
    ∙ works_other (runs (ops_at B t) B) ts t.under g.1 (run (ops_at B t) w) (run_octet (ops_at B t) w h) r (omega (arith, g.0.same r))
    ∙ at_other B t rows g.0 w h r z

-- columns with zeros in all the rows stay
pub works_idle : (B : ℕ → ℕ → ℕ) (ts : List Step) (rows : List ℕ) → Works B ts rows → Once rows → (w : ℕ → ℕ) → Octets w
    → ((y : ℕ) → 0 < occ y rows → w y ≡ 0) → run (ops_two B ts) w ≡ w
works_idle B [] rows g o w h z = refl
works_idle B (t ∷ ts) rows g o w h z =
    run-append (ops_at B t) (ops_two (runs (ops_at B t) B) ts) w
    ∙ ap (λ (u : ℕ → ℕ). run (ops_two (runs (ops_at B t) B) ts) u)
    (at_idle B t rows g.0 w h o (z t.row (in_row B t rows g.0)))
    ∙ works_idle (runs (ops_at B t) B) ts t.under g.1 (once_under B t rows g.0 o) w h
    (λ y k. z y (in_under B t rows g.0 y k))

pub stairs : (B : ℕ → ℕ → ℕ) (ts : List Step) (rows : List ℕ) → Works B ts rows → Once rows → Entries B
    → Stairs (runs (ops_two B ts) B) ts
stairs B [] rows g o h = tt
stairs B (t ∷ ts) rows g o h = (
  (
    whole t.row t.pivot ∙ calm t.row ∙ at_one B t rows g.0 h o,
    λ y k. whole y t.pivot ∙ calm y ∙ at_clear B t rows g.0 h o y k,
  ),
  every_map
      (λ u. (D u.row u.pivot ≡ 1) × ((y : ℕ) → 0 < occ y u.under → D y u.pivot ≡ 0))
      (λ u. (runs (ops_two B (t ∷ ts)) B u.row u.pivot ≡ 1) × ((y : ℕ) → 0 < occ y u.under → runs (ops_two B (t ∷ ts)) B y u.pivot ≡ 0))
      ts (λ u e. (whole u.row u.pivot ∙ e.0, λ y k. whole y u.pivot ∙ e.1 y k))
      (stairs (runs (ops_at B t) B) ts t.under g.1 (once_under B t rows g.0 o) (runs-entries (ops_at B t) B h)),
)
  where
    C : ℕ → ℕ → ℕ
    C = runs (ops_at B t) B

    D : ℕ → ℕ → ℕ
    D = runs (ops_two C ts) C

    whole : (r q : ℕ) → runs (ops_two B (t ∷ ts)) B r q ≡ D r q
    whole r q = ap (λ (u : ℕ → ℕ). u r) (run-append (ops_at B t) (ops_two C ts) (column B q))

    calm : (r : ℕ) → D r t.pivot ≡ C r t.pivot
    calm r =
        ap (λ (u : ℕ → ℕ). u r) (works_idle C ts t.under g.1 (once_under B t rows g.0 o) (column C t.pivot)
        (λ k. runs-entries (ops_at B t) B h k t.pivot) (at_clear B t rows g.0 h o))

pub works_good : (B : ℕ → ℕ → ℕ) (ts : List Step) (rows : List ℕ) → Works B ts rows → Once rows → Entries B → Each Good (ops_two B ts)
works_good B [] rows g o h = tt
works_good B (t ∷ ts) rows g o h =
    each_append Good (ops_at B t) (ops_two (runs (ops_at B t) B) ts)
    (each_append Good (scaled (B t.row t.pivot) t.row) (clears (λ x. B x t.pivot) t.row t.under)
    (scaled_good (B t.row t.pivot) t.row (h t.row t.pivot))
    (clears_good (λ x. B x t.pivot) t.row t.under (out_row B t rows g.0 o)))
    (works_good (runs (ops_at B t) B) ts t.under g.1 (once_under B t rows g.0 o) (runs-entries (ops_at B t) B h))

pub works_within : (m : ℕ) (B : ℕ → ℕ → ℕ) (ts : List Step) (rows : List ℕ) → Works B ts rows
    → ((y : ℕ) → 0 < occ y rows → y < m) → Each (Within m) (ops_two B ts)
works_within m B [] rows g b = tt
works_within m B (t ∷ ts) rows g b =
    each_append (Within m) (ops_at B t) (ops_two (runs (ops_at B t) B) ts)
    (each_append (Within m) (scaled (B t.row t.pivot) t.row) (clears (λ x. B x t.pivot) t.row t.under)
    (scaled_within m (B t.row t.pivot) t.row (b t.row (in_row B t rows g.0)))
    (clears_within m (λ x. B x t.pivot) t.row t.under (b t.row (in_row B t rows g.0))
    (λ y k. b y (in_under B t rows g.0 y k))))
    (works_within m (runs (ops_at B t) B) ts t.under g.1 (λ y k. b y (in_under B t rows g.0 y k)))

module _ (D : ℕ → ℕ → ℕ) where
  one_in : (before : List ℕ) (x : ℕ) (l : List ℕ) (y : ℕ) → occ y (before ++ (x ∷ [])) + occ y l ≡ occ y before + occ y (x ∷ l)
  one_in before x l y = let e : occ y (before ++ (x ∷ [])) ≡ occ y before + (tick (eqb y x) + 0) = occ-append y before (x ∷ []) in omega arith

  -- a column with zeros in the steps' rows stays
  pub back_idle : (before : List ℕ) (ts : List Step) → ((y : ℕ) → occ y before + occ y (rows_of ts) ≤ 1) → (w : ℕ → ℕ) → Octets w
      → ((y : ℕ) → 0 < occ y (rows_of ts) → w y ≡ 0) → run (above D before ts) w ≡ w
  back_idle before [] o w h z = refl
  back_idle before (t ∷ ts) o w h z =
      let tk : tick (eqb t.row t.row) ≡ 1 = tick_eq t.row t.row refl in
      run-append (above D (before ++ (t.row ∷ [])) ts) (clears (λ x. D x t.pivot) t.row before) w
      ∙ ap (λ (u : ℕ → ℕ). run (clears (λ x. D x t.pivot) t.row before) u)
      (back_idle (before ++ (t.row ∷ [])) ts (λ y. omega (arith, one_in before t.row (rows_of ts) y, o y)) w h
      (λ y k. z y (omega arith)))
      ∙ clears_idle (λ x. D x t.pivot) t.row before w h (z t.row (omega arith)) (omega (arith, o t.row))

  -- rows that are none of them stay
  pub back-other : (before : List ℕ) (ts : List Step) → (w : ℕ → ℕ) → Octets w → (r : ℕ) → occ r before + occ r (rows_of ts) ≡ 0
      → run (above D before ts) w r ≡ w r
  back-other before [] w h r z = refl
  back-other before (t ∷ ts) w h r z =
      let os : List Op = above D (before ++ (t.row ∷ [])) ts in
      ap (λ (u : ℕ → ℕ). u r) (run-append os (clears (λ x. D x t.pivot) t.row before) w)
      ∙ clears_miss (λ x. D x t.pivot) t.row before (run os w) (run_octet os w h) r (omega arith)
      ∙ back-other (before ++ (t.row ∷ [])) ts w h r (omega (arith, one_in before t.row (rows_of ts) r))

  -- each column ends as a unit
  pub units : (before : List ℕ) (ts : List Step) → ((y : ℕ) → occ y before + occ y (rows_of ts) ≤ 1) → Entries D → Falls D ts
      → Every (λ t. (r : ℕ) → 0 < occ r before + occ r (rows_of ts) → runs (above D before ts) D r t.pivot ≡ delta r t.row) ts
  units before [] o h f = tt
  units before (t ∷ ts) o h f = (
    (λ r k. whole r t.pivot ∙ here r k (same? r t.row)),
    every_map
        (λ u. (0 < occ u.row (rows_of ts)) × ((r : ℕ) → 0 < occ r (before ++ (t.row ∷ [])) + occ r (rows_of ts) → E r u.pivot ≡ delta r u.row))
        (λ u. (r : ℕ) → 0 < occ r before + occ r (rows_of (t ∷ ts)) → runs (above D before (t ∷ ts)) D r u.pivot ≡ delta r u.row)
        ts (λ u e r k. whole r u.pivot ∙ there u e.0 e.1 r k)
        (every-both (λ u. 0 < occ u.row (rows_of ts))
        (λ u. (r : ℕ) → 0 < occ r (before ++ (t.row ∷ [])) + occ r (rows_of ts) → E r u.pivot ≡ delta r u.row) ts
        (members ts) (units (before ++ (t.row ∷ [])) ts o2 h f.2)),
  )
    where
      os : List Op
      os = above D (before ++ (t.row ∷ [])) ts

      E : ℕ → ℕ → ℕ
      E = runs os D

      he : Entries E
      he = runs-entries os D h

      tk : tick (eqb t.row t.row) ≡ 1
      tk = tick_eq t.row t.row refl

      o2 : (y : ℕ) → occ y (before ++ (t.row ∷ [])) + occ y (rows_of ts) ≤ 1
      o2 y = omega (arith, one_in before t.row (rows_of ts) y, o y)

      fresh : occ t.row before ≡ 0
      fresh = omega (arith, o t.row, tk)

      members : (us : List Step) → Every (λ u. 0 < occ u.row (rows_of us)) us
      members [] = tt
      members (u ∷ us) = (
        (let k : tick (eqb u.row u.row) ≡ 1 = tick_eq u.row u.row refl in omega arith),
        every_map (λ s. 0 < occ s.row (rows_of us)) (λ s. 0 < occ s.row (rows_of (u ∷ us))) us (λ s k. omega arith) (members us),
      )

      whole : (r q : ℕ) → runs (above D before (t ∷ ts)) D r q ≡ run (clears (λ x. D x t.pivot) t.row before) (column E q) r
      whole r q = ap (λ (u : ℕ → ℕ). u r) (run-append os (clears (λ x. D x t.pivot) t.row before) (column D q))

      calm : column E t.pivot ≡ column D t.pivot
      calm = back_idle (before ++ (t.row ∷ [])) ts o2 (column D t.pivot) (λ k. h k t.pivot) f.1

      at : (r : ℕ) → E r t.pivot ≡ D r t.pivot
      at r = ap (λ (u : ℕ → ℕ). u r) calm

      here : (r : ℕ) → 0 < occ r before + occ r (rows_of (t ∷ ts)) → Same? r t.row
          → run (clears (λ x. D x t.pivot) t.row before) (column E t.pivot) r ≡ delta r t.row
      here r k (yes_same e) =
          clears_miss (λ x. D x t.pivot) t.row before (column E t.pivot) (λ x. he x t.pivot) r
          (ap (λ (x : ℕ). occ x before) e ∙ fresh)
          ∙ at r ∙ ap (λ (x : ℕ). D x t.pivot) e ∙ f.0 ∙ sym (pick_eq r t.row 1 0 e)
      here r k (not_same ne) = cases (same? (occ r before) 0)
        where
          cases : Same? (occ r before) 0 → run (clears (λ x. D x t.pivot) t.row before) (column E t.pivot) r ≡ delta r t.row
          cases (yes_same z) =
              clears_miss (λ x. D x t.pivot) t.row before (column E t.pivot) (λ x. he x t.pivot) r z
              ∙ at r ∙ f.1 r (omega (arith, tick_ne r t.row ne)) ∙ sym (pick_ne r t.row 1 0 ne)
          cases (not_same z) =
              clears_hit (λ x. D x t.pivot) t.row before (column E t.pivot) (λ x. he x t.pivot) fresh r
              (omega (arith, o r))
              ∙ ap₂ (λ (a b : ℕ). add a (mul (D r t.pivot) b)) (at r) (at t.row ∙ f.0)
              ∙ ap (λ (b : ℕ). add (D r t.pivot) b) (L.mul_comm (D r t.pivot) 1 ∙ L.one-mul (D r t.pivot) (h r t.pivot))
              ∙ L.add_self (D r t.pivot) ∙ sym (pick_ne r t.row 1 0 ne)

      there : (u : Step) → 0 < occ u.row (rows_of ts)
          → ((r : ℕ) → 0 < occ r (before ++ (t.row ∷ [])) + occ r (rows_of ts) → E r u.pivot ≡ delta r u.row)
          → (r : ℕ) → 0 < occ r before + occ r (rows_of (t ∷ ts))
          → run (clears (λ x. D x t.pivot) t.row before) (column E u.pivot) r ≡ delta r u.row
      there u i e r k =
          ap (λ (w : ℕ → ℕ). w r) (clears_idle (λ x. D x t.pivot) t.row before (column E u.pivot) (λ x. he x u.pivot) none fresh)
          ∙ e r (omega (arith, one_in before t.row (rows_of ts) r))
        where
          ne : t.row ≢ u.row
          ne x = let z : occ u.row (rows_of ts) ≡ occ t.row (rows_of ts) = ap (λ (k : ℕ). occ k (rows_of ts)) (sym x) in
              omega (arith, o t.row, tk)

          none : E t.row u.pivot ≡ 0
          none = e t.row (omega (arith, one_in before t.row (rows_of ts) t.row, tk)) ∙ pick_ne t.row u.row 1 0 ne

  pub back_good : (before : List ℕ) (ts : List Step) → ((y : ℕ) → occ y before + occ y (rows_of ts) ≤ 1) → Each Good (above D before ts)
  back_good before [] o = tt
  back_good before (t ∷ ts) o =
      let tk : tick (eqb t.row t.row) ≡ 1 = tick_eq t.row t.row refl in
      each_append Good (above D (before ++ (t.row ∷ [])) ts) (clears (λ x. D x t.pivot) t.row before)
      (back_good (before ++ (t.row ∷ [])) ts (λ y. omega (arith, one_in before t.row (rows_of ts) y, o y)))
      (clears_good (λ x. D x t.pivot) t.row before (omega (arith, o t.row)))

  pub back_within : (m : ℕ) (before : List ℕ) (ts : List Step) → ((y : ℕ) → 0 < occ y before + occ y (rows_of ts) → y < m)
      → Each (Within m) (above D before ts)
  back_within m before [] b = tt
  back_within m before (t ∷ ts) b =
      let tk : tick (eqb t.row t.row) ≡ 1 = tick_eq t.row t.row refl in
      each_append (Within m) (above D (before ++ (t.row ∷ [])) ts) (clears (λ x. D x t.pivot) t.row before)
      (back_within m (before ++ (t.row ∷ [])) ts (λ y k. b y (omega (arith, one_in before t.row (rows_of ts) y))))
      (clears_within m (λ x. D x t.pivot) t.row before (b t.row (omega arith)) (λ y k. b y (omega arith)))
