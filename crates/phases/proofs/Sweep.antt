-- Phase one as elimination: what any legal sequence of steps does to the matrix. Ties do not enter here.
--   cols-kept, inside   columns likewise, and each step's row and column are among them
--   ops_good, ops_within           the operations can be undone, and stay within the rows
--   untouched, idle_all            rows, and columns of zeros, that are left alone
--   kept-v                 V never changes
--   shape, shape-clear    each step's column becomes the unit of its row; the chosen rows are zeros in what is left of V
--   triangle             the given matrix is a lower triangle at the steps' rows and columns
-- Assumes nothing.
use Rattle.std.specs.Prelude.{◌≡◌, refl, ◌≢◌, List, [], ◌∷◌, ℕ, ◌+◌, ◌-◌, ◌<◌, ◌≤◌, eqb}
use Rattle.std.proofs.Common.{sym, ap, ap₂, ◌∙◌, arith}
use Rattle.octet.specs.Field as L
use Rattle.octet.specs.Field.{Octets, mul-zero}
use Rattle.octet.specs.Octet.{add, mul}
use Rattle.oplist.specs.Ops.{Each, each_append}
use Rattle.oplist.specs.declared.Op.{Op}
use Rattle.algebra.specs.Rows.{run, runs, column, run_octet, run-append, Good, Within}
use Rattle.algebra.specs.Sums.{pick_eq, pick_ne, delta}
use Rattle.phases.proofs.Clear.{clears_miss, clears_hit, clears_idle, clears_good, clears_within}
use Rattle.phases.specs.Occ.{tick, occ, tick_eq, tick_ne, Same?, yes_same, not_same, same?, Once}
use Rattle.phases.specs.One.{Step, clears, ops_one, pivots_of}
use Rattle.phases.specs.Sweep.{Agrees, Entries, Every, Fair, Legal, Triangle, Unit_at, every-both, every_map, last-cols, last-rows, runs-entries}

module _ (A : ℕ → ℕ → ℕ) where
  -- the pivots and what is left of V are apart, and in V
  pub cols-kept : (ts : List Step) (rows v : List ℕ) → Legal A ts rows v
      → (q : ℕ) → occ q (pivots_of ts) + occ q (last-cols ts v) ≤ occ q v
  cols-kept [] rows v g q = omega arith
  cols-kept (t ∷ ts) rows v g q =
      let e : occ q (pivots_of ts) + occ q (last-cols ts t.left) ≤ occ q t.left = cols-kept ts t.under t.left g.1 q in
      let f : occ q (t.pivot ∷ t.left) ≤ occ q v = g.0.some q in
      omega arith

  head_in : (x : ℕ) (l : List ℕ) → 0 < occ x (x ∷ l)
  head_in x l = let t : tick (eqb x x) ≡ 1 = tick_eq x x refl in omega arith

  row_in : (t : Step) (rows v : List ℕ) → Fair A t rows v → 0 < occ t.row rows
  row_in t rows v f = omega (arith, head_in t.row t.under, f.same t.row)

  row_out : (t : Step) (rows v : List ℕ) → Fair A t rows v → Once rows → occ t.row t.under ≡ 0
  row_out t rows v f o = omega (arith, tick_eq t.row t.row refl, f.same t.row, o t.row)

  pivot_in : (t : Step) (rows v : List ℕ) → Fair A t rows v → 0 < occ t.pivot v
  pivot_in t rows v f = omega (arith, head_in t.pivot t.left, f.some t.pivot)

  under_once : (t : Step) (rows v : List ℕ) → Fair A t rows v → Once rows → Once t.under
  under_once t rows v f o y = omega (arith, f.same y, o y)

  under_in : (t : Step) (rows v : List ℕ) → Fair A t rows v → (y : ℕ) → 0 < occ y t.under → 0 < occ y rows
  under_in t rows v f y k = omega (arith, f.same y)

  left_in : (t : Step) (rows v : List ℕ) → Fair A t rows v → (q : ℕ) → 0 < occ q t.left → 0 < occ q v
  left_in t rows v f q k = omega (arith, f.some q)

  -- each step's row and column were there from the start
  pub inside : (ts : List Step) (rows v : List ℕ) → Legal A ts rows v → Every (λ t. (0 < occ t.row rows) × (0 < occ t.pivot v)) ts
  inside [] rows v g = tt
  inside (t ∷ ts) rows v g = (
    (row_in t rows v g.0, pivot_in t rows v g.0),
    every_map (λ u. (0 < occ u.row t.under) × (0 < occ u.pivot t.left))
        (λ u. (0 < occ u.row rows) × (0 < occ u.pivot v)) ts
        (λ u e. (under_in t rows v g.0 u.row e.0, left_in t rows v g.0 u.pivot e.1))
        (inside ts t.under t.left g.1),
  )

  pub ops_good : (ts : List Step) (rows v : List ℕ) → Legal A ts rows v → Once rows → Each Good (ops_one A ts)
  ops_good [] rows v g o = tt
  ops_good (t ∷ ts) rows v g o =
      each_append Good (clears (λ y. A y t.pivot) t.row t.under) (ops_one A ts)
      (clears_good (λ y. A y t.pivot) t.row t.under (row_out t rows v g.0 o))
      (ops_good ts t.under t.left g.1 (under_once t rows v g.0 o))

  pub ops_within : (m : ℕ) (ts : List Step) (rows v : List ℕ) → Legal A ts rows v → ((y : ℕ) → 0 < occ y rows → y < m)
      → Each (Within m) (ops_one A ts)
  ops_within m [] rows v g b = tt
  ops_within m (t ∷ ts) rows v g b =
      each_append (Within m) (clears (λ y. A y t.pivot) t.row t.under) (ops_one A ts)
      (clears_within m (λ y. A y t.pivot) t.row t.under (b t.row (row_in t rows v g.0))
      (λ y k. b y (under_in t rows v g.0 y k)))
      (ops_within m ts t.under t.left g.1 (λ y k. b y (under_in t rows v g.0 y k)))

  -- what is left alone
  pub untouched : (ts : List Step) (rows v : List ℕ) → Legal A ts rows v → (w : ℕ → ℕ) → Octets w
      → (r : ℕ) → occ r rows ≡ 0 → run (ops_one A ts) w r ≡ w r
  untouched [] rows v g w h r z = refl
  untouched (t ∷ ts) rows v g w h r z =
      let os : List Op = clears (λ y. A y t.pivot) t.row t.under in
      let k : occ r t.under ≡ 0 = omega (arith, g.0.same r) in
      ap (λ (u : ℕ → ℕ). u r) (run-append os (ops_one A ts) w)
      ∙ untouched ts t.under t.left g.1 (run os w) (run_octet os w h) r k
      ∙ clears_miss (λ y. A y t.pivot) t.row t.under w h r k

  -- a column with zeros in all the rows
  pub idle_all : (ts : List Step) (rows v : List ℕ) → Legal A ts rows v → Once rows → (w : ℕ → ℕ) → Octets w
      → ((y : ℕ) → 0 < occ y rows → w y ≡ 0) → run (ops_one A ts) w ≡ w
  idle_all [] rows v g o w h z = refl
  idle_all (t ∷ ts) rows v g o w h z =
      run-append (clears (λ y. A y t.pivot) t.row t.under) (ops_one A ts) w
      ∙ ap (λ (u : ℕ → ℕ). run (ops_one A ts) u)
      (clears_idle (λ y. A y t.pivot) t.row t.under w h (z t.row (row_in t rows v g.0)) (row_out t rows v g.0 o))
      ∙ idle_all ts t.under t.left g.1 (under_once t rows v g.0 o) w h (λ y k. z y (under_in t rows v g.0 y k))

  -- one step
  module _ (t : Step) (rows v : List ℕ) (f : Fair A t rows v) (o : Once rows) (B : ℕ → ℕ → ℕ) (h : Entries B) (a : Agrees A B rows v) where
    abbrev C : ℕ → ℕ → ℕ
    C = runs (clears (λ y. A y t.pivot) t.row t.under) B

    step_under : (y q : ℕ) → 0 < occ y t.under → C y q ≡ add (B y q) (mul (A y t.pivot) (B t.row q))
    step_under y q k =
        clears_hit (λ y. A y t.pivot) t.row t.under (column B q) (λ r. h r q) (row_out t rows v f o) y
        (omega (arith, under_once t rows v f o y))

    step_other : (r q : ℕ) → occ r t.under ≡ 0 → C r q ≡ B r q
    step_other r q k = clears_miss (λ y. A y t.pivot) t.row t.under (column B q) (λ r. h r q) r k

    step_agrees : Agrees A C t.under t.left
    step_agrees y q k l =
        step_under y q k
        ∙ ap₂ (λ (b c : ℕ). add b (mul (A y t.pivot) c)) (a y q (under_in t rows v f y k) (left_in t rows v f q l))
        (a t.row q (row_in t rows v f) (left_in t rows v f q l) ∙ f.zeros q l)
        ∙ ap (λ (c : ℕ). add (A y q) c) (mul-zero (A y t.pivot))
        ∙ L.add-zero (A y q)

    step_clear : (ha : Entries A) (y : ℕ) → 0 < occ y t.under → C y t.pivot ≡ 0
    step_clear ha y k =
        step_under y t.pivot k
        ∙ ap₂ (λ (b c : ℕ). add b (mul (A y t.pivot) c)) (a y t.pivot (under_in t rows v f y k) (pivot_in t rows v f))
        (a t.row t.pivot (row_in t rows v f) (pivot_in t rows v f) ∙ f.one)
        ∙ ap (λ (c : ℕ). add (A y t.pivot) c) (L.mul_comm (A y t.pivot) 1 ∙ L.one-mul (A y t.pivot) (ha y t.pivot))
        ∙ L.add_self (A y t.pivot)

    step_row : (q : ℕ) → 0 < occ q v → C t.row q ≡ A t.row q
    step_row q l = step_other t.row q (row_out t rows v f o) ∙ a t.row q (row_in t rows v f) l

  -- on what is left of V, in the rows left, the matrix is the original one
  pub kept-v : (ts : List Step) (rows v : List ℕ) → Legal A ts rows v → Once rows → (B : ℕ → ℕ → ℕ) → Entries B → Agrees A B rows v
      → Agrees A (runs (ops_one A ts) B) (last-rows ts rows) (last-cols ts v)
  kept-v [] rows v g o B h a y q k l = a y q k l
  kept-v (t ∷ ts) rows v g o B h a y q k l =
      let os : List Op = clears (λ y. A y t.pivot) t.row t.under in
      ap (λ (u : ℕ → ℕ). u y) (run-append os (ops_one A ts) (column B q))
      ∙ kept-v ts t.under t.left g.1 (under_once t rows v g.0 o) (runs os B) (runs-entries os B h)
      (step_agrees t rows v g.0 o B h a) y q k l

  pub shape : (ts : List Step) (rows v : List ℕ) → Legal A ts rows v → Once rows → (B : ℕ → ℕ → ℕ) → Entries B → Entries A
      → Agrees A B rows v → Every (Unit_at A (runs (ops_one A ts) B) rows) ts
  shape [] rows v g o B h ha a = tt
  shape (t ∷ ts) rows v g o B h ha a = (
    (λ r k. whole r t.pivot ∙ here r k (same? r t.row)),
    every_map
        (λ u. ((0 < occ u.row t.under) × (0 < occ u.pivot t.left)) × Unit_at A D t.under u)
        (Unit_at A (runs (ops_one A (t ∷ ts)) B) rows) ts
        (λ u e r k. whole r u.pivot ∙ there u e.0 e.1 r k (same? r t.row))
        (every-both (λ u. (0 < occ u.row t.under) × (0 < occ u.pivot t.left)) (Unit_at A D t.under) ts
        (inside ts t.under t.left g.1)
        (shape ts t.under t.left g.1 (under_once t rows v g.0 o) (runs (clears (λ y. A y t.pivot) t.row t.under) B)
        (runs-entries (clears (λ y. A y t.pivot) t.row t.under) B h) ha (step_agrees t rows v g.0 o B h a))),
  )
    where
      os : List Op
      os = clears (λ y. A y t.pivot) t.row t.under

      E : ℕ → ℕ → ℕ
      E = runs os B

      D : ℕ → ℕ → ℕ
      D = runs (ops_one A ts) E

      whole : (r q : ℕ) → runs (ops_one A (t ∷ ts)) B r q ≡ D r q
      whole r q = ap (λ (u : ℕ → ℕ). u r) (run-append os (ops_one A ts) (column B q))

      he : Entries E
      he = runs-entries os B h

      out : occ t.row t.under ≡ 0
      out = row_out t rows v g.0 o

      beneath : (r : ℕ) → 0 < occ r rows → r ≢ t.row → 0 < occ r t.under
      beneath r k ne = omega (arith, g.0.same r, tick_ne r t.row ne)

      calm : run (ops_one A ts) (column E t.pivot) ≡ column E t.pivot
      calm = idle_all ts t.under t.left g.1 (under_once t rows v g.0 o) (column E t.pivot) (λ r. he r t.pivot)
          (step_clear t rows v g.0 o B h a ha)

      here : (r : ℕ) → 0 < occ r rows → Same? r t.row → D r t.pivot ≡ delta r t.row
      here r k (yes_same e) =
          ap (λ (u : ℕ → ℕ). u r) calm ∙ ap (λ (x : ℕ). E x t.pivot) e
          ∙ step_row t rows v g.0 o B h a t.pivot (pivot_in t rows v g.0) ∙ g.0.one ∙ sym (pick_eq r t.row 1 0 e)
      here r k (not_same ne) =
          ap (λ (u : ℕ → ℕ). u r) calm ∙ step_clear t rows v g.0 o B h a ha r (beneath r k ne) ∙ sym (pick_ne r t.row 1 0 ne)

      there : (u : Step) → (0 < occ u.row t.under) × (0 < occ u.pivot t.left) → Unit_at A D t.under u
          → (r : ℕ) → 0 < occ r rows → Same? r t.row → D r u.pivot ≡ delta r u.row
      there u w e r k (not_same ne) = e r (beneath r k ne)
      there u w e r k (yes_same p) =
          ap (λ (x : ℕ). D x u.pivot) p
          ∙ untouched ts t.under t.left g.1 (column E u.pivot) (λ x. he x u.pivot) t.row out
          ∙ step_row t rows v g.0 o B h a u.pivot (left_in t rows v g.0 u.pivot w.1)
          ∙ g.0.zeros u.pivot w.1
          ∙ sym (pick_ne r u.row 1 0 (λ x. apart (sym p ∙ x)))
        where
          apart : t.row ≢ u.row
          apart x = let z : occ u.row t.under ≡ 0 = ap (λ (k : ℕ). occ k t.under) (sym x) ∙ out in omega (arith, w.0)

  -- and the chosen rows have zeros in what is left of V
  pub shape-clear : (ts : List Step) (rows v : List ℕ) → Legal A ts rows v → Once rows → (B : ℕ → ℕ → ℕ) → Entries B → Agrees A B rows v
      → Every (λ t. (q : ℕ) → 0 < occ q (last-cols ts v) → runs (ops_one A ts) B t.row q ≡ 0) ts
  shape-clear [] rows v g o B h a = tt
  shape-clear (t ∷ ts) rows v g o B h a = (
    (λ q l. whole t.row q
        ∙ untouched ts t.under t.left g.1 (column (runs os B) q) (λ x. runs-entries os B h x q) t.row (row_out t rows v g.0 o)
        ∙ step_row t rows v g.0 o B h a q (left_in t rows v g.0 q (stays q l)) ∙ g.0.zeros q (stays q l)),
    every_map (λ u. (q : ℕ) → 0 < occ q (last-cols ts t.left) → runs (ops_one A ts) (runs os B) u.row q ≡ 0)
        (λ u. (q : ℕ) → 0 < occ q (last-cols ts t.left) → runs (ops_one A (t ∷ ts)) B u.row q ≡ 0) ts (λ u e q l. whole u.row q ∙ e q l)
        (shape-clear ts t.under t.left g.1 (under_once t rows v g.0 o) (runs os B) (runs-entries os B h) (step_agrees t rows v g.0 o B h a)),
  )
    where
      os : List Op
      os = clears (λ y. A y t.pivot) t.row t.under

      whole : (r q : ℕ) → runs (ops_one A (t ∷ ts)) B r q ≡ runs (ops_one A ts) (runs os B) r q
      whole r q = ap (λ (u : ℕ → ℕ). u r) (run-append os (ops_one A ts) (column B q))

      stays : (q : ℕ) → 0 < occ q (last-cols ts t.left) → 0 < occ q t.left
      stays q l = omega (arith, cols-kept ts t.under t.left g.1 q)

  pub triangle : (ts : List Step) (rows v : List ℕ) → Legal A ts rows v → Triangle A ts
  triangle [] rows v g = tt
  triangle (t ∷ ts) rows v g = (
    g.0.one,
    every_map (λ u. (0 < occ u.row t.under) × (0 < occ u.pivot t.left)) (λ u. A t.row u.pivot ≡ 0) ts (λ u e. g.0.zeros u.pivot e.1)
        (inside ts t.under t.left g.1),
    triangle ts t.under t.left g.1,
  )
