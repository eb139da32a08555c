-- The whole list: any legal phase one, any working phase two that reaches every column, and phases three to five reduce the matrix.
--   G-first, G-second        the matrix after phase two
--   undone, kept_off, four_leaves, cleared, final   and after phases three, four and five
--   reduces                  the list reduces the matrix
-- Assumes nothing.
use Rattle.std.specs.Prelude.{◌≡◌, refl, ◌≢◌, ◌⊎◌, List, [], ◌++◌, ℕ, ◌+◌, ◌-◌, ◌<◌, ◌≤◌}
use Rattle.std.proofs.Common.{sym, ap, ap₂, ◌∙◌, subst, inl, inr, arith}
use Rattle.octet.specs.Field as L
use Rattle.octet.specs.Field.{Octets}
use Rattle.octet.specs.Octet.{add}
use Rattle.oplist.specs.Ops.{Each, each_append}
use Rattle.oplist.specs.declared.Op.{Op}
use Rattle.algebra.proofs.Loops.{restored}
use Rattle.algebra.specs.Rows.{undo, run, runs, column, run_octet, run-append, Good, Within}
use Rattle.algebra.proofs.Rows.{undo-run, good_undo, within_undo}
use Rattle.algebra.specs.Solve.{Reduces}
use Rattle.algebra.specs.Sums.{pick_eq, pick_ne, delta}
use Rattle.phases.specs.Finish.{On, From, run_alike, run_off, run_none, on-undo, kept-each, kept_on, kept_run, Column}
use Rattle.phases.proofs.Finish.{one_from, four_idle, four-other, four_hit, four-each}
use Rattle.phases.specs.Gauss.{works_kept, Stairs, falls, ops_two, above}
use Rattle.phases.proofs.Gauss.{works_other, works_idle, works_good, works_within, stairs, units, back_idle, back-other, back_good, back_within}
use Rattle.phases.specs.Occ.{occ, Same?, yes_same, not_same, same?, Once, Member}
use Rattle.phases.specs.One.{Step, rows_of, pivots_of, ops_one}
use Rattle.phases.specs.Rest.{phase_four}
use Rattle.phases.specs.Sweep.{Entries, runs-entries, last-rows, rows-kept, Unit_at}
use Rattle.phases.proofs.Sweep.{shape, ops_good, ops_within}
use Rattle.phases.specs.Solved.{Among, Course, among_split, every-at, every_of, found, left_under, list_kept, named, one-column, pivot_among, pivots_append, row_among, row_of, rows_append, the_list}

module _ (m n : ℕ) (A : ℕ → ℕ → ℕ) (rows v : List ℕ) (ts us : List Step) (c : Course m n A rows v ts us) where
  abbrev xs : List ℕ
  xs = rows_of ts

  abbrev rest : List ℕ
  rest = last-rows ts rows

  abbrev one : List Op
  one = ops_one A ts

  abbrev B : ℕ → ℕ → ℕ
  B = runs one A

  abbrev two : List Op
  two = ops_two B us

  abbrev D : ℕ → ℕ → ℕ
  D = runs two B

  abbrev back : List Op
  back = above D [] us

  abbrev G : ℕ → ℕ → ℕ
  G = runs back D

  abbrev K : List Op
  K = list_kept A ts

  abbrev four : List Op
  four = phase_four A xs us

  hb : Entries B
  hb = runs-entries one A c.entries

  hd : Entries D
  hd = runs-entries two B hb

  hg : Entries G
  hg = runs-entries back D hd

  rest_once : Once rest
  rest_once y = omega (arith, c.once y, rows-kept A ts rows v c.legal y)

  xs_once : Once xs
  xs_once y = omega (arith, c.once y, rows-kept A ts rows v c.legal y)

  parted : (y : ℕ) → Member xs y → occ y rest ≡ 0
  parted y k = omega (arith, c.once y, rows-kept A ts rows v c.legal y)

  us_once : (y : ℕ) → 0 + occ y (rows_of us) ≤ 1
  us_once y = omega (arith, rest_once y, works_kept B us rest c.works y)

  us_in : (y : ℕ) → Member (rows_of us) y → Member rest y
  us_in y k = omega (arith, works_kept B us rest c.works y)

  us_out : (y : ℕ) → Member xs y → occ y (rows_of us) ≡ 0
  us_out y k = omega (arith, parted y k, works_kept B us rest c.works y)

  us_off : (y : ℕ) → Member (rows_of us) y → occ y xs ≡ 0
  us_off y k = omega (arith, us_in y k, c.once y, rows-kept A ts rows v c.legal y)

  rest_off : (y : ℕ) → Member rest y → occ y xs ≡ 0
  rest_off y k = omega (arith, c.once y, rows-kept A ts rows v c.legal y)

  -- phase two leaves the chosen rows
  G-chosen : (x q : ℕ) → Member xs x → G x q ≡ B x q
  G-chosen x q k =
      back-other D [] us (column D q) (λ r. hd r q) x (omega (arith, us_out x k))
      ∙ works_other B us rest c.works (column B q) (λ r. hb r q) x (parted x k)

  -- and phase one's columns
  pub G-first : (t : Step) → Among t ts → (r : ℕ) → Member rows r → G r t.pivot ≡ delta r t.row
  G-first t a r k =
      ap (λ (u : ℕ → ℕ). u r) (ap (λ (w : ℕ → ℕ). run back w) calm
      ∙ back_idle D [] us us_once (column B t.pivot) (λ x. hb x t.pivot) (λ y j. zeros y (us_in y j)))
      ∙ at r k
    where
      at : Unit_at A B rows t
      at = every-at (Unit_at A B rows) ts t (shape A ts rows v c.legal c.once A c.entries c.entries (λ y q i j. refl)) a

      zeros : (y : ℕ) → Member rest y → B y t.pivot ≡ 0
      zeros y k =
          at y (omega (arith, rows-kept A ts rows v c.legal y))
          ∙ pick_ne y t.row 1 0 (λ e. (let z : occ t.row xs ≡ 0 = ap (λ (x : ℕ). occ x xs) (sym e) ∙ rest_off y k in omega (arith, row_among t ts a)))

      calm : run two (column B t.pivot) ≡ column B t.pivot
      calm = works_idle B us rest c.works rest_once (column B t.pivot) (λ x. hb x t.pivot) zeros

  -- phase two's columns
  pub G-second : (u : Step) → Among u us → (r : ℕ) → Member rest r → G r u.pivot ≡ delta r u.row
  G-second u a r k = at (same? (occ r (rows_of us)) 0)
    where
      st : Stairs D us
      st = stairs B us rest c.works rest_once hb

      at : Same? (occ r (rows_of us)) 0 → G r u.pivot ≡ delta r u.row
      at (yes_same z) =
          back-other D [] us (column D u.pivot) (λ x. hd x u.pivot) r (omega arith)
          ∙ (every-at (λ t. (D t.row t.pivot ≡ 1) × ((y : ℕ) → Member t.under y → D y t.pivot ≡ 0)) us u st a).1 r
          (every-at (λ t. (y : ℕ) → Member (last-rows us rest) y → Member t.under y) us u (left_under B us rest c.works) a r
          (omega (arith, works_kept B us rest c.works r)))
          ∙ sym (pick_ne r u.row 1 0 (λ e. (let i : occ u.row (rows_of us) ≡ 0 = ap (λ (x : ℕ). occ x (rows_of us)) (sym e) ∙ z in omega (arith, row_among u us a))))
      at (not_same z) =
          every-at (λ t. (r : ℕ) → 0 < 0 + occ r (rows_of us) → G r t.pivot ≡ delta r t.row) us u
          (units D [] us us_once hd (falls D B us rest c.works st)) a r (omega arith)

  -- phases three to five
  good_one : Each Good one
  good_one = ops_good A ts rows v c.legal c.once

  froms : Each (From xs) one
  froms = one_from A ts xs (λ y k. k)

  K-on : Each (On xs) K
  K-on = kept_on xs one froms

  K_good : Each Good K
  K_good = kept-each Good xs one good_one

  undo-on : Each (On xs) (undo K)
  undo-on = on-undo xs K K-on

  -- phase three undoes phase one in the chosen rows
  pub undone : (q x : ℕ) → Member xs x → run (undo K) (column G q) x ≡ A x q
  undone q x k =
      run_alike xs (undo K) (column G q) (run K (column A q)) undo-on
      (λ r j. G-chosen r q j ∙ kept_run xs one (column A q) (column A q) froms (λ y i. refl) r j) x k
      ∙ ap (λ (u : ℕ → ℕ). u x) (undo-run K (column A q) K_good (λ r. c.entries r q))

  pub kept_off : (q r : ℕ) → occ r xs ≡ 0 → run (undo K) (column G q) r ≡ G r q
  kept_off q r z = run_off xs (undo K) (column G q) undo-on r z

  abbrev last : List Op
  last = undo K ++ four ++ K

  -- phase one's columns have zeros in the rows of phase two, so phase four leaves them
  zero-at : (t : Step) → Among t ts → (u : Step) → Among u us → run (undo K) (column G t.pivot) u.row ≡ 0
  zero-at t a u b =
      kept_off t.pivot u.row (us_off u.row (row_among u us b))
      ∙ G-first t a u.row (omega (arith, us_in u.row (row_among u us b), rows-kept A ts rows v c.legal u.row))
      ∙ pick_ne u.row t.row 1 0
      (λ e. (let z : occ t.row xs ≡ 0 = ap (λ (x : ℕ). occ x xs) (sym e) ∙ us_off u.row (row_among u us b) in omega (arith, row_among t ts a)))

  pub four_leaves : (t : Step) → Among t ts → run four (run (undo K) (column G t.pivot)) ≡ run (undo K) (column G t.pivot)
  four_leaves t a =
      four_idle A xs us (run (undo K) (column G t.pivot)) (run_octet (undo K) (column G t.pivot) (λ x. hg x t.pivot))
      (every_of (λ u. run (undo K) (column G t.pivot) u.row ≡ 0) us (zero-at t a))

  last-first : (t : Step) → Among t ts → (r : ℕ) → Member rows r → run last (column G t.pivot) r ≡ delta r t.row
  last-first t a r k =
      ap (λ (u : ℕ → ℕ). u r) (restored K four (column G t.pivot) K_good (λ x. hg x t.pivot) (four_leaves t a)) ∙ G-first t a r k

  -- phase two's columns
  module _ (u : Step) (a : Among u us) where
    abbrev w : ℕ → ℕ
    w = run (undo K) (column G u.pivot)

    hw : Octets w
    hw = run_octet (undo K) (column G u.pivot) (λ x. hg x u.pivot)

    single : occ u.pivot (pivots_of us) ≡ 1
    single = omega (arith, c.apart u.pivot, pivots_append ts us u.pivot, pivot_among u us a)

    holds : Column A u.pivot w us
    holds = every_of (λ t. w t.row ≡ delta t.pivot u.pivot) us
        (λ t b. kept_off u.pivot t.row (us_off t.row (row_among t us b))
        ∙ G-second u a t.row (us_in t.row (row_among t us b)) ∙ turn t b (same? t.row u.row) (same? t.pivot u.pivot))
      where
        turn : (t : Step) → Among t us → Same? t.row u.row → Same? t.pivot u.pivot → delta t.row u.row ≡ delta t.pivot u.pivot
        turn t b (yes_same p) (yes_same q) = pick_eq t.row u.row 1 0 p ∙ sym (pick_eq t.pivot u.pivot 1 0 q)
        turn t b (yes_same p) (not_same q) = absurd (q (one-column us (λ y. us_once' y) t u b a p))
          where
            us_once' : Once (rows_of us)
            us_once' y = omega (arith, us_once y)
        turn t b (not_same p) (not_same q) = pick_ne t.row u.row 1 0 p ∙ sym (pick_ne t.pivot u.pivot 1 0 q)
        turn t b (not_same p) (yes_same q) = absurd (p (sym (named us t (subst (λ (x : ℕ). occ x (pivots_of us) ≡ 1) (sym q) single) b)
            ∙ ap (λ (x : ℕ). row_of x us) q ∙ named us u single a))

    -- are cleared in the chosen rows by phase four
    pub cleared : (x : ℕ) → Member xs x → run four w x ≡ 0
    cleared x i =
        four_hit A xs u.pivot us w hw c.entries xs_once us_out single holds x i
        ∙ ap (λ (z : ℕ). add z (A x u.pivot)) (undone u.pivot x i) ∙ L.add_self (A x u.pivot)

    last-second : (r : ℕ) → Member rows r → run last (column G u.pivot) r ≡ delta r u.row
    last-second r k =
        ap (λ (f : ℕ → ℕ). f r) (run-append (undo K ++ four) K (column G u.pivot) ∙ ap (λ (f : ℕ → ℕ). run K f) (run-append (undo K) four (column G u.pivot)))
        ∙ ap (λ (f : ℕ → ℕ). f r) (run_none xs K (run four w) K-on K_good cleared)
        ∙ at (same? (occ r xs) 0)
      where
        at : Same? (occ r xs) 0 → run four w r ≡ delta r u.row
        at (yes_same z) =
            four-other A xs us w hw r z ∙ kept_off u.pivot r z ∙ G-second u a r (omega (arith, rows-kept A ts rows v c.legal r))
        at (not_same z) =
            cleared r (omega arith)
            ∙ sym (pick_ne r u.row 1 0 (λ e. (let i : occ u.row xs ≡ occ r xs = ap (λ (x : ℕ). occ x xs) (sym e) in omega (arith, us_off u.row (row_among u us a)))))

  -- the whole list, column by column
  joined : (q r : ℕ) → runs (the_list A ts us) A r q ≡ run last (column G q) r
  joined q r =
      ap (λ (f : ℕ → ℕ). f r) (run-append (one ++ (two ++ back) ++ undo K ++ four) K (column A q)
      ∙ ap (λ (f : ℕ → ℕ). run K f) (run-append (one ++ (two ++ back) ++ undo K) four (column A q)
      ∙ ap (λ (f : ℕ → ℕ). run four f) (run-append (one ++ (two ++ back)) (undo K) (column A q)
      ∙ ap (λ (f : ℕ → ℕ). run (undo K) f) (run-append one (two ++ back) (column A q) ∙ run-append two back (column B q))))
      ∙ sym (run-append (undo K ++ four) K (column G q) ∙ ap (λ (f : ℕ → ℕ). run K f) (run-append (undo K) four (column G q))))

  -- each step's column ends as the unit at the step's row
  pub final : (t : Step) → Among t (ts ++ us) → (r : ℕ) → Member rows r → runs (the_list A ts us) A r t.pivot ≡ delta r t.row
  final t a r k = joined t.pivot r ∙ at (among_split t ts us a)
    where
      at : Among t ts ⊎ Among t us → run last (column G t.pivot) r ≡ delta r t.row
      at (inl b) = last-first t b r k
      at (inr b) = last-second t b r k

  low : (y : ℕ) → Member rest y → y < m
  low y k = c.below y (omega (arith, rows-kept A ts rows v c.legal y))

  low_x : (y : ℕ) → Member xs y → y < m
  low_x y k = c.below y (omega (arith, rows-kept A ts rows v c.legal y))

  list_each : (P : Op → Type 0) → Each P one → Each P (two ++ back) → Each P (undo K) → Each P four → Each P K → Each P (the_list A ts us)
  list_each P a b d e f =
      each_append P (one ++ (two ++ back) ++ undo K ++ four) K
      (each_append P (one ++ (two ++ back) ++ undo K) four
      (each_append P (one ++ (two ++ back)) (undo K) (each_append P one (two ++ back) a b) d) e) f

  all_good : Each Good (the_list A ts us)
  all_good = list_each Good good_one
      (each_append Good two back (works_good B us rest c.works rest_once hb) (back_good D [] us us_once))
      (good_undo K K_good)
      (four-each A Good xs us (λ x y i j. differ x y i j) (λ x y k i j. differ x y i j)) K_good
    where
      differ : (x y : ℕ) → Member xs x → Member (rows_of us) y → y ≢ x
      differ x y i j e = let z : occ y xs ≡ occ x xs = ap (λ (k : ℕ). occ k xs) e in omega (arith, us_off y j)

  within_one : Each (Within m) one
  within_one = ops_within A m ts rows v c.legal c.below

  all_within : Each (Within m) (the_list A ts us)
  all_within = list_each (Within m) within_one
      (each_append (Within m) two back (works_within m B us rest c.works low)
      (back_within D m [] us (λ y k. low y (us_in y (omega arith)))))
      (within_undo m K (kept-each (Within m) xs one within_one))
      (four-each A (Within m) xs us (λ x y i j. (low_x x i, low y (us_in y j))) (λ x y k i j. (low_x x i, low y (us_in y j))))
      (kept-each (Within m) xs one within_one)

  -- the list reduces the matrix
  pub reduces : Reduces m n (the_list A ts us) A (λ j. row_of j (ts ++ us))
  reduces = record {
    good = all_good;
    within = all_within;
    place = λ j l. subst (λ (x : ℕ). x < m) (sym (order j l)) (c.below (step j l).row (in_rows (step j l) (is-step j l)));
    unit = λ j k l q.
        ap₂ (λ (x y : ℕ). runs (the_list A ts us) A x y) (order j l) (sym (at j' k q))
        ∙ final (step k q) (is-step k q) (step j l).row (in_rows (step j l) (is-step j l))
        ∙ turn j k l q (same? (step j l).row (step k q).row) (same? j k);
    clear = λ r l un k q.
        ap (λ (y : ℕ). runs (the_list A ts us) A r y) (sym (at r k q))
        ∙ final (step k q) (is-step k q) r (c.all r l)
        ∙ pick_ne r (step k q).row 1 0 (λ e. un k q (order k q ∙ sym e));
  }
    where
      j' : ℕ
      j' = 0

      find : (j : ℕ) → j < n → (t : Step) × Among t (ts ++ us) × (t.pivot ≡ j)
      find j l = found j (ts ++ us) (omega (arith, c.every j l))

      step : (j : ℕ) → j < n → Step
      step j l = (find j l).0

      is-step : (j : ℕ) (l : j < n) → Among (step j l) (ts ++ us)
      is-step j l = (find j l).1

      at : (i j : ℕ) (l : j < n) → (step j l).pivot ≡ j
      at i j l = (find j l).2

      in_rows : (t : Step) → Among t (ts ++ us) → Member rows t.row
      in_rows t a =
          omega (arith, row_among t (ts ++ us) a, rows_append ts us t.row, rows-kept A ts rows v c.legal t.row, works_kept B us rest c.works t.row)

      order : (j : ℕ) (l : j < n) → row_of j (ts ++ us) ≡ (step j l).row
      order j l =
          ap (λ (x : ℕ). row_of x (ts ++ us)) (sym (at j j l))
          ∙ named (ts ++ us) (step j l) (subst (λ (x : ℕ). occ x (pivots_of (ts ++ us)) ≡ 1) (sym (at j j l)) (c.every j l)) (is-step j l)

      all_once : Once (rows_of (ts ++ us))
      all_once y =
          omega (arith, rows_append ts us y, rows-kept A ts rows v c.legal y, works_kept B us rest c.works y, c.once y)

      turn : (j k : ℕ) (l : j < n) (q : k < n) → Same? (step j l).row (step k q).row → Same? j k
          → delta (step j l).row (step k q).row ≡ delta j k
      turn j k l q (yes_same a) (yes_same b) = pick_eq (step j l).row (step k q).row 1 0 a ∙ sym (pick_eq j k 1 0 b)
      turn j k l q (yes_same a) (not_same b) =
          absurd (b (sym (at j j l) ∙ one-column (ts ++ us) all_once (step j l) (step k q) (is-step j l) (is-step k q) a ∙ at k k q))
      turn j k l q (not_same a) (not_same b) = pick_ne (step j l).row (step k q).row 1 0 a ∙ sym (pick_ne j k 1 0 b)
      turn j k l q (not_same a) (yes_same b) = absurd (a (sym (order j l) ∙ ap (λ (x : ℕ). row_of x (ts ++ us)) b ∙ order k q))
