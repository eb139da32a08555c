-- The vector of a run that stops: it is sent to zeros, and is not all zeros.
--   chain-cols       a run's columns are those of its steps and the one without pivot
--   chosen_apart      each chosen row has zeros at the columns of later ones
--   singular                 what its vector is
-- Assumes nothing.
use Rattle.std.specs.Prelude.{◌≡◌, refl, Bool, true, false, cond, List, [], ◌∷◌, ◌++◌, ℕ, ◌+◌, ◌-◌, ◌<◌, eqb}
use Rattle.std.proofs.Common.{sym, ap, ap₂, ◌∙◌, subst, inl, inr, not-suc-le-zero, arith, lit<, eq-eqb, ne_eqb}
use Rattle.std.proofs.Math.Path.{fun_ext}
use Rattle.octet.specs.Field as L
use Rattle.octet.specs.Field.{Octet, Octets, zero-add}
use Rattle.octet.specs.Octet.{add, mul}
use Rattle.oplist.specs.Ops.{Each, each_append}
use Rattle.oplist.specs.declared.Op.{Op}
use Rattle.algebra.specs.Rows.{runs, column, run-append, Good, Within}
use Rattle.algebra.specs.Solve.{Makes}
use Rattle.algebra.proofs.Solve.{kernel_back}
use Rattle.algebra.specs.Sums.{pick_eq, pick_ne, delta}
use Rattle.phases.specs.Gauss.{works_kept, Stairs, falls, Falls, ops_two}
use Rattle.phases.proofs.Gauss.{works_idle, works_good, works_within, stairs}
use Rattle.phases.specs.Occ.{tick, occ, tick_eq, tick_ne, Same?, yes_same, not_same, same?, Once, Member}
use Rattle.phases.specs.One.{Step, rows_of, pivots_of, ops_one}
use Rattle.phases.specs.Solved.{Among, every-at, every_of, row_among, rows_append, left_under}
use Rattle.phases.specs.Sweep.{Every, Entries, runs-entries, last-rows, rows-kept, Unit_at}
use Rattle.phases.proofs.Sweep.{shape, ops_good, ops_within}
use Rattle.phases.specs.Kernel.{Apart, Halt, Small, Value, chain, cols_of, dot-weigh, value_of, vs, weighs}

weigh_octet : (row : ℕ → ℕ) (vs : List Value) → Octet (weighs row vs)
weigh_octet row [] = lit< tt
weigh_octet row (a ∷ vs) = L.add_octet (weighs row vs) (mul (row a.col) a.val) (weigh_octet row vs) (L.mul_octet (row a.col) a.val)

value_octet : (vs : List Value) → Small vs → Octets (λ k. value_of k vs)
value_octet [] h k = lit< tt
value_octet (a ∷ vs) h k = go (eqb k a.col) (value_octet vs h.1 k)
  where
    go : (b : Bool) → Octet (value_of k vs) → Octet (cond b a.val (value_of k vs))
    go true r = h.0
    go false r = r

-- the values by substitution
module _ (D : ℕ → ℕ → ℕ) (q : ℕ) where
  pub chain-cols : (ts : List Step) (y : ℕ) → occ y (cols_of (chain D ts q)) ≡ occ y (pivots_of ts) + tick (eqb y q)
  chain-cols [] y = omega arith
  chain-cols (t ∷ ts) y = let e : occ y (cols_of (chain D ts q)) ≡ occ y (pivots_of ts) + tick (eqb y q) = chain-cols ts y in omega arith

  chain_small : (ts : List Step) → Small (chain D ts q)
  chain_small [] = (lit< tt, tt)
  chain_small (t ∷ ts) = (weigh_octet (D t.row) (chain D ts q), chain_small ts)

  -- a row without a nonzero in these columns
  weigh-none : (row : ℕ → ℕ) (ts : List Step) → Every (λ t. row t.pivot ≡ 0) ts → row q ≡ 0 → weighs row (chain D ts q) ≡ 0
  weigh-none row [] e z = zero-add (mul (row q) 1) ∙ ap (λ (x : ℕ). mul x 1) z ∙ L.zero-mul 1
  weigh-none row (t ∷ ts) e z =
      ap₂ (λ (x y : ℕ). add x (mul y (weighs (D t.row) (chain D ts q)))) (weigh-none row ts e.1 z) e.0
      ∙ zero-add (mul 0 (weighs (D t.row) (chain D ts q))) ∙ L.zero-mul (weighs (D t.row) (chain D ts q))

  -- the steps' own rows
  weigh-steps : (ts : List Step) → Falls D ts → (y : ℕ) → Member (rows_of ts) y → weighs (D y) (chain D ts q) ≡ 0
  weigh-steps [] f y k = absurd (not-suc-le-zero k)
  weigh-steps (t ∷ ts) f y k = go (same? y t.row) (same? (occ y (rows_of ts)) 0) (λ j. weigh-steps ts f.2 y j)
    where
      val : ℕ
      val = weighs (D t.row) (chain D ts q)

      go : Same? y t.row → Same? (occ y (rows_of ts)) 0 → (Member (rows_of ts) y → weighs (D y) (chain D ts q) ≡ 0)
          → weighs (D y) (chain D (t ∷ ts) q) ≡ 0
      go s (not_same z) rec =
          ap₂ (λ (a b : ℕ). add a (mul b val)) (rec (omega arith)) (f.1 y (omega arith)) ∙ zero-add (mul 0 val) ∙ L.zero-mul val
      go (yes_same e) (yes_same z) rec =
          ap (λ (x : ℕ). add (weighs (D x) (chain D ts q)) (mul (D x t.pivot) val)) e
          ∙ ap (λ (x : ℕ). add val x) (ap (λ (x : ℕ). mul x val) f.0 ∙ L.one-mul val (weigh_octet (D t.row) (chain D ts q)))
          ∙ L.add_self val
      go (not_same e) (yes_same z) rec = absurd (let j : tick (eqb y t.row) ≡ 0 = tick_ne y t.row e in omega arith)

  value-one : (ts : List Step) → occ q (pivots_of ts) ≡ 0 → value_of q (chain D ts q) ≡ 1
  value-one [] z = ap (λ (b : Bool). cond b 1 0) (eq-eqb q q refl)
  value-one (t ∷ ts) z = go (same? q t.pivot) (λ k. value-one ts k)
    where
      go : Same? q t.pivot → (occ q (pivots_of ts) ≡ 0 → value_of q (chain D ts q) ≡ 1) → value_of q (chain D (t ∷ ts) q) ≡ 1
      go (yes_same e) rec = absurd (let k : tick (eqb q t.pivot) ≡ 1 = tick_eq q t.pivot e in omega arith)
      go (not_same e) rec =
          ap (λ (b : Bool). cond b (weighs (D t.row) (chain D ts q)) (value_of q (chain D ts q))) (ne_eqb q t.pivot e) ∙ rec (omega arith)

module _ (m n q : ℕ) (A : ℕ → ℕ → ℕ) (rows v : List ℕ) (ts us : List Step) (c : Halt m n q A rows v ts us) where
  abbrev one : List Op
  one = ops_one A ts

  abbrev B : ℕ → ℕ → ℕ
  B = runs one A

  abbrev two : List Op
  two = ops_two B us

  abbrev D : ℕ → ℕ → ℕ
  D = runs two B

  abbrev rest : List ℕ
  rest = last-rows ts rows

  hb : Entries B
  hb = runs-entries one A c.entries

  rest_once : Once rest
  rest_once y = omega (arith, c.once y, rows-kept A ts rows v c.legal y)

  in_rest : (y : ℕ) → Member rest y → Member rows y
  in_rest y k = omega (arith, rows-kept A ts rows v c.legal y)

  -- phase one's columns are units still
  unit-first : (t : Step) → Among t ts → (r : ℕ) → Member rows r → D r t.pivot ≡ delta r t.row
  unit-first t a r k =
      ap (λ (w : ℕ → ℕ). w r) (works_idle B us rest c.works rest_once (column B t.pivot) (λ x. hb x t.pivot) zeros) ∙ at r k
    where
      at : Unit_at A B rows t
      at = every-at (Unit_at A B rows) ts t (shape A ts rows v c.legal c.once A c.entries c.entries (λ y p i j. refl)) a

      zeros : (y : ℕ) → Member rest y → B y t.pivot ≡ 0
      zeros y k =
          at y (in_rest y k)
          ∙ pick_ne y t.row 1 0 (λ e. (let z : occ t.row rest ≡ occ y rest = ap (λ (x : ℕ). occ x rest) (sym e) in
          omega (arith, row_among t ts a, c.once t.row, rows-kept A ts rows v c.legal t.row)))

  -- so each chosen row has zeros at the columns of later ones
  pub chosen_apart : Apart D ts
  chosen_apart = go ts (λ t a. a) (λ y. omega (arith, c.once y, rows-kept A ts rows v c.legal y))
    where
      go : (ss : List Step) → ((t : Step) → Among t ss → Among t ts) → Once (rows_of ss) → Apart D ss
      go [] i o = tt
      go (t ∷ ss) i o = (
        every_of (λ s. D t.row s.pivot ≡ 0) ss (λ s a.
            unit-first s (i s (inr a)) t.row (omega (arith, rows-kept A ts rows v c.legal t.row, row_among t ts (i t (inl refl))))
            ∙ pick_ne t.row s.row 1 0 (λ e. (let k : tick (eqb s.row t.row) ≡ 1 = tick_eq s.row t.row (sym e) in
            omega (arith, o s.row, row_among s ss a)))),
        go ss (λ s a. i s (inr a)) (λ y. omega (arith, o y)),
      )

  st : Stairs D us
  st = stairs B us rest c.works rest_once hb

  all_once : Once (rows_of (ts ++ us))
  all_once y = omega (arith, rows_append ts us y, rows-kept A ts rows v c.legal y, works_kept B us rest c.works y, c.once y)

  all_in : (y : ℕ) → Member (rows_of (ts ++ us)) y → Member rows y
  all_in y k = omega (arith, rows_append ts us y, rows-kept A ts rows v c.legal y, works_kept B us rest c.works y)

  -- units, then stairs
  fall : (ss : List Step) → ((t : Step) → Among t ss → (r : ℕ) → Member rows r → D r t.pivot ≡ delta r t.row)
      → Once (rows_of (ss ++ us)) → ((y : ℕ) → Member (rows_of (ss ++ us)) y → Member rows y) → Falls D (ss ++ us)
  fall [] f o i = falls D B us rest c.works st
  fall (t ∷ ss) f o i = (
    f t (inl refl) t.row (i t.row (omega (arith, tk))) ∙ pick_eq t.row t.row 1 0 refl,
    λ y k. f t (inl refl) y (i y (omega arith))
        ∙ pick_ne y t.row 1 0 (λ e. (let z : tick (eqb y t.row) ≡ 1 = tick_eq y t.row e in omega (arith, o y))),
    fall ss (λ u a. f u (inr a)) (λ y. omega (arith, o y)) (λ y k. i y (omega arith)),
  )
    where
      tk : tick (eqb t.row t.row) ≡ 1
      tk = tick_eq t.row t.row refl

  -- the rows left have no nonzero in these columns
  blank : (y : ℕ) → Member (last-rows us rest) y → Every (λ t. D y t.pivot ≡ 0) (ts ++ us)
  blank y k = go ts (λ t a. unit-first t a y (in_rest y iny) ∙ pick_ne y t.row 1 0 (λ e.
      (let z : occ t.row rest ≡ occ y rest = ap (λ (x : ℕ). occ x rest) (sym e) in
      omega (arith, iny, row_among t ts a, c.once t.row, rows-kept A ts rows v c.legal t.row))))
    where
      iny : Member rest y
      iny = omega (arith, works_kept B us rest c.works y)

      second : (ws : List Step) → Stairs D ws → Every (λ u. (z : ℕ) → Member (last-rows us rest) z → Member u.under z) ws → Every (λ t. D y t.pivot ≡ 0) ws
      second [] s l = tt
      second (w ∷ ws) s l = (s.0.1 y (l.0 y k), second ws s.1 l.1)

      go : (ss : List Step) → ((t : Step) → Among t ss → D y t.pivot ≡ 0) → Every (λ t. D y t.pivot ≡ 0) (ss ++ us)
      go [] f = second us st (left_under B us rest c.works)
      go (t ∷ ss) f = (f t (inl refl), go ss (λ u a. f u (inr a)))

  sent : Makes m n D (λ k. value_of k (vs m n q A rows v ts us c)) (λ _. 0)
  sent r l =
      dot-weigh n (D r) (vs m n q A rows v ts us c) (λ y. omega (arith, chain-cols D q (ts ++ us) y, c.apart y))
      (λ y k. c.column y (omega (arith, chain-cols D q (ts ++ us) y)))
      ∙ go (same? (occ r (rows_of (ts ++ us))) 0)
    where
      go : Same? (occ r (rows_of (ts ++ us))) 0 → weighs (D r) (vs m n q A rows v ts us c) ≡ 0
      go (not_same z) = weigh-steps D q (ts ++ us) (fall ts unit-first all_once all_in) r (omega arith)
      go (yes_same z) = weigh-none D q (D r) (ts ++ us) (blank r left) (c.none r left)
        where
          left : Member (last-rows us rest) r
          left = omega (arith, c.all r l, rows_append ts us r, rows-kept A ts rows v c.legal r, works_kept B us rest c.works r)

  good : Each Good (one ++ two)
  good = each_append Good one two (ops_good A ts rows v c.legal c.once) (works_good B us rest c.works rest_once hb)

  within : Each (Within m) (one ++ two)
  within = each_append (Within m) one two (ops_within A m ts rows v c.legal c.below)
      (works_within m B us rest c.works (λ y k. c.below y (in_rest y k)))

  -- the vector is sent to zeros, is 1 at the column without pivot, and holds octets
  pub singular : Makes m n A (λ k. value_of k (vs m n q A rows v ts us c)) (λ _. 0) × (value_of q (vs m n q A rows v ts us c) ≡ 1) × Octets (λ k. value_of k (vs m n q A rows v ts us c))
  singular = (
    kernel_back m n (one ++ two) A good within (λ k. value_of k (vs m n q A rows v ts us c))
        (subst (λ (M : ℕ → ℕ → ℕ). Makes m n M (λ k. value_of k (vs m n q A rows v ts us c)) (λ _. 0))
        (sym (fun_ext (λ r. fun_ext (λ p. ap (λ (w : ℕ → ℕ). w r) (run-append one two (column A p)))))) sent),
    value-one D q (ts ++ us) (omega (arith, c.apart q, tick_eq q q refl)),
    value_octet (vs m n q A rows v ts us c) (chain_small D q (ts ++ us)),
  )
