-- How long the defined list can be, so that rooms can be planned.
--   steps_few         phase one takes no more steps than V has columns at first
--   list_cost         the list of a run is no longer than its cost
--   list_longest      and no longer than the longest of its shape, where V has at least three columns at first
-- Assumes nothing.
use Rattle.std.specs.Prelude.{◌≡◌, refl, ◌≢◌, Bool, true, false, cond, List, [], ◌∷◌, ◌++◌, ℕ, zero, suc, ◌+◌, ◌-◌, ◌*◌, ◌<◌, ◌≤◌, eqb, length, get_or, take}
use Rattle.std.proofs.Common.{sym, ap, ◌∙◌, subst, not-suc-le-zero, suc-mul, mul-suc, mul-le-mul_left, arith, length-append, length-take-le}
use Rattle.loops.specs.Out.{Out}
use Rattle.loops.specs.Way.{Way, go, halt}
use Rattle.oplist.specs.declared.Op.{Op}
use Rattle.algebra.specs.Rows.{runs}
use Rattle.rule.specs.Lists.{In, keep, filter}
use Rattle.rule.specs.Sets.{sub_length, in_filter, nodup_filter}
use Rattle.phases.specs.System.{Shape, range, octet_rows}
use Rattle.phases.specs.One.{Step, Phase, rows_of, pivots_of, entry, clears, ops_one, phase_one}
use Rattle.phases.specs.Two.{at, scaled, backward, Second, acts, working, forward}
use Rattle.phases.specs.Rest.{has, kept, last-first, gather, phase_four}
use Rattle.phases.specs.Run.{whole, finish, second, refused, goes_on, defined}
use Rattle.phases.specs.Occ.{tick, occ, tick_eq, tick_ne, occ-append, occ-range, Member, Once, in_member, member_in, once_nodup}
use Rattle.phases.specs.Fit.{Fit, all-rows, cols_once, cols-below}
use Rattle.phases.proofs.Fit.{rows_once, rows-below}
use Rattle.phases.specs.Sweep.{Fair, Legal, last-rows, rows-kept}
use Rattle.phases.proofs.Sweep.{cols-kept}
use Rattle.phases.specs.Gauss.{Works, ops_two, ops_at}
use Rattle.phases.specs.Finish.{has-true}
use Rattle.phases.specs.ByPlace.{length-rows_of, length_pivots_of}
use Rattle.phases.proofs.ByPlace.{kept_append}
use Rattle.phases.specs.Walk.{Walked}
use Rattle.phases.specs.Matrix.{length-range}
use Rattle.phases.specs.Forward.{Stage, Ended}
use Rattle.phases.proofs.Means.{walk, ended}
use Rattle.phases.specs.Bound.{cost, later, longest, ramp, tri}

-- sums
ramp_mono : (a b k : ℕ) → a ≤ b → ramp a k ≤ ramp b k
ramp_mono a b zero h = omega arith
ramp_mono a b (suc k) h = omega (arith, ramp_mono (a - 1) (b - 1) k (omega arith))

ramp_more : (a k j : ℕ) → ramp a k ≤ ramp a (k + j)
ramp_more a zero j = omega arith
ramp_more a (suc k) j =
    let e : suc k + j ≡ suc (k + j) = omega arith in
    subst (λ (n : ℕ). ramp a (suc k) ≤ ramp a n) (sym e) (omega (arith, ramp_more (a - 1) k j))

ramp-append : (a k j : ℕ) → ramp a k + ramp (a - k) j ≡ ramp a (k + j)
ramp-append a zero j =
    let e : a - 0 ≡ a = omega arith in
    let f : 0 + j ≡ j = omega arith in
    ap (λ (b : ℕ). 0 + ramp b j) e ∙ (omega (arith, ap (ramp a) f))
ramp-append a (suc k) j =
    let e : suc k + j ≡ suc (k + j) = omega arith in
    let f : (a - 1) - k ≡ a - suc k = omega arith in
    let g : ramp (a - 1) k + ramp ((a - 1) - k) j ≡ ramp (a - 1) (k + j) = ramp-append (a - 1) k j in
    let h : ramp (a - suc k) j ≡ ramp ((a - 1) - k) j = ap (λ (b : ℕ). ramp b j) (sym f) in
    let i : ramp a (suc k + j) ≡ (a - 1) + ramp (a - 1) (k + j) = ap (ramp a) e in
    omega arith

-- parts of the list
length-entry : (c y x : ℕ) (os : List Op) → length (entry c y x os) ≤ suc (length os)
length-entry zero y x os = omega arith
length-entry (suc zero) y x os = omega arith
length-entry (suc (suc c)) y x os = omega arith

length-clears : (s : ℕ → ℕ) (x : ℕ) (ys : List ℕ) → length (clears s x ys) ≤ length ys
length-clears s x [] = omega arith
length-clears s x (y ∷ ys) = omega (arith, length-clears s x ys, length-entry (s y) y x (clears s x ys))

length-scaled : (c y : ℕ) → length (scaled c y) ≤ 1
length-scaled zero y = omega arith
length-scaled (suc zero) y = omega arith
length-scaled (suc (suc c)) y = omega arith

-- rows that are among others are no more
fewer : (a b : List ℕ) → Once a → ((y : ℕ) → Member a y → Member b y) → length a ≤ length b
fewer a b o i = sub_length a b (once_nodup a o) (λ y m. member_in y b (i y (in_member y a m)))

module _ (A : ℕ → ℕ → ℕ) where
  under_fewer : (t : Step) (rows v : List ℕ) → Fair A t rows v → Once rows → suc (length t.under) ≤ length rows
  under_fewer t rows v f o = fewer (t.row ∷ t.under) rows (λ y. omega (arith, f.same y, o y)) (λ y k. omega (arith, f.same y))

  once_under : (t : Step) (rows v : List ℕ) → Fair A t rows v → Once rows → Once t.under
  once_under t rows v f o y = omega (arith, f.same y, o y)

  length-one : (ts : List Step) (rows v : List ℕ) → Legal A ts rows v → Once rows → length (ops_one A ts) ≤ ramp (length rows) (length ts)
  length-one [] rows v g o = omega arith
  length-one (t ∷ ts) rows v g o =
      omega (
        arith,
        length-append (clears (λ y. A y t.pivot) t.row t.under) (ops_one A ts),
        length-clears (λ y. A y t.pivot) t.row t.under,
        under_fewer t rows v g.0 o,
        length-one ts t.under t.left g.1 (once_under t rows v g.0 o),
        ramp_mono (length t.under) (length rows - 1) (length ts) (omega (arith, under_fewer t rows v g.0 o)),
      )

  length-left : (ts : List Step) (rows v : List ℕ) → Legal A ts rows v → Once rows → length ts + length (last-rows ts rows) ≤ length rows
  length-left [] rows v g o = omega arith
  length-left (t ∷ ts) rows v g o =
      omega (arith, under_fewer t rows v g.0 o, length-left ts t.under t.left g.1 (once_under t rows v g.0 o))

  -- phase one's additions among the chosen rows
  module _ (xs : List ℕ) where
    length-kept-clears : (s : ℕ → ℕ) (x : ℕ) (ys : List ℕ) → length (kept xs (clears s x ys)) ≤ length (filter (λ y. has y xs) ys)
    length-kept-clears s x [] = omega arith
    length-kept-clears s x (y ∷ ys) = at_entry (s y) (has y xs) refl (length-kept-clears s x ys)
      where
        at_entry : (c : ℕ) (b : Bool) → has y xs ≡ b → length (kept xs (clears s x ys)) ≤ length (filter (λ y. has y xs) ys)
            → length (kept xs (entry c y x (clears s x ys))) ≤ length (keep b y (filter (λ y. has y xs) ys))
        at_entry zero true e h = omega arith
        at_entry zero false e h = h
        at_entry (suc zero) true e h = rw e (omega arith)
        at_entry (suc zero) false e h = rw e h
        at_entry (suc (suc c)) true e h = rw e (omega arith)
        at_entry (suc (suc c)) false e h = rw e h

    length-kept : (ts : List Step) (rows v : List ℕ) → Legal A ts rows v → Once rows
        → ((y : ℕ) → Member rows y → Member xs y → Member (rows_of ts) y) → length (kept xs (ops_one A ts)) ≤ tri (length ts)
    length-kept [] rows v g o i = omega arith
    length-kept (t ∷ ts) rows v g o i =
        omega (
          arith,
          ap length (kept_append xs (clears (λ y. A y t.pivot) t.row t.under) (ops_one A ts)),
          length-append (kept xs (clears (λ y. A y t.pivot) t.row t.under)) (kept xs (ops_one A ts)),
          length-kept-clears (λ y. A y t.pivot) t.row t.under,
          among,
          length-kept ts t.under t.left g.1 (once_under t rows v g.0 o) later-row,
        )
      where
        later-row : (y : ℕ) → Member t.under y → Member xs y → Member (rows_of ts) y
        later-row y k j =
            let ne : y ≢ t.row = λ e. (let z : tick (eqb y t.row) ≡ 1 = tick_eq y t.row e in omega (arith, g.0.same y, o y)) in
            omega (arith, i y (omega (arith, g.0.same y)) j, tick_ne y t.row ne)

        among : length (filter (λ y. has y xs) t.under) ≤ length ts
        among =
            subst (λ (n : ℕ). length (filter (λ y. has y xs) t.under) ≤ n) (length-rows_of ts)
            (sub_length (filter (λ y. has y xs) t.under) (rows_of ts)
            (nodup_filter (λ y. has y xs) t.under (once_nodup t.under (once_under t rows v g.0 o)))
            (λ y m. let r : In y t.under × (has y xs ≡ true) = in_filter (λ y. has y xs) t.under y m in
            member_in y (rows_of ts) (later-row y (in_member y t.under r.0) (has-true y xs r.1))))

  length-gather : (x : ℕ) (us : List Step) → length (gather A x us) ≤ length us
  length-gather x [] = omega arith
  length-gather x (u ∷ us) = omega (arith, length-gather x us, length-entry (A x u.pivot) x u.row (gather A x us))

  length-four : (xs : List ℕ) (us : List Step) → length (phase_four A xs us) ≤ length xs * length us
  length-four [] us = omega arith
  length-four (x ∷ xs) us =
      omega (arith, length-append (gather A x us) (phase_four A xs us), length-gather x us, length-four xs us, suc-mul (length xs) (length us))

length_two : (B : ℕ → ℕ → ℕ) (us : List Step) (rows : List ℕ) → Works B us rows → Once rows
    → length (ops_two B us) ≤ length us + ramp (length rows) (length us)
length_two B [] rows w o = omega arith
length_two B (u ∷ us) rows w o =
    let f : suc (length u.under) ≤ length rows =
    fewer (u.row ∷ u.under) rows (λ y. omega (arith, w.0.same y, o y)) (λ y k. omega (arith, w.0.same y)) in
    omega (
      arith,
      length-append (ops_at B u) (ops_two (runs (ops_at B u) B) us),
      length-append (scaled (B u.row u.pivot) u.row) (clears (λ x. B x u.pivot) u.row u.under),
      length-scaled (B u.row u.pivot) u.row,
      length-clears (λ x. B x u.pivot) u.row u.under,
      length_two (runs (ops_at B u) B) us u.under w.1 (λ y. omega (arith, w.0.same y, o y)),
      ramp_mono (length u.under) (length rows - 1) (length us) (omega arith),
    )

length_back : (X : List (List ℕ)) (rows : List ℕ) (k : ℕ) → k ≤ length rows → length (backward X rows k) ≤ tri k
length_back X rows zero h = omega arith
length_back X rows (suc k) h =
    omega (
      arith,
      length-append (clears (λ y. at X y k) (get_or rows k 0) (take k rows)) (backward X rows k),
      length-clears (λ y. at X y k) (get_or rows k 0) (take k rows),
      length-take-le k rows (omega arith),
      length_back X rows k (omega arith),
    )

length-last-first : (os : List Op) → length (last-first os) ≡ length os
length-last-first [] = refl
length-last-first (o ∷ os) = omega (arith, length-append (last-first os) (o ∷ []), length-last-first os)

tri_mono : (j k : ℕ) → j ≤ k → tri j ≤ tri k
tri_mono zero k h = omega arith
tri_mono (suc j) zero h = absurd (not-suc-le-zero h)
tri_mono (suc j) (suc k) h = omega (arith, tri_mono j k (omega arith))

module _ (z : Shape) (A : ℕ → ℕ → ℕ) (fit : Fit z A) where
  abbrev p : Phase
  p = phase_one A z

  abbrev ts : List Step
  ts = p.steps

  abbrev os : List Op
  os = ops_one A ts

  abbrev left : List ℕ
  left = p.now.elig ++ octet_rows z

  abbrev cols : List ℕ
  cols = p.now.cols ++ p.out

  abbrev rows : List ℕ
  rows = all-rows z

  W : Walked z A p
  W = walk z A fit

  once : Once rows
  once = rows_once z fit.rows_fit

  in_range : (n y : ℕ) → y < n → Member (range 0 n) y
  in_range n y l = omega (arith, (occ-range 0 n y).inside (omega arith) (omega arith))

  rows_few : length rows ≤ z.m
  rows_few =
      subst (λ (n : ℕ). length rows ≤ n) (length-range 0 z.m) (fewer rows (range 0 z.m) once (λ y k. in_range z.m y (rows-below z fit.rows_fit y k)))

  taken-occ : (q : ℕ) → occ q (pivots_of ts ++ cols) ≡ occ q (range 0 z.w) + occ q (range z.w (z.n - z.w))
  taken-occ q = omega (arith, W.columns q, occ-append q (pivots_of ts) cols, occ-append q p.now.cols p.out)

  cols_few : length ts + length cols ≤ z.n
  cols_few =
      let e : length (pivots_of ts ++ cols) ≤ length (range 0 z.n) =
      fewer (pivots_of ts ++ cols) (range 0 z.n) (λ q. omega (arith, taken-occ q, cols_once z fit.cols_fit q))
      (λ q k. in_range z.n q (cols-below z fit.cols_fit q (omega (arith, taken-occ q)))) in
      omega (arith, length-append (pivots_of ts) cols, length_pivots_of ts, length-range 0 z.n)

  pub steps_few : length ts ≤ z.w
  steps_few =
      let e : length (pivots_of ts) ≤ length (range 0 z.w) =
      fewer (pivots_of ts) (range 0 z.w) (λ q. omega (arith, taken-occ q, occ-append q (pivots_of ts) cols, cols_once z fit.cols_fit q))
      (λ q k. omega (arith, cols-kept A ts rows (range 0 z.w) W.legal q)) in
      omega (arith, length_pivots_of ts, length-range 0 z.w)

  left_few : length ts + length left ≤ z.m
  left_few =
      omega (arith, length-left A ts rows (range 0 z.w) W.legal once, rows_few, ap length W.rows_left)

  once_left : Once left
  once_left y = omega (arith, ap (occ y) W.rows_left, rows-kept A ts rows (range 0 z.w) W.legal y, once y)

  one_few : length os ≤ ramp z.m (length ts)
  one_few =
      omega (arith, length-one A ts rows (range 0 z.w) W.legal once, ramp_mono (length rows) z.m (length ts) rows_few)

  -- clearing below, in phases one and two
  module _ (k : ℕ) (f : Out Op Second) (S : Stage z.m (runs os A) cols left k f) (kl : k ≤ length cols) where
    abbrev us : List Step
    us = f.st.steps

    us-length : length us ≡ k
    us-length = sym (length_pivots_of us) ∙ ap length S.reached ∙ length-take-le k cols kl

    below_few : length os + length f.ops ≤ ramp z.m z.n + length us
    below_few =
        let a : length f.ops ≤ length us + ramp (length left) (length us) =
        subst (λ (l : List Op). length l ≤ length us + ramp (length left) (length us)) (sym S.ops) (length_two (runs os A) us left S.works once_left) in
        let b : ramp (length left) (length us) ≤ ramp (z.m - length ts) (length us) =
        ramp_mono (length left) (z.m - length ts) (length us) (omega (arith, left_few)) in
        let c : ramp z.m (length ts) + ramp (z.m - length ts) (length us) ≡ ramp z.m (length ts + length us) = ramp-append z.m (length ts) (length us) in
        let n : z.n ≡ (length ts + length us) + (z.n - (length ts + length us)) = omega (arith, us-length, cols_few) in
        let d : ramp z.m (length ts + length us) ≤ ramp z.m z.n =
        subst (λ (j : ℕ). ramp z.m (length ts + length us) ≤ ramp z.m j) (sym n) (ramp_more z.m (length ts + length us) (z.n - (length ts + length us))) in
        omega (arith, one_few)

    us_few : length us ≤ z.n - length ts
    us_few = omega (arith, us-length, cols_few)

  kept_few : length (kept (rows_of ts) os) ≤ tri (length ts)
  kept_few = length-kept A (rows_of ts) ts rows (range 0 z.w) W.legal once (λ y i j. j)

  solved_few : (f : Out Op Second) → Stage z.m (runs os A) cols left (length cols) f
      → length (whole (finish z A ts os cols (go f))) ≤ cost z.m z.n (length ts)
  solved_few f S =
      let us : List Step = f.st.steps in
      let K : List Op = kept (rows_of ts) os in
      let bk : List Op = backward f.st.mat (rows_of us) (length us) in
      let fo : List Op = phase_four A (rows_of ts) us in
      let a : length bk ≤ tri (length us) = length_back f.st.mat (rows_of us) (length us) (omega (arith, length-rows_of us)) in
      let b : length fo ≤ length ts * length us = subst (λ (n : ℕ). length fo ≤ n * length us) (length-rows_of ts) (length-four A (rows_of ts) us) in
      let u : length us ≤ z.n - length ts = us_few (length cols) f S (omega arith) in
      let c : length ts * length us ≤ length ts * (z.n - length ts) = mul-le-mul_left (length ts) u in
      omega (
        arith,
        below_few (length cols) f S (omega arith),
        tri_mono (length us) (z.n - length ts) u,
        kept_few,
        length-last-first K,
        length-append (os ++ (f.ops ++ bk) ++ last-first K ++ fo) K,
        length-append (os ++ (f.ops ++ bk) ++ last-first K) fo,
        length-append (os ++ (f.ops ++ bk)) (last-first K),
        length-append os (f.ops ++ bk),
        length-append f.ops bk,
      )

  halted_few : (j : ℕ) (f : Out Op Second) → Stage z.m (runs os A) cols left j f → j < length cols
      → length (whole (finish z A ts os cols (halt j f))) ≤ cost z.m z.n (length ts)
  halted_few j f S jl =
      omega (
        arith,
        below_few j f S (omega arith),
        us_few j f S (omega arith),
        length-append (os ++ f.ops ++ [] ++ []) [],
        length-append (os ++ f.ops ++ []) [],
        length-append (os ++ f.ops) [],
        length-append os f.ops,
      )

  refused_few : length (whole (refused z A p)) ≤ cost z.m z.n (length ts)
  refused_few =
      let n : z.n ≡ length ts + (z.n - length ts) = omega (arith, cols_few) in
      let d : ramp z.m (length ts) ≤ ramp z.m z.n =
      subst (λ (j : ℕ). ramp z.m (length ts) ≤ ramp z.m j) (sym n) (ramp_more z.m (length ts) (z.n - length ts)) in
      omega (arith, one_few, length-append (os ++ [] ++ [] ++ []) [], length-append (os ++ [] ++ []) [], length-append (os ++ []) [], length-append os [])

  pub list_cost : (wide : Bool) → length (whole (defined z A wide)) ≤ cost z.m z.n (length (phase_one A z).steps)
  list_cost wide = at_end (goes_on z A wide p.now.cols)
    where
      at_way : (w : Way (Out Op Second)) → Ended z.m (runs os A) cols left (length cols) w
          → length (whole (finish z A ts os cols w)) ≤ cost z.m z.n (length ts)
      at_way (go f) S = solved_few f S
      at_way (halt j f) S = halted_few j f S.0 S.1

      at_end : (b : Bool) → length (whole (cond b (second z A p) (refused z A p))) ≤ cost z.m z.n (length ts)
      at_end true = at_way (forward cols left (acts os (working A z.m cols))) (ended z A fit)
      at_end false = refused_few

-- one step more of phase one costs i - 1 more
later-next : (i j : ℕ) → later (suc i + j) (suc i) + 1 ≡ later (suc i + j) i + i
later-next i j =
    let a : (suc i + j) - suc i ≡ j = omega arith in
    let b : (suc i + j) - i ≡ suc j = omega arith in
    let c : later (suc i + j) (suc i) ≡ j + tri j + tri (suc i) + tri (suc i) + suc i * j = ap (λ (k : ℕ). k + tri k + tri (suc i) + tri (suc i) + suc i * k) a in
    let d : later (suc i + j) i ≡ suc j + tri (suc j) + tri i + tri i + i * suc j = ap (λ (k : ℕ). k + tri k + tri i + tri i + i * k) b in
    omega (arith, suc-mul i j, mul-suc i j)

later-up : (n i : ℕ) → i < n → later n (suc i) + 1 ≡ later n i + i
later-up n i h =
    let e : n ≡ suc i + (n - suc i) = omega arith in
    subst (λ (k : ℕ). later k (suc i) + 1 ≡ later k i + i) (sym e) (later-next i (n - suc i))

later_climbs : (n i k : ℕ) → 1 ≤ i → i + k ≤ n → later n i ≤ later n (i + k)
later_climbs n i zero h l = let e : i + 0 ≡ i = omega arith in subst (λ (j : ℕ). later n i ≤ later n j) (sym e) (omega arith)
later_climbs n i (suc k) h l =
    let e : i + suc k ≡ suc (i + k) = omega arith in
    subst (λ (j : ℕ). later n i ≤ later n j) (sym e) (omega (arith, later_climbs n i k h (omega arith), later-up n (i + k) (omega arith)))

later_most : (n w i : ℕ) → 3 ≤ w → w ≤ n → i ≤ w → later n i ≤ later n w
later_most n w zero h l k =
    let e : 3 + (w - 3) ≡ w = omega arith in
    let c : later n 3 ≤ later n w = subst (λ (j : ℕ). later n 3 ≤ later n j) e (later_climbs n 3 (w - 3) (omega arith) (omega arith)) in
    omega (arith, later-up n 0 (omega arith), later-up n 1 (omega arith), later-up n 2 (omega arith))
later_most n w (suc i) h l k =
    let e : suc i + (w - suc i) ≡ w = omega arith in
    subst (λ (j : ℕ). later n (suc i) ≤ later n j) e (later_climbs n (suc i) (w - suc i) (omega arith) (omega arith))

pub list_longest : (z : Shape) (A : ℕ → ℕ → ℕ) → Fit z A → 3 ≤ z.w → (wide : Bool) → length (whole (defined z A wide)) ≤ longest z
list_longest z A fit h wide =
    omega (arith, list_cost z A fit wide, later_most z.n z.w (length (phase_one A z).steps) h fit.cols_fit (steps_few z A fit))
