-- What the defined run means, plain and wide: Solved reduces the matrix, Singular shows a vector that is sent to zeros, NoPivot leaves no nonzero in V.
--   means        the defined run says it
--   walk, ended  what is known of phase one at its end, and how the first part of phase two ends
--   two_is, three-is   where every column got a row: the lists of phases two and three are those by step
--   course       and the run is a course: legal steps that give every column a row
--   length-by-column, get_or-by-column   a list by column has an entry for each column, which is what stands beside the column
-- Assumes nothing.
use Rattle.std.specs.Prelude.{◌≡◌, refl, ◌≢◌, Bool, true, false, cond, List, [], ◌∷◌, ◌++◌, map, ℕ, zero, suc, ◌+◌, ◌-◌, ◌<◌, ◌≤◌, eqb, length, get_or, take, drop}
use Rattle.std.proofs.Common.{sym, ap, ap₂, ◌∙◌, subst, append_assoc, zero-add, not-suc-le-zero, arith, lit<, take-append-drop, take-suc, length-take-le, get_or-take, drop-cons}
use Rattle.std.proofs.lemmas.List.{length-map}
use Rattle.std.proofs.Math.Seq.{take-length}
use Rattle.loops.specs.Out.{Out}
use Rattle.loops.specs.Way.{Way, go, halt}
use Rattle.octet.specs.Octet.{mul}
use Rattle.octet.specs.Field.{Octets}
use Rattle.oplist.specs.declared.Op.{Op}
use Rattle.oplist.specs.Ops.{Each}
use Rattle.algebra.specs.Sums.{sum_ext}
use Rattle.algebra.specs.Rows.{runs, undo, Within}
use Rattle.algebra.specs.Solve.{Reduces, Makes}
use Rattle.phases.specs.System.{Shape, range, first_rows, octet_rows}
use Rattle.phases.specs.One.{Step, Phase, rows_of, pivots_of, phase_one, ops_one}
use Rattle.phases.specs.Two.{at, acts, working, Second, forward, backward}
use Rattle.phases.specs.Rest.{kept, phase_four, beside, by-column, by_substitution}
use Rattle.phases.specs.Run.{singular, whole, finish, second, refused, goes_on, defined}
use Rattle.phases.specs.Occ.{tick, occ, tick_eq, occ-append, Member, Once}
use Rattle.phases.specs.Fit.{Fit, all-rows, cols-occ, cols_once, cols-below}
use Rattle.phases.proofs.Fit.{rows-occ, rows_once, rows-below}
use Rattle.phases.specs.Sweep.{last-rows, rows-kept}
use Rattle.phases.proofs.Sweep.{kept-v, ops_within}
use Rattle.phases.specs.Gauss.{Works, works_kept, ops_two, above}
use Rattle.phases.specs.Solved.{Course, the_list, list_two, list_kept, pivots_append, row_of}
use Rattle.phases.proofs.Solved.{reduces}
use Rattle.phases.specs.Kernel.{Halt, Value, chain, value_of, cols_of, absent}
use Rattle.phases.proofs.Kernel.{chain-cols}
use Rattle.phases.specs.Kernel as Ker
use Rattle.phases.proofs.Kernel as Kerp
use Rattle.phases.specs.Walk.{Walked}
use Rattle.phases.proofs.Walk.{walked_end, zeros}
use Rattle.phases.specs.Matrix.{Full, Shows, acts-full, shows_acts, working-full, shows_working, length-range, get_or-map-range}
use Rattle.phases.specs.Forward.{Stage, Ended}
use Rattle.phases.proofs.Forward.{forward-ended}
use Rattle.phases.specs.ByPlace.{rows_join, pivots_join, length_pivots_of, backward-is, beside_more}
use Rattle.phases.proofs.ByPlace.{reversed_is}
use Rattle.phases.specs.Vector.{vals_of, length_vals, beside-value, chain-cols_are}
use Rattle.phases.proofs.Vector.{substitution_is}
use Rattle.phases.specs.Means.{Blank, Says, turns_two}

-- lists by column
pub length-by-column : (n : ℕ) (c xs : List ℕ) → length (by-column n c xs) ≡ n
length-by-column n c xs = length-map (range 0 n) (λ (q : ℕ). beside q c xs) ∙ length-range 0 n

pub get_or-by-column : (n : ℕ) (c xs : List ℕ) (j : ℕ) → j < n → get_or (by-column n c xs) j 0 ≡ beside j c xs
get_or-by-column n c xs j l = get_or-map-range (λ q. beside q c xs) 0 n j 0 l ∙ ap (λ (q : ℕ). beside q c xs) (zero-add j)

get_or_octets : (f : ℕ → ℕ) (a n : ℕ) → Octets f → Octets (λ j. get_or (map f (range a n)) j 0)
get_or_octets f a zero h j = lit< tt
get_or_octets f a (suc n) h zero = h a
get_or_octets f a (suc n) h (suc j) = get_or_octets f (suc a) n h j

-- an entry behind a place stands in what is dropped there
member_drop : (a : ℕ) (l : List ℕ) (i : ℕ) → a ≤ i → i < length l → Member (drop a l) (get_or l i 0)
member_drop a [] i h k = absurd (not-suc-le-zero k)
member_drop zero (x ∷ l) zero h k = omega (arith, tick_eq x x refl)
member_drop zero (x ∷ l) (suc i) h k = omega (arith, member_drop zero l i (omega arith) (omega arith))
member_drop (suc a) (x ∷ l) zero h k = absurd (omega arith)
member_drop (suc a) (x ∷ l) (suc i) h k = member_drop a l i (omega arith) (omega arith)

reorder : (m n : ℕ) (os : List Op) (A : ℕ → ℕ → ℕ) (o p : ℕ → ℕ) → ((j : ℕ) → j < n → p j ≡ o j) → Reduces m n os A o → Reduces m n os A p
reorder m n os A o p e R = record {
  good = R.good;
  within = R.within;
  place = λ j l. subst (λ (x : ℕ). x < m) (sym (e j l)) (R.place j l);
  unit = λ j k l q. ap (λ (x : ℕ). runs os A x k) (e j l) ∙ R.unit j k l q;
  clear = λ r l un k q. R.clear r l (λ j i x. un j i (e j i ∙ x)) k q;
}

module _ (z : Shape) (A : ℕ → ℕ → ℕ) (fit : Fit z A) where
  abbrev p : Phase
  p = phase_one A z

  abbrev rows : List ℕ
  rows = all-rows z

  abbrev v : List ℕ
  v = range 0 z.w

  abbrev ts : List Step
  ts = p.steps

  abbrev os : List Op
  os = ops_one A ts

  abbrev B : ℕ → ℕ → ℕ
  B = runs os A

  abbrev left : List ℕ
  left = p.now.elig ++ octet_rows z

  abbrev cols : List ℕ
  cols = p.now.cols ++ p.out

  abbrev X : List (List ℕ)
  X = acts os (working A z.m cols)

  pub walk : Walked z A p
  walk = walked_end z A fit

  once : Once rows
  once = rows_once z fit.rows_fit

  low : (y : ℕ) → Member rows y → y < z.m
  low = rows-below z fit.rows_fit

  all : (r : ℕ) → r < z.m → Member rows r
  all r l = omega (arith, (rows-occ z fit.rows_fit r).0 l)

  within : Each (Within z.m) os
  within = ops_within A z.m ts rows v walk.legal low

  left-occ : (y : ℕ) → occ y left ≤ occ y rows
  left-occ y = omega (arith, ap (occ y) walk.rows_left, rows-kept A ts rows v walk.legal y)

  chosen_in : (y : ℕ) → Member (rows_of ts) y → Member rows y
  chosen_in y k = omega (arith, rows-kept A ts rows v walk.legal y)

  -- the columns are the pivots, those of V that are left, and the inactive ones
  all-cols : (q : ℕ) → occ q (pivots_of ts) + occ q cols ≡ occ q v + occ q (range z.w (z.n - z.w))
  all-cols q = omega (arith, walk.columns q, occ-append q p.now.cols p.out)

  full : Full z.m (length cols) X
  full = acts-full z.m (length cols) os (working A z.m cols) (working-full A z.m cols) within

  shows : Shows z.m (length cols) X B cols
  shows = shows_acts z.m (length cols) os (working A z.m cols) A cols (working-full A z.m cols) within (shows_working A z.m cols)

  pub ended : Ended z.m B cols left (length cols) (forward cols left X)
  ended = forward-ended z.m B cols left (λ y. omega (arith, left-occ y, once y)) (λ y k. low y (omega (arith, left-occ y))) X full shows

  -- chosen rows are binary
  binary : (y q : ℕ) → Member (rows_of ts) y → Member (pivots_of ts) q → A y q ≤ 1
  binary y q i j = fit.binary y q (firsts y i) (cols-below z fit.cols_fit q (omega (arith, all-cols q)))
    where
      firsts : (x : ℕ) → Member (rows_of ts) x → Member (first_rows z) x
      firsts x k =
          omega (
            arith,
            once x,
            rows-kept A ts rows v walk.legal x,
            ap (occ x) walk.rows_left,
            occ-append x p.now.elig (octet_rows z),
            occ-append x (first_rows z) (octet_rows z),
          )

  module _ (k : ℕ) (f : Out Op Second) (S : Stage z.m B cols left k f) where
    abbrev us : List Step
    us = f.st.steps

    works : Works B us (last-rows ts rows)
    works = subst (λ (l : List ℕ). Works B us l) (sym walk.rows_left) S.works

    us_in : (y : ℕ) → Member (rows_of us) y → y < z.m
    us_in y i = low y (omega (arith, works_kept B us left S.works y, left-occ y))

    -- pivots and the columns that are left to do
    columns : (q : ℕ) → occ q (pivots_of (ts ++ us)) + occ q (drop k cols) ≡ occ q v + occ q (range z.w (z.n - z.w))
    columns q =
        omega (arith, pivots_append ts us q, ap (occ q) S.reached, occ-append q (take k cols) (drop k cols), ap (occ q) (take-append-drop k cols), all-cols q)

  -- a run in which every column got a row
  module _ (f : Out Op Second) (S : Stage z.m B cols left (length cols) f) where
    reached : pivots_of f.st.steps ≡ cols
    reached = S.reached ∙ take-length cols

    order : (j : ℕ) → j < z.n
        → get_or (by-column z.n (pivots_of ts ++ cols) (rows_of ts ++ rows_of f.st.steps)) j 0 ≡ row_of j (ts ++ f.st.steps)
    order j l =
        get_or-by-column z.n (pivots_of ts ++ cols) (rows_of ts ++ rows_of f.st.steps) j l
        ∙ ap₂ (λ (c d : List ℕ). beside j c d) (ap (λ (c : List ℕ). pivots_of ts ++ c) (sym reached) ∙ sym (pivots_join ts f.st.steps))
        (sym (rows_join ts f.st.steps))

    back : backward f.st.mat (rows_of f.st.steps) (length f.st.steps) ≡ above (runs (ops_two B f.st.steps) B) [] f.st.steps
    back = backward-is (runs (ops_two B f.st.steps) B) f.st.mat f.st.steps
        (λ y k i h. S.shows y k (us_in (length cols) f S y i) (subst (λ (n : ℕ). k < n) (sym (length_pivots_of f.st.steps) ∙ ap length reached) h)
        ∙ ap (λ (c : List ℕ). runs (ops_two B f.st.steps) B y (get_or c k 0)) (sym reached))

    -- its lists by step
    pub two_is : (finish z A ts os cols (go f)).two ≡ list_two B f.st.steps
    two_is = ap₂ (λ (a b : List Op). a ++ b) S.ops back

    pub three-is : (finish z A ts os cols (go f)).three ≡ undo (list_kept A ts)
    three-is = reversed_is A ts binary

    same_list : whole (finish z A ts os cols (go f)) ≡ the_list A ts f.st.steps
    same_list = ap₂ (λ (a b : List Op). os ++ a ++ b ++ phase_four A (rows_of ts) f.st.steps ++ kept (rows_of ts) os) two_is three-is

    pub course : Course z.m z.n A rows v ts f.st.steps
    course = record {
      entries = fit.entries;
      once = once;
      all = all;
      below = low;
      legal = walk.legal;
      works = works (length cols) f S;
      every = λ q l. omega (arith, all-cols q, (cols-occ z fit.cols_fit q).0 l, pivots_append ts f.st.steps q, ap (occ q) reached);
      apart = λ q. omega (arith, all-cols q, cols_once z fit.cols_fit q, pivots_append ts f.st.steps q, ap (occ q) reached);
    }

    solved_says : Says z A (finish z A ts os cols (go f)) (finish z A ts os cols (go f)).end
    solved_says =
        reorder z.m z.n (whole (finish z A ts os cols (go f))) A (λ j. row_of j (ts ++ f.st.steps))
        (λ j. get_or (by-column z.n (pivots_of ts ++ cols) (rows_of ts ++ rows_of f.st.steps)) j 0) order
        (subst (λ (l : List Op). Reduces z.m z.n l A (λ j. row_of j (ts ++ f.st.steps))) (sym same_list)
        (reduces z.m z.n A rows v ts f.st.steps course))

  singular_says : (j : ℕ) (f : Out Op Second) → turns_two z A ≡ halt j f → Stage z.m B cols left j f → j < length cols
      → ((y : ℕ) → Member f.st.left y → at f.st.mat y j ≡ 0)
      → Says z A (finish z A ts os cols (halt j f)) (finish z A ts os cols (halt j f)).end
  singular_says j f halts S jl stuck = record {
    sent = λ r l. sum_ext z.n (λ k. mul (A r k) (get_or x k 0)) (λ k. mul (A r k) (value_of k vs))
        (λ k i. ap (λ (y : ℕ). mul (A r k) y) (get_or-by-column z.n (pivots_of ts ++ cols) xs k i ∙ is k)) ∙ K.0 r l;
    octets = get_or_octets (λ k. beside k (pivots_of ts ++ cols) xs) 0 z.n (λ k. subst (λ (y : ℕ). y < 256) (sym (is k)) (K.2 k));
    stop = j;
    stops = (f, halts);
    inside = ql;
    one = get_or-by-column z.n (pivots_of ts ++ cols) xs q ql ∙ is q ∙ K.1;
    later = λ i h l.
        let k : ℕ = get_or cols i 0 in
        let s : Member (drop (suc j) cols) k = member_drop (suc j) cols i h l in
        let kl : k < z.n = cols-below z fit.cols_fit k (omega (arith, spread k)) in
        get_or-by-column z.n (pivots_of ts ++ cols) xs k kl ∙ is k
        ∙ absent k vs (omega (arith, chain-cols D q (ts ++ us) k, spread k, cols_once z fit.cols_fit k));
  }
    where
      us : List Step
      us = f.st.steps

      D : ℕ → ℕ → ℕ
      D = runs (ops_two B us) B

      q : ℕ
      q = get_or cols j 0

      vs : List Value
      vs = chain D (ts ++ us) q

      xs : List ℕ
      xs = by_substitution f.st.mat (rows_of ts) (rows_of us)

      x : List ℕ
      x = by-column z.n (pivots_of ts ++ cols) xs

      next : drop j cols ≡ q ∷ drop (suc j) cols
      next = drop-cons cols j 0 jl

      spread : (k : ℕ) → occ k (pivots_of (ts ++ us)) + (tick (eqb k q) + occ k (drop (suc j) cols)) ≡ occ k v + occ k (range z.w (z.n - z.w))
      spread k = ap (λ (l : List ℕ). occ k (pivots_of (ts ++ us)) + occ k l) (sym next) ∙ columns j f S k

      ql : q < z.n
      ql = cols-below z fit.cols_fit q (omega (arith, spread q, tick_eq q q refl))

      none : (y : ℕ) → Member (last-rows us (last-rows ts rows)) y → D y q ≡ 0
      none y k =
          let i : Member f.st.left y = subst (λ (l : List ℕ). Member l y) (sym (S.left ∙ ap (last-rows us) (sym walk.rows_left))) k in
          let yl : y < z.m = low y (omega (arith, works_kept B us left S.works y, ap (occ y) S.left, left-occ y)) in
          sym (S.shows y j yl jl) ∙ stuck y i

      halted : Halt z.m z.n q A rows v ts us
      halted = record {
        entries = fit.entries;
        once = once;
        all = all;
        below = low;
        legal = walk.legal;
        works = works j f S;
        apart = λ k. omega (arith, spread k, cols_once z fit.cols_fit k);
        column = λ k i. cols-below z fit.cols_fit k (omega (arith, spread k));
        none = none;
      }

      K : Makes z.m z.n A (λ k. value_of k vs) (λ _. 0) × (value_of q vs ≡ 1) × Octets (λ k. value_of k vs)
      K = Kerp.singular z.m z.n q A rows v ts us halted

      taken : take (suc j) cols ≡ take j cols ++ (q ∷ [])
      taken = take-suc cols j 0 jl

      us-cols : cols_of (chain D us q) ≡ take (suc j) cols
      us-cols = chain-cols_are D us q ∙ ap (λ (l : List ℕ). l ++ (q ∷ [])) S.reached ∙ sym taken

      long : length (take (suc j) cols) ≡ suc j
      long = length-take-le (suc j) cols (omega arith)

      cols_are : pivots_of ts ++ cols ≡ cols_of vs ++ drop (suc j) cols
      cols_are =
          ap (λ (l : List ℕ). pivots_of ts ++ l) (sym (take-append-drop (suc j) cols) ∙ ap (λ (l : List ℕ). l ++ drop (suc j) cols) (sym us-cols ∙ chain-cols_are D us q))
          ∙ sym (append_assoc (pivots_of ts) (pivots_of us ++ (q ∷ [])) (drop (suc j) cols))
          ∙ ap (λ (l : List ℕ). l ++ drop (suc j) cols) (sym (append_assoc (pivots_of ts) (pivots_of us) (q ∷ []))
          ∙ ap (λ (l : List ℕ). l ++ (q ∷ [])) (sym (pivots_join ts us)) ∙ sym (chain-cols_are D (ts ++ us) q))

      vals_are : xs ≡ vals_of vs
      vals_are = substitution_is D q 0 f.st.mat cols (λ y. y < z.m) S.full.wide (λ y k l i. S.shows y k l i) ts us
          (λ y i. low y (chosen_in y i)) (us_in j f S) (Kerp.chosen_apart z.m z.n q A rows v ts us halted) from
        where
          from : (0 + length (cols_of (chain D us q)) ≤ length cols)
              × ((i : ℕ) → i < length (cols_of (chain D us q)) → get_or (cols_of (chain D us q)) i 0 ≡ get_or cols (0 + i) 0)
          from = (
            omega (arith, ap length us-cols, long),
            λ i h. ap (λ (l : List ℕ). get_or l i 0) us-cols ∙ get_or-take (suc j) cols i 0 (omega (arith, ap length us-cols, long))
                ∙ ap (λ (k : ℕ). get_or cols k 0) (sym (zero-add i)),
          )

      is : (k : ℕ) → beside k (pivots_of ts ++ cols) xs ≡ value_of k vs
      is k =
          ap₂ (λ (c d : List ℕ). beside k c d) cols_are vals_are
          ∙ beside_more k (cols_of vs) (drop (suc j) cols) (vals_of vs) (length_vals vs) ∙ beside-value k vs

  blank : p.now.cols ≢ [] → Blank z A os
  blank some = record {
    left = some;
    zeros = λ y q i j. (
      zeros z A fit y q i j,
      kept-v A ts rows v walk.legal once A fit.entries (λ x k a b. refl) y q
          (subst (λ (l : List ℕ). Member l y) (sym walk.rows_left) (omega (arith, occ-append y p.now.elig (octet_rows z))))
          (subst (λ (l : List ℕ). Member l q) (sym walk.cols-left) j)
          ∙ zeros z A fit y q i j,
    );
  }

  second-says : Says z A (second z A p) (second z A p).end
  second-says = at_way (forward cols left X) refl ended
    where
      at_way : (w : Way (Out Op Second)) → turns_two z A ≡ w → Ended z.m B cols left (length cols) w
          → Says z A (finish z A ts os cols w) (finish z A ts os cols w).end
      at_way (go f) e S = solved_says f S
      at_way (halt j f) e S = singular_says j f e S.0 S.1 S.2

  pub means : (wide : Bool) → Says z A (defined z A wide) (defined z A wide).end
  means wide = at_end (goes_on z A wide p.now.cols) refl
    where
      at_end : (b : Bool) → goes_on z A wide p.now.cols ≡ b → Says z A (cond b (second z A p) (refused z A p)) (cond b (second z A p) (refused z A p)).end
      at_end true e = second-says
      at_end false e = blank (λ n. let g : ◌≡◌ {A = ℕ} 0 1 = ap (λ (b : Bool). cond b 0 1) (sym (ap (goes_on z A wide) n) ∙ e) in omega arith)
