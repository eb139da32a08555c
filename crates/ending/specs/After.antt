-- The state between the phases, as the code's slices hold it, and what each phase needs and leaves.
--   Z, A, p, ts, os, cols, rest, X   a system's shape and matrix; phase one, its steps and operations; the columns and rows that it leaves; the
--                    matrix of these columns, after its operations
--   First            after phase one, where V is empty
--   Reached          after phase two, where every column has a row
--   get_or_member      an entry of a list is one of its members
--   rows_facts, columns_facts   rows by place are below m, columns below l, each once
--   one_within, one_small   the rows of phase one's operations are below m; each operation fits a word
--   prepared_is      what phase two needs
-- Assumes nothing.
use Rattle.std.specs.Prelude.{◌≡◌, refl, ◌≢◌, List, [], ◌∷◌, ◌++◌, map, ℕ, zero, suc, ◌+◌, ◌-◌, ◌*◌, ◌≤◌, ◌<◌, length, get_or, take, drop}
use Rattle.std.proofs.Common.{sym, ap, ◌∙◌, subst, arith, length-append, length-drop, get_or-drop}
use Rattle.loops.specs.Out.{Out}
use Rattle.loops.specs.Way.{go}
use Rattle.bounds.specs.Bounds.{most_rows}
use Rattle.oplist.specs.declared.Op.{Op}
use Rattle.oplist.specs.declared.Op.TheVariants.{AddAssign, MulAssign, FMA}
use Rattle.oplist.specs.Ops.{Each, each_map, each_both}
use Rattle.oplist.specs.Ops as Ops
use Rattle.oplist.specs.Word.{Small, packed}
use Rattle.oplist.specs.Listed.{ops_of, ops_of-packed}
use Rattle.oplist.specs.Facts.{Rows, Order}
use Rattle.algebra.specs.Rows.{Within}
use Rattle.algebra.specs.Flat.{Bytes}
use Rattle.phases.specs.System.{Shape as Defined, range, combined, octet_rows}
use Rattle.phases.specs.One.{Step, Phase, rows_of, pivots_of, phase_one, ops_one}
use Rattle.phases.specs.Two.{Second, acts, working, forward, backward}
use Rattle.phases.specs.Occ.{occ, tick_eq, occ-append, Member, Once}
use Rattle.phases.specs.Fit.{Fit, all-rows, cols_once, cols-below}
use Rattle.phases.proofs.Fit.{rows_once, rows-below}
use Rattle.phases.specs.Sweep.{rows-kept}
use Rattle.phases.proofs.Sweep.{ops_within}
use Rattle.phases.specs.Walk.{Walked}
use Rattle.phases.proofs.Walk.{walked_end}
use Rattle.phases.specs.ByPlace.{length_pivots_of}
use Rattle.tally.specs.declared.Tally.{Tally}
use Rattle.tally.specs.Book.{book}
use Rattle.second.specs.Whole.{Prepared}
use Rattle.grid.specs.declared.shapes.Shape.{Shape}
use Rattle.ending.specs.Scalars.{Scaled, one-scaled}
use Rattle.ending.specs.Ran.{as_shape, Posed}
use Rattle.ending.specs.Told.{posed_fit}
use Rattle.ending.specs.Journal.{Holds, Counted, holds_short, holds_used, holds_words}

-- a list whose members occur once, below m
pub get_or_member : (xs : List ℕ) (k : ℕ) → k < length xs → Member xs (get_or xs k 0)
get_or_member [] k h = absurd (omega arith)
get_or_member (x ∷ xs) zero h = omega (arith, tick_eq x x refl)
get_or_member (x ∷ xs) (suc k) h = omega (arith, get_or_member xs k (omega arith))

once_tail : (x : ℕ) (xs : List ℕ) → Once (x ∷ xs) → Once xs
once_tail x xs o y = omega (arith, o y)

once_head : (x : ℕ) (xs : List ℕ) → Once (x ∷ xs) → (k : ℕ) → k < length xs → get_or xs k 0 ≢ x
once_head x xs o k h e =
    let m = get_or_member xs k h in
    let f : occ (get_or xs k 0) xs ≡ occ x xs = ap (λ (y : ℕ). occ y xs) e in
    omega (arith, o x, tick_eq x x refl)

once_apart : (xs : List ℕ) → Once xs → (i j : ℕ) → i < length xs → j < length xs → get_or xs i 0 ≡ get_or xs j 0 → i ≡ j
once_apart [] o i j h k e = absurd (omega arith)
once_apart (x ∷ xs) o zero zero h k e = refl
once_apart (x ∷ xs) o zero (suc j) h k e = absurd (once_head x xs o j (omega arith) (sym e))
once_apart (x ∷ xs) o (suc i) zero h k e = absurd (once_head x xs o i (omega arith) e)
once_apart (x ∷ xs) o (suc i) (suc j) h k e = ap suc (once_apart xs (once_tail x xs o) i j (omega arith) (omega arith) e)

rows_fact : (m : ℕ) (xs : List ℕ) → Once xs → ((y : ℕ) → Member xs y → y < m) → Rows m xs
rows_fact m xs o b = record { below = λ k h. b (get_or xs k 0) (get_or_member xs k h); apart = once_apart xs o }

small_op : (m : ℕ) → m ≤ most_rows → (o : Op) → Within m o × Scaled o → Small o
small_op m k (AddAssign d s) h = let w = h.0 in (omega arith, omega arith)
small_op m k (MulAssign d c) h = let w = h.0 in (omega arith, omega (arith, h.1))
small_op m k (FMA d s c) h = let w = h.0 in (omega arith, omega arith, omega (arith, h.1))

within_op : (m : ℕ) (o : Op) → Within m o → Ops.Within m o
within_op m (AddAssign d s) h = h
within_op m (MulAssign d c) h = h
within_op m (FMA d s c) h = h

module _ (z : Shape) (bits octets : List ℕ) where
  abbrev pub Z : Defined
  Z = as_shape z

  abbrev pub A : ℕ → ℕ → ℕ
  A = combined Z bits octets

  abbrev pub p : Phase
  p = phase_one A Z

  abbrev pub ts : List Step
  ts = p.steps

  abbrev pub os : List Op
  os = ops_one A ts

  abbrev pub cols : List ℕ
  cols = p.now.cols ++ p.out

  abbrev pub rest : List ℕ
  rest = p.now.elig ++ octet_rows Z

  abbrev pub X : List (List ℕ)
  X = acts os (working A z.m cols)

  -- i steps were made, and V is empty; rows and columns stand by place, and the list room holds phase one's list
  pub record First (i : ℕ) (c d ws : List ℕ) (t : Tally) : Type 0 where
    pub empty : p.now.cols ≡ []
    pub steps : i ≡ length ts
    pub columns : c ≡ pivots_of ts ++ cols
    pub rows : d ≡ rows_of ts ++ rest
    pub from : List ℕ
    pub held : Holds from os (book ws t)
    pub counts : length os ≤ length from → Counted os t.adds t.muls

  -- f is what phase two's first part left; the list room holds phase two's list behind phase one's
  pub record Reached (i : ℕ) (c d ws : List ℕ) (one two : Tally) : Type 0 where
    pub empty : p.now.cols ≡ []
    pub steps : i ≡ length ts
    pub columns : c ≡ pivots_of ts ++ cols
    pub f : Out Op Second
    pub way : forward cols rest X ≡ go f
    pub rows : d ≡ rows_of ts ++ (rows_of f.st.steps ++ f.st.left)
    pub order : Order z.m z.m d
    pub from : List ℕ
    pub size : length from ≡ length ws
    pub used : one.used ≡ length os
    pub short : length os ≤ length from
    pub words : take (length os) ws ≡ map packed os
    pub first : Counted os one.adds one.muls
    pub held : Holds from (os ++ (f.ops ++ backward f.st.mat (rows_of f.st.steps) (length f.st.steps))) (book ws two)
    pub second : length (os ++ (f.ops ++ backward f.st.mat (rows_of f.st.steps) (length f.st.steps))) ≤ length from
        → Counted (f.ops ++ backward f.st.mat (rows_of f.st.steps) (length f.st.steps)) two.adds two.muls

  module _ (P : Posed z bits octets) (hb : Bytes bits) (ho : Bytes octets) where
    fit : Fit Z A
    fit = posed_fit z bits octets P hb ho

    walk : Walked Z A p
    walk = walked_end Z A fit

    row-occ : (y : ℕ) → occ y (rows_of ts ++ rest) ≡ occ y (all-rows Z)
    row-occ y = occ-append y (rows_of ts) rest ∙ omega (arith, ap (occ y) walk.rows_left, rows-kept A ts (all-rows Z) (range 0 z.w) walk.legal y)

    column-occ : (q : ℕ) → occ q (pivots_of ts ++ cols) ≡ occ q (range 0 z.w) + occ q (range z.w (z.l - z.w))
    column-occ q = occ-append q (pivots_of ts) cols ∙ omega (arith, walk.columns q, occ-append q p.now.cols p.out)

    pub rows_facts : Rows z.m (rows_of ts ++ rest)
    rows_facts =
        rows_fact z.m (rows_of ts ++ rest) (λ y. omega (arith, row-occ y, rows_once Z fit.rows_fit y))
        (λ y k. rows-below Z fit.rows_fit y (omega (arith, row-occ y)))

    pub columns_facts : Rows z.l (pivots_of ts ++ cols)
    columns_facts =
        rows_fact z.l (pivots_of ts ++ cols) (λ q. omega (arith, column-occ q, cols_once Z fit.cols_fit q))
        (λ q k. cols-below Z fit.cols_fit q (omega (arith, column-occ q)))

    pub one_within : Each (Within z.m) os
    one_within = ops_within A z.m ts (all-rows Z) (range 0 z.w) walk.legal (rows-below Z fit.rows_fit)

    pub one_small : Each Small os
    one_small =
        each_map (λ (o : Op). Within z.m o × Scaled o) Small (small_op z.m P.few) os
        (each_both (Within z.m) Scaled os one_within (one-scaled A ts fit.entries))

    pub prepared_is : (i : ℕ) (c d ws w scratch : List ℕ) (t : Tally) → First i c d ws t → t.used ≤ length ws → length c ≡ z.l → length d ≡ z.m
        → length w ≡ z.m * z.l → length scratch ≡ z.l → Prepared z.m z.l z.s z.h i bits octets c d w scratch (book ws t)
    prepared_is i c d ws w scratch t F u lc ld lw ls =
        let k : length os ≤ length F.from = holds_short F.held (omega (arith, F.held.size)) in
        let n : t.used ≡ length os = holds_used F.held k in
        let lp : length (pivots_of ts ++ cols) ≡ length (pivots_of ts) + length cols = length-append (pivots_of ts) cols in
        let e : length (pivots_of ts ++ cols) ≡ z.l = ap length (sym F.columns) ∙ lc in
        let low : i ≤ z.l = omega (arith, F.steps, length_pivots_of ts) in
        let R : Rows z.l c = subst (Rows z.l) (sym F.columns) columns_facts in
        record {
          ready = record {
            rooms = record { store = record { size = lw; from = low }; row = omega arith; few = omega (arith, P.few) };
            order = record { size = ld; rows = subst (Rows z.m) (sym F.rows) rows_facts };
            wide = P.narrow;
            fair = F.held.fair;
          };
          filling = record {
            store = record { size = lw; from = low };
            binary = P.bits_size;
            octet = P.octets_size;
            last = omega (arith, P.rows_fit);
            columns = length-drop i c ∙ ap (λ (x : ℕ). x - i) lc;
            low = λ j h. subst (λ (x : ℕ). x < z.l) (sym (get_or_dropped i c j)) (R.below (i + j) (omega (arith, length-drop i c)));
          };
          columns = lc;
          held = u;
          within =
              subst (Each (Ops.Within z.m))
              (sym (ap (λ (x : ℕ). ops_of (take x ws)) n ∙ ap ops_of (holds_words F.held k) ∙ ops_of-packed os one_small))
              (each_map (Within z.m) (Ops.Within z.m) (within_op z.m) os one_within);
        }
      where
        get_or_dropped : (i : ℕ) (c : List ℕ) (j : ℕ) → get_or (drop i c) j 0 ≡ get_or c (i + j) 0
        get_or_dropped i c j = get_or-drop i c j 0
