-- Phase one's state in slices: what each slice holds after some steps of the definition.
--   Given          the matrix is one that the definition takes
--   Stands         the slices hold a phase
--   stands_one     slices that hold one phase are equal in what is in use, but for the figures of rows that were chosen
-- Their parts, and what the rule asks of them:
--   cols_long, rows_long     how many columns and rows there are: those of the steps, V's or the eligible ones, and the others
--   cols-part, rows-part     V's columns and the eligible rows, as parts of the slices
--   cols_apart, rows_apart   none of them is there twice
--   cols_under               V's columns are below the number of columns
--   elig_under, singles_under   the eligible rows, and the rows with a single one, are below the number of rows
--   bounds, u_fits           the ends of both parts lie in the slices; no more columns are out than there are
--   rule_ready               the slices are as the choice asks
--   least_is                 the least positive figure of the eligible rows is their least positive number of ones in V
--   chosen_is                the choice by the slices is the definition's
-- A step, where row x is chosen:
--   x_low, x_in, x_fits, x_figured   x is a row, is eligible, lies in the matrix, has a figure
--   ones_is, ones-some       its figure is the number of its ones in V; it is not zero
--   part_under               V's columns, as that part, are below the number of columns
--   cut-room, cut_at         V has as many columns as go besides the pivot; the place where these begin
--   u_next, i_next           the numbers of columns out and of steps stay below 65536
--   rows_then, cols_then     both parts after the exchanges: x before the rows that stay; the columns as the column rule lays them
--   wide_now, tall_now, bounds_now   both slices keep their lengths, and the ends of the parts lie in them
--   due_then                 what the figures of the step ask for holds
--   stands_next              then the slices hold the phase with row x taken
-- By the number of steps:
--   At, row_at                the phase after k steps; the row that is chosen then, or none
--   at_some                  where there is one, the phase after a step more is the one with it taken
--   Standing                 the slices hold the phase after i steps
-- Assumes nothing.
use Rattle.std.specs.Prelude.{◌≡◌, refl, get_or, take, eqb}
use Rattle.std.proofs.Math.Path.{sym, ap, ap₂, subst, fun_ext}
use Rattle.std.proofs.Common.{◌∙◌, inl, inr, ⊎_elim, arith, eqb-true}
use mathlib.Core.List.{List, [], ◌∷◌, ◌++◌, append_assoc}
use Rattle.std.proofs.Math.Option.{Option, some}
use Prim.Native.Nat.{ℕ, suc, ◌+◌, ◌-◌, ◌*◌, ◌≤◌, ◌<◌}
use Rattle.std.proofs.Math.ListN.{length, length-append}
use Rattle.phases.specs.Matrix.{length-range}
use Rattle.loops.specs.Part.{part, put, row_within}
use Rattle.loops.specs.Entry.{entry_at}
use Rattle.rule.specs.Lists.{In, Nodup, least_pos}
use Rattle.rule.specs.Sets.{bool_or, in_cast, sub_length, in_at}
use Rattle.rule.specs.Singles.{Removed, exchanged}
use Rattle.std.proofs.lemmas.Bool.{eqb-false}
use Rattle.rule.specs.Permitted.{count, Permitted}
use Rattle.rule.specs.Rule.{Marks, choose, chosen, Cut, arrange, without, next_singles, add_pairs, noted}
use Rattle.rule.specs.Step.{Arranged}
use Rattle.rule.specs.Chosen.{Good}
use Rattle.rule.proofs.Reached.{reached_good}
use Rattle.phases.specs.System.{Shape, range, first_rows, octet_rows}
use Rattle.phases.specs.One.{Step, Phase, rows_of, pivots_of, one, degree, begin, taken, taking, step, phase_after}
use Rattle.phases.specs.ByPlace.{rows_join, pivots_join, length-rows_of, length_pivots_of}
use Rattle.phases.specs.Occ.{occ, occ-append, occ-range, in_member, once_nodup}
use Rattle.phases.specs.Fit.{Fit, cols-below, cols_once, less?}
use Rattle.phases.proofs.Fit.{rows-below}
use Rattle.phases.proofs.Fit as Rp
use Rattle.phases.specs.Walk.{Walked}
use Rattle.phases.proofs.Walk.{permitted, cut_arranged, taken_walked}
use Rattle.grid.specs.Grid.{bit, Under, Rows}
use Rattle.singles.specs.Facts.{front-one}
use Rattle.singles.specs.Figures.{Sound}
use Rattle.singles.specs.Shrink.{Agree}
use Rattle.labels.specs.Marking.{marks_of, Ready, zeros, marks_one}
use Rattle.columns.specs.Sweep.{laid}
use Rattle.figures.specs.Told.{told, least_told}
use Rattle.choice.specs.Choose.{Ready as Asked}
use Rattle.stepping.specs.Parts.{mid_is, mid_put, tail_is, rest_part, out_part}
use Rattle.stepping.specs.Due.{Due, Shrunk, rest_of, out_of, below_of}
use Rattle.loops.specs.Loop.{for_next}
use Rattle.stepping.specs.Lengths.{Kept, arranged_lengths}

pub record Given (z : Shape) (bits : List ℕ) : Type 0 where
  pub fit : Fit z (entry_at z.n bits)
  pub size : length bits ≡ z.m * z.n
  pub few : z.m < 65536
  pub narrow : z.n ≤ z.m

pub record Stands (z : Shape) (bits : List ℕ) (p : Phase) (c d ones s labels : List ℕ) (i u n next : ℕ) : Type 0 where
  pub walked : Walked z (entry_at z.n bits) p
  pub cols : c ≡ pivots_of p.steps ++ (p.now.cols ++ p.out)
  pub rows : d ≡ rows_of p.steps ++ (p.now.elig ++ octet_rows z)
  pub wide : length c ≡ z.n
  pub tall : length d ≡ z.m
  pub i_is : i ≡ length p.steps
  pub u_is : u ≡ length p.out
  pub figures : Agree (count (bit z.n bits) p.now.cols) p.now.elig ones
  pub long : length ones ≡ z.m
  pub sound : Sound ones s n
  pub list : take n s ≡ p.now.singles
  pub marks : marks_of labels next ≡ p.now.marks
  pub ready : Ready labels next
  pub labelled : length labels ≡ z.n
  pub few : next + zeros labels ≤ z.n + z.n + 1

pub stands_one : {z : Shape} {bits : List ℕ} {p : Phase} {c d ones s labels c' d' ones' s' labels' : List ℕ} {i u n next i' u' n' next' : ℕ}
    → Stands z bits p c d ones s labels i u n next → Stands z bits p c' d' ones' s' labels' i' u' n' next'
    → (c ≡ c') × (d ≡ d') × (i ≡ i') × (u ≡ u') × (n ≡ n') × (take n s ≡ take n' s') × (labels ≡ labels') × (next ≡ next') × ((y : ℕ) → In y p.now.elig → told ones y ≡ told ones' y)
stands_one {s = s} {s' = s'} {n = n} {n' = n'} p q =
    let l = p.list ∙ sym q.list in
    let m = marks_one (p.labelled ∙ sym q.labelled) (p.marks ∙ sym q.marks) in (
      p.cols ∙ sym q.cols,
      p.rows ∙ sym q.rows,
      p.i_is ∙ sym q.i_is,
      p.u_is ∙ sym q.u_is,
      front-one s s' n n' p.sound.used q.sound.used l,
      l,
      m.0,
      m.1,
      λ y h. p.figures.is y h ∙ sym (q.figures.is y h),
    )

module _ {z : Shape} {bits : List ℕ} {p : Phase} {c d ones s labels : List ℕ} {i u n next : ℕ} (g : Given z bits) (h : Stands z bits p c d ones s labels i u n next) where
  abbrev A : ℕ → ℕ → ℕ
  A = entry_at z.n bits

  pub cols_long : i + length p.now.cols + u ≡ z.n
  cols_long =
      let e : length c ≡ length (pivots_of p.steps) + (length p.now.cols + length p.out) =
      ap length h.cols ∙ length-append (pivots_of p.steps) (p.now.cols ++ p.out) ∙ ap (λ (k : ℕ). length (pivots_of p.steps) + k) (length-append p.now.cols p.out) in
      omega (arith, h.wide, h.i_is, h.u_is, length_pivots_of p.steps)

  pub rows_long : i + length p.now.elig + z.h ≡ z.m
  rows_long =
      let e : length d ≡ length (rows_of p.steps) + (length p.now.elig + length (octet_rows z)) =
      ap length h.rows ∙ length-append (rows_of p.steps) (p.now.elig ++ octet_rows z) ∙ ap (λ (k : ℕ). length (rows_of p.steps) + k) (length-append p.now.elig (octet_rows z)) in
      omega (arith, h.tall, h.i_is, length-rows_of p.steps, length-range z.s z.h)

  pub cols-part : part i (z.n - u - i) c ≡ p.now.cols
  cols-part = ap (part i (z.n - u - i)) h.cols ∙ mid_is (pivots_of p.steps) p.now.cols p.out i (z.n - u - i) (h.i_is ∙ sym (length_pivots_of p.steps)) (omega (arith, cols_long))

  pub rows-part : part i (z.m - z.h - i) d ≡ p.now.elig
  rows-part = ap (part i (z.m - z.h - i)) h.rows ∙ mid_is (rows_of p.steps) p.now.elig (octet_rows z) i (z.m - z.h - i) (h.i_is ∙ sym (length-rows_of p.steps)) (omega (arith, rows_long))

  col_low : (q : ℕ) → In q p.now.cols → q < z.n
  col_low q m = cols-below z g.fit.cols_fit q (omega (arith, h.walked.columns q, in_member q p.now.cols m))

  row_low : (y : ℕ) → In y p.now.elig → y < z.m
  row_low y m =
      rows-below z g.fit.rows_fit y (omega (arith, occ-append y (first_rows z) (octet_rows z), h.walked.rest_in y (in_member y p.now.elig m)))

  good : Good (one A) p.now.cols p.now.elig p.now.singles p.now.marks
  good =
      reached_good (one A) (degree A z) (range 0 z.w) (first_rows z)
      (once_nodup (range 0 z.w) (λ q. omega (arith, cols_once z g.fit.cols_fit q)))
      (once_nodup (first_rows z) (λ y. omega (arith, rows_once_here y)))
      z.w below h.walked.reached
    where
      rows_once_here : (y : ℕ) → occ y (first_rows z) ≤ 1
      rows_once_here y = omega (arith, occ-append y (first_rows z) (octet_rows z), Rp.rows_once z g.fit.rows_fit y)

      below : (q : ℕ) → In q (range 0 z.w) → q < z.w
      below q m = ⊎_elim (λ l. l) (λ l. absurd (omega (arith, in_member q (range 0 z.w) m, (occ-range 0 z.w q).after (omega arith)))) (less? q z.w)

  pub cols_apart : Nodup p.now.cols
  cols_apart = good.columns

  pub rows_apart : Nodup p.now.elig
  rows_apart = good.rows

  under_of : {m : ℕ} (v : List ℕ) → ((q : ℕ) → In q v → q < m) → Under m v
  under_of v f = record { at = λ k l. f (get_or v k 0) (in_at v k l) }

  row_fits : (y : ℕ) → y < z.m → y * z.n + z.n ≤ length bits
  row_fits y l = subst (λ (k : ℕ). y * z.n + z.n ≤ k) (sym g.size) (row_within z.n z.m y l)

  rows_of_list : (e : List ℕ) → ((y : ℕ) → In y e → y < z.m) → Rows z.n (length bits) e
  rows_of_list e f = record { at = λ k l. row_fits (get_or e k 0) (f (get_or e k 0) (in_at e k l)) }

  pub cols_under : Under z.n p.now.cols
  cols_under = under_of p.now.cols col_low

  -- what the choice asks
  pub rule_ready : (room : ℕ) → z.n + z.n + 1 ≤ room → Asked z.n bits (part i (z.n - u - i) c) (part i (z.m - z.h - i) d) ones labels next room
  rule_ready room r =
      subst (λ (v : List ℕ). Asked z.n bits v (part i (z.m - z.h - i) d) ones labels next room) (sym cols-part)
      (subst (λ (e : List ℕ). Asked z.n bits p.now.cols e ones labels next room) (sym rows-part)
      (record {
        columns = cols_under;
        rows = rows_of_list p.now.elig row_low;
        figures = record { under = under_of p.now.elig h.figures.low; is = h.figures.is };
        has_label = under_of p.now.cols (λ q m. omega (arith, col_low q m, h.labelled));
        fresh = λ k l. h.ready.low (get_or p.now.cols k 0);
        some_label = h.ready.pos;
        fits = omega (arith, h.few);
      }))

  pub least_is : least_pos (told ones) (part i (z.m - z.h - i) d) ≡ least_pos (count (bit z.n bits) (part i (z.n - u - i) c)) (part i (z.m - z.h - i) d)
  least_is = least_told (rule_ready (z.n + z.n + 1) (omega arith)).figures

  pub elig_under : (m : ℕ) → m ≡ z.m → Under m (part i (z.m - z.h - i) d)
  elig_under m e = subst (Under m) (sym rows-part) (under_of p.now.elig (λ y k. omega (arith, row_low y k)))

  pub singles_under : (m : ℕ) → m ≡ z.m → Under m (take n s)
  singles_under m e = under_of (take n s) (λ y k. omega (arith, h.sound.held.under y k, h.long))

  pub bounds : (i ≤ z.n - u) × (z.n - u ≤ length c) × (i ≤ z.m - z.h) × (z.m - z.h ≤ length d)
  bounds = (omega (arith, cols_long), omega (arith, h.wide), omega (arith, rows_long), omega (arith, h.tall))

  pub u_fits : u ≤ z.n
  u_fits = omega (arith, cols_long)

  abbrev next_row : Option ℕ
  next_row = chosen (one A) (degree A z) p.now

  -- the choice by the slices is the definition's
  pub chosen_is : (deg : List ℕ) → ((x : ℕ) → told deg x ≡ degree A z x)
      → choose (bit z.n bits) (told deg) (part i (z.n - u - i) c) (part i (z.m - z.h - i) d) (take n s) (told labels) next ≡ next_row
  unfolding bit
  chosen_is deg q =
      ap (λ (v : List ℕ). choose (one A) (told deg) v (part i (z.m - z.h - i) d) (take n s) (told labels) next) cols-part
      ∙ ap (λ (e : List ℕ). choose (one A) (told deg) p.now.cols e (take n s) (told labels) next) rows-part
      ∙ ap (λ (f : ℕ → ℕ). choose (one A) f p.now.cols p.now.elig (take n s) (told labels) next) (fun_ext q)
      ∙ ap (λ (l : List ℕ). choose (one A) (degree A z) p.now.cols p.now.elig l (told labels) next) h.list
      ∙ ap (λ (m : Marks). choose (one A) (degree A z) p.now.cols p.now.elig p.now.singles m.lab m.next) h.marks

  -- a step: row x is chosen
  module _ (x : ℕ) (e : chosen (one (entry_at z.n bits)) (degree (entry_at z.n bits) z) p.now ≡ some x) where
    allowed : Permitted (one A) (degree A z) p.now.cols p.now.elig x
    allowed = permitted z A g.fit p h.walked x e

    abbrev k : Cut
    k = arrange (one A) p.now.cols x

    set_out : Arranged (one A) p.now.cols x k.pivot k.gone k.rest
    set_out = cut_arranged z A g.fit p h.walked x e

    pub x_low : x < z.m
    x_low = row_low x allowed.eligible

    pub x_in : In x (part i (z.m - z.h - i) d)
    x_in = subst (In x) (sym rows-part) allowed.eligible

    pub x_fits : x * z.n + z.n ≤ length bits
    x_fits = row_fits x x_low

    pub x_figured : x < length ones
    x_figured = omega (arith, x_low, h.long)

    pub part_under : Under z.n (part i (z.n - u - i) c)
    part_under = subst (Under z.n) (sym cols-part) cols_under

    -- r is its ones
    module _ {r : ℕ} (ri : r ≡ told ones x) where
      pub ones_is : r ≡ count (bit z.n bits) (part i (z.n - u - i) c) x
      ones_is = ri ∙ h.figures.is x allowed.eligible ∙ sym (ap (λ (v : List ℕ). count (bit z.n bits) v x) cols-part)

      pub ones-some : 0 < r
      unfolding bit
      ones-some = omega (arith, allowed.least.positive, allowed.exactly, h.figures.is x allowed.eligible, ri)

      sizes : Kept p.now.cols r (arrange (bit z.n bits) p.now.cols x)
      sizes = arranged_lengths (bit z.n bits) p.now.cols x r (ri ∙ h.figures.is x allowed.eligible) ones-some

      pub cut-room : r - 1 ≤ z.n - u - i
      cut-room = omega (arith, cols_long, sizes.whole, sizes.gone)

      pub u_next : u + (r - 1) < 65536
      u_next = omega (arith, cols_long, sizes.whole, sizes.gone, g.few, g.narrow)

      pub i_next : i + 1 < 65536
      i_next = omega (arith, cols_long, sizes.whole, g.few, g.narrow)

      -- the columns and rows then
      module _ {c' d' : List ℕ} (pd : d' ≡ put i (z.m - z.h - i) d (x ∷ without x (part i (z.m - z.h - i) d)))
          (pc : c' ≡ put i (z.n - u - i) c (laid (arrange (bit z.n bits) (part i (z.n - u - i) c) x))) (ul : Under z.n (laid (arrange (bit z.n bits) (part i (z.n - u - i) c) x))) where
        rows_now : d' ≡ rows_of p.steps ++ ((x ∷ without x p.now.elig) ++ octet_rows z)
        rows_now = pd ∙ ap₂ (λ (a b : List ℕ). put i (z.m - z.h - i) a (x ∷ without x b)) h.rows rows-part
            ∙ mid_put (rows_of p.steps) p.now.elig (octet_rows z) (x ∷ without x p.now.elig) i (z.m - z.h - i) (h.i_is ∙ sym (length-rows_of p.steps)) (omega (arith, rows_long))

        cols_now : c' ≡ pivots_of p.steps ++ (laid k ++ p.out)
        unfolding bit
        cols_now = pc ∙ ap₂ (λ (a b : List ℕ). put i (z.n - u - i) a (laid (arrange (one A) b x))) h.cols cols-part
            ∙ mid_put (pivots_of p.steps) p.now.cols p.out (laid k) i (z.n - u - i) (h.i_is ∙ sym (length_pivots_of p.steps)) (omega (arith, cols_long))

        split : Removed x p.now.elig (without x p.now.elig)
        split = exchanged x p.now.elig rows_apart allowed.eligible

        long_below : suc (length (without x p.now.elig)) ≡ length p.now.elig
        long_below =
            let a : length (x ∷ without x p.now.elig) ≤ length p.now.elig = sub_length (x ∷ without x p.now.elig) p.now.elig ((λ m. (split.from x m).1 refl), split.once)
            (λ y m. ⊎_elim (λ (q : y ≡ x). in_cast y x p.now.elig q allowed.eligible) (λ w. (split.from y w).0) m) in
            let b : length p.now.elig ≤ length (x ∷ without x p.now.elig) = sub_length p.now.elig (x ∷ without x p.now.elig) rows_apart
            (λ y m. ⊎_elim (λ t. inl (eqb-true y x t)) (λ t. inr (split.kept y m (eqb-false y x t))) (bool_or (eqb y x))) in
            omega arith

        pub rows_then : part i (z.m - z.h - i) d' ≡ x ∷ without x p.now.elig
        rows_then = ap (part i (z.m - z.h - i)) rows_now
            ∙ mid_is (rows_of p.steps) (x ∷ without x p.now.elig) (octet_rows z) i (z.m - z.h - i) (h.i_is ∙ sym (length-rows_of p.steps)) (omega (arith, rows_long, long_below))

        pub cols_then : part i (z.n - u - i) c' ≡ laid k
        unfolding bit
        cols_then = ap (part i (z.n - u - i)) cols_now
            ∙ mid_is (pivots_of p.steps) (laid k) p.out i (z.n - u - i) (h.i_is ∙ sym (length_pivots_of p.steps)) (omega (arith, cols_long, sizes.whole, length-append k.rest k.gone))

        pub wide_now : length c' ≡ length c
        unfolding bit
        wide_now =
            let a : length c' ≡ length (pivots_of p.steps) + (length (laid k) + length p.out) =
            ap length cols_now ∙ length-append (pivots_of p.steps) (laid k ++ p.out) ∙ ap (λ (j : ℕ). length (pivots_of p.steps) + j) (length-append (laid k) p.out) in
            omega (arith, cols_long, h.wide, h.i_is, h.u_is, length_pivots_of p.steps, sizes.whole, length-append k.rest k.gone)

        pub tall_now : length d' ≡ length d
        tall_now =
            let a : length d' ≡ length (rows_of p.steps) + (length (x ∷ without x p.now.elig) + length (octet_rows z)) =
            ap length rows_now ∙ length-append (rows_of p.steps) ((x ∷ without x p.now.elig) ++ octet_rows z)
            ∙ ap (λ (j : ℕ). length (rows_of p.steps) + j) (length-append (x ∷ without x p.now.elig) (octet_rows z)) in
            omega (arith, rows_long, h.tall, h.i_is, length-rows_of p.steps, long_below, length-range z.s z.h)

        pub bounds_now : (i ≤ z.n - u) × (z.n - u ≤ length c') × (i ≤ z.m - z.h) × (z.m - z.h ≤ length d')
        bounds_now = (bounds.0, omega (arith, wide_now, bounds.1), bounds.2, omega (arith, tall_now, bounds.3))

        pub cut_at : z.n - u - i - (r - 1) ≡ suc (length k.rest)
        unfolding bit
        cut_at = omega (arith, cols_long, sizes.rest)

        abbrev kk : ℕ
        kk = z.n - u - i - (r - 1)

        in_either_way : (y : ℕ) → In y (x ∷ without x p.now.elig) → In y p.now.elig
        in_either_way y m = ⊎_elim (λ (q : y ≡ x). in_cast y x p.now.elig q allowed.eligible) (λ w. (split.from y w).0) m

        agrees : Agree (count (bit z.n bits) (k.pivot ∷ (k.gone ++ k.rest))) (x ∷ without x p.now.elig) ones
        unfolding bit
        agrees = record {
          low = λ y m. h.figures.low y (in_either_way y m);
          is = λ y m. h.figures.is y (in_either_way y m) ∙ set_out.same (one A y);
        }

        rest-is : rest_of kk (laid k) ≡ k.rest
        rest-is = rest_part k.pivot k.rest k.gone kk cut_at

        out_is : out_of kk (laid k) ≡ k.gone
        out_is = out_part k.pivot k.rest k.gone kk cut_at

        below-is : below_of (x ∷ without x p.now.elig) ≡ without x p.now.elig
        below-is = tail_is x (without x p.now.elig) (length (x ∷ without x p.now.elig)) refl

        due_here : Due z.n bits x kk (laid k) (x ∷ without x p.now.elig) ones s n labels next
        unfolding bit
        due_here = record {
          low = omega (arith, cut_at);
          high = omega (arith, cut_at, length-append k.rest k.gone);
          columns = subst (λ (v : List ℕ). Under z.n (laid (arrange (one A) v x))) cols-part ul;
          rows = rows_of_list (x ∷ without x p.now.elig) (λ y m. row_low y (in_either_way y m));
          figured = under_of (x ∷ without x p.now.elig) (λ y m. h.figures.low y (in_either_way y m));
          first = ap (λ (b : List ℕ). x ∷ b) (sym below-is);
          apart = ((λ m. (split.from x m).1 refl), split.once);
          agree = subst (λ (b : List ℕ). Agree (count (one A) (k.pivot ∷ (b ++ rest_of kk (laid k)))) (x ∷ without x p.now.elig) ones) (sym out_is)
              (subst (λ (b : List ℕ). Agree (count (one A) (k.pivot ∷ (k.gone ++ b))) (x ∷ without x p.now.elig) ones) (sym rest-is) agrees);
          one = set_out.front;
          sound = h.sound;
          ready = h.ready;
          wide = omega (arith, h.labelled);
        }

        pub due_then : Due z.n bits x kk (part i (z.n - u - i) c') (part i (z.m - z.h - i) d') ones s n labels next
        due_then = subst (λ (v : List ℕ). Due z.n bits x kk v (part i (z.m - z.h - i) d') ones s n labels next) (sym cols_then)
            (subst (λ (b : List ℕ). Due z.n bits x kk (laid k) b ones s n labels next) (sym rows_then) due_here)

        module _ {ones' s' labels' : List ℕ} {n' next' : ℕ}
            (q : Shrunk (bit z.n bits) x kk (part i (z.n - u - i) c') (part i (z.m - z.h - i) d') ones s n labels next ones' s' n' labels' next') where
          q₀ : Shrunk (bit z.n bits) x kk (laid k) (x ∷ without x p.now.elig) ones s n labels next ones' s' n' labels' next'
          q₀ = subst (λ (b : List ℕ). Shrunk (bit z.n bits) x kk (laid k) b ones s n labels next ones' s' n' labels' next') rows_then
              (subst (λ (v : List ℕ). Shrunk (bit z.n bits) x kk v (part i (z.m - z.h - i) d') ones s n labels next ones' s' n' labels' next') cols_then q)

          singles_now : take n' s' ≡ next_singles (one A) k.rest x (without x p.now.elig) k.pivot k.gone p.now.singles
          unfolding bit
          singles_now = q₀.singles
              ∙ ap (λ (a : List ℕ). next_singles (one A) a x (below_of (x ∷ without x p.now.elig)) k.pivot (out_of kk (laid k)) (take n s)) rest-is
              ∙ ap (λ (a : List ℕ). next_singles (one A) k.rest x a k.pivot (out_of kk (laid k)) (take n s)) below-is
              ∙ ap (λ (a : List ℕ). next_singles (one A) k.rest x (without x p.now.elig) k.pivot a (take n s)) out_is
              ∙ ap (next_singles (one A) k.rest x (without x p.now.elig) k.pivot k.gone) h.list

          marks_now : marks_of labels' next' ≡ add_pairs (one A) k.rest p.now.marks (noted (one A) k.rest (without x p.now.elig) (k.pivot ∷ k.gone))
          unfolding bit
          marks_now = q₀.marks
              ∙ ap (λ (a : List ℕ). add_pairs (one A) a (marks_of labels next) (noted (one A) a (below_of (x ∷ without x p.now.elig)) (k.pivot ∷ out_of kk (laid k)))) rest-is
              ∙ ap (λ (a : List ℕ). add_pairs (one A) k.rest (marks_of labels next) (noted (one A) k.rest a (k.pivot ∷ out_of kk (laid k)))) below-is
              ∙ ap (λ (a : List ℕ). add_pairs (one A) k.rest (marks_of labels next) (noted (one A) k.rest (without x p.now.elig) (k.pivot ∷ a))) out_is
              ∙ ap (λ (m : Marks). add_pairs (one A) k.rest m (noted (one A) k.rest (without x p.now.elig) (k.pivot ∷ k.gone))) h.marks

          figures_now : Agree (count (bit z.n bits) k.rest) (without x p.now.elig) ones'
          figures_now = subst (λ (b : List ℕ). Agree (count (bit z.n bits) k.rest) b ones') below-is
              (subst (λ (a : List ℕ). Agree (count (bit z.n bits) a) (below_of (x ∷ without x p.now.elig)) ones') rest-is q₀.figures)

          new : Step
          new = record { row = x; pivot = k.pivot; under = without x p.now.elig ++ octet_rows z; left = k.rest }

          cols-next : c' ≡ pivots_of (p.steps ++ (new ∷ [])) ++ (k.rest ++ (k.gone ++ p.out))
          unfolding new
          cols-next = cols_now ∙ ap (λ (b : List ℕ). pivots_of p.steps ++ (k.pivot ∷ b)) (append_assoc k.rest k.gone p.out)
              ∙ sym (append_assoc (pivots_of p.steps) (k.pivot ∷ []) (k.rest ++ (k.gone ++ p.out)))
              ∙ ap (λ (b : List ℕ). b ++ (k.rest ++ (k.gone ++ p.out))) (sym (pivots_join p.steps (new ∷ [])))

          rows_next : d' ≡ rows_of (p.steps ++ (new ∷ [])) ++ (without x p.now.elig ++ octet_rows z)
          unfolding new
          rows_next = rows_now ∙ sym (append_assoc (rows_of p.steps) (x ∷ []) (without x p.now.elig ++ octet_rows z))
              ∙ ap (λ (b : List ℕ). b ++ (without x p.now.elig ++ octet_rows z)) (sym (rows_join p.steps (new ∷ [])))

          pub stands_next : Stands z bits (taken A z p x) c' d' ones' s' labels' (i + 1) (u + (r - 1)) n' next'
          unfolding bit new
          stands_next = record {
            walked = taken_walked z A g.fit p h.walked x e;
            cols = cols-next;
            rows = rows_next;
            wide = wide_now ∙ h.wide;
            tall = tall_now ∙ h.tall;
            i_is = omega (arith, h.i_is, length-append p.steps (new ∷ []));
            u_is = omega (arith, h.u_is, sizes.gone, length-append k.gone p.out);
            figures = figures_now;
            long = q.long ∙ h.long;
            sound = q.sound;
            list = singles_now;
            marks = marks_now;
            ready = q.ready;
            labelled = q.kept ∙ h.labelled;
            few = omega (arith, q.few, h.few);
          }

abbrev pub At : (z : Shape) → List ℕ → ℕ → Phase
At z bits k = phase_after (entry_at z.n bits) z k

abbrev pub row_at : (z : Shape) → List ℕ → ℕ → Option ℕ
row_at z bits k = chosen (one (entry_at z.n bits)) (degree (entry_at z.n bits) z) (At z bits k).now

pub at_some : (z : Shape) (bits : List ℕ) (k x : ℕ) → row_at z bits k ≡ some x → At z bits (k + 1) ≡ taken (entry_at z.n bits) z (At z bits k) x
at_some z bits k x e = for_next 0 k (λ _. step (entry_at z.n bits) z) (begin (entry_at z.n bits) z) (omega arith) ∙ ap (taking (entry_at z.n bits) z (At z bits k)) e

abbrev pub Standing : Shape → List ℕ → List ℕ → List ℕ → List ℕ → List ℕ → List ℕ → ℕ → ℕ → ℕ → ℕ → Type 0
Standing z bits c d ones s labels i u n next = Stands z bits (At z bits i) c d ones s labels i u n next
