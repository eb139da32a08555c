-- What phase one begins from, in slices.
--   shape               a shape from its numbers
--   Lent, Figured       what the figures are made from, and what they are, for the eligible rows e and the columns v of V
--   lent_columns        the columns of V are below l
--   Opens               the lengths of the slices, by the shape
--   Opened              each slice as phase one begins
--   opened_one          two outcomes that meet it are equal in what is in use
--   rows_low, rows_apart   the rows that may be chosen are below the number of rows, none twice
--   opens_columns, opens_rows, opens_lent, opened   V and the eligible rows as parts of their slices; what the figures ask; the whole
--   opened_figure       an eligible row's figure
--   opened_state, begins    they are the definition's first state
-- Assumes nothing.
use Rattle.std.specs.Prelude.{◌≡◌, refl, ◌⊎◌, List, [], ◌∷◌, ◌++◌, Bool, ℕ, zero, suc, ◌+◌, ◌-◌, ◌*◌, ◌≤◌, ◌<◌, length, get_or, take, eqb}
use Rattle.std.proofs.Common.{sym, ap, ap₂, subst, ◌∙◌, inl, inr, mul-le-mul_right, arith, length-append, take_at, ext_get_or, eqb-true}
use Rattle.std.proofs.Math.ListN.{get_or-eq_default}
use Rattle.loops.specs.Entry.{entry_at, entry_past}
use Rattle.rule.specs.Lists.{In, Nodup, filter}
use Rattle.rule.specs.Sets.{in_filter, nodup_filter, in_at}
use Rattle.rule.specs.Permitted.{count}
use Rattle.rule.specs.Rule.{Marks, start, first_singles, first_marks}
use Rattle.rule.specs.Alike.{filter_alike}
use Rattle.grid.specs.Grid.{bit, Under, Figures, figures_one}
use Rattle.singles.specs.Facts.{front-one}
use Rattle.singles.specs.Figures.{Held, Sound}
use Rattle.labels.specs.Marking.{marks_of, zeros, Ready, marks_one}
use Rattle.phases.specs.System.{Shape, range, first_rows, octet_rows}
use Rattle.phases.specs.One.{begin}
use Rattle.phases.specs.Matrix.{length-range}
use Rattle.phases.specs.Occ.{occ-append, in_member, once_nodup}
use Rattle.phases.specs.Fit.{less?}
use Rattle.phases.proofs.Fit.{rows_once, rows-below}
use Rattle.opening.specs.Rows.{rows_at_first, rows-at-first}
use Rattle.opening.specs.Marks.{FirstMarked, zeros_few, under_range}

abbrev pub shape : ℕ → ℕ → ℕ → ℕ → ℕ → Shape
shape m l s h w = record { m = m; n = l; s = s; h = h; w = w }

-- m figures of ones and of degrees, `room` entries for singles, `long` labels, and `sizes` entries of room
pub record Lent (l : ℕ) (bits e v : List ℕ) (m degrees room long sizes : ℕ) : Type 0 where
  pub columns : v ≡ range 0 (length v)
  pub within : length v ≤ l
  pub rows : Under m e
  pub matrix : m * l ≤ length bits
  pub measured : degrees ≤ m
  pub singles : length e ≤ room
  pub labelled : l ≤ long
  pub fits : long + 1 ≤ sizes

pub record Figured (row : ℕ → ℕ → Bool) (e v : List ℕ) (m degrees room long : ℕ) (fig deg s labels : List ℕ) (n next : ℕ) : Type 0 where
  pub ones_are : Figures (count row v) m fig
  pub degrees_are : Figures (count row v) degrees deg
  pub kept : length s ≡ room
  pub used : n ≤ length s
  pub singles : take n s ≡ filter (λ x. eqb (get_or fig x 0) 1) e
  pub marks : FirstMarked row v e long labels next

module _ {l : ℕ} {bits e v : List ℕ} {m degrees room long sizes : ℕ} (t : Lent l bits e v m degrees room long sizes) where
  pub lent_columns : Under l v
  lent_columns = under_range t.columns t.within

-- the lengths of the slices that are lent: the matrix, columns and rows by place, ones, degrees, singles, labels, and room for sizes
pub record Opens (z : Shape) (bits c d fig deg s labels sizes : ℕ) : Type 0 where
  pub matrix : bits ≡ z.m * z.n
  pub rows_fit : z.s + z.h + z.h ≤ z.m
  pub cols_fit : z.w ≤ z.n
  pub wide : c ≡ z.n
  pub tall : d ≡ z.m
  pub figured : fig ≡ z.m
  pub measured : deg ≡ z.m
  pub single : s ≡ z.m
  pub labelled : labels ≡ z.n
  pub sized : z.n + 1 ≤ sizes

-- c and d are the columns and rows by place, V first and the octet rows last; fig and deg are each row's ones in V; the first n of s are the rows
-- with a single one; each column has its label, below `next`
pub record Opened (z : Shape) (bits c d fig deg s labels : List ℕ) (n next : ℕ) : Type 0 where
  pub cols : c ≡ range 0 z.w ++ range z.w (z.n - z.w)
  pub rows : d ≡ first_rows z ++ octet_rows z
  pub wide : length c ≡ z.n
  pub tall : length d ≡ z.m
  pub figures : Figures (count (bit z.n bits) (range 0 z.w)) z.m fig
  pub measured : length deg ≡ z.m
  pub degrees : (x : ℕ) → get_or deg x 0 ≡ count (bit z.n bits) (range 0 z.w) x
  pub sound : Sound fig s n
  pub singles : take n s ≡ first_singles (bit z.n bits) (range 0 z.w) (first_rows z)
  pub marks : marks_of labels next ≡ first_marks (bit z.n bits) (range 0 z.w) (first_rows z) z.w
  pub ready : Ready labels next
  pub labelled : length labels ≡ z.n
  pub few : next + zeros labels ≤ z.n + z.n + 1

pub opened_one : {z : Shape} {bits c d fig deg s labels c' d' fig' deg' s' labels' : List ℕ} {n next n' next' : ℕ} → Opened z bits c d fig deg s labels n next
    → Opened z bits c' d' fig' deg' s' labels' n' next'
    → (c ≡ c') × (d ≡ d') × (fig ≡ fig') × (deg ≡ deg') × (n ≡ n') × (take n s ≡ take n' s') × (labels ≡ labels') × (next ≡ next')
opened_one {deg = deg} {s = s} {deg' = deg'} {s' = s'} {n = n} {n' = n'} p q =
    let l = p.singles ∙ sym q.singles in
    let m = marks_one (p.labelled ∙ sym q.labelled) (p.marks ∙ sym q.marks) in (
      p.cols ∙ sym q.cols,
      p.rows ∙ sym q.rows,
      figures_one p.figures q.figures,
      ext_get_or 0 deg deg' (p.measured ∙ sym q.measured) (λ x _. p.degrees x ∙ sym (q.degrees x)),
      front-one s s' n n' p.sound.used q.sound.used l,
      l,
      m.0,
      m.1,
    )

range_join : (a k j : ℕ) → range a (k + j) ≡ range a k ++ range (a + k) j
range_join a zero j =
    let e : zero + j ≡ j = omega arith in
    let f : a ≡ a + zero = omega arith in
    ap (range a) e ∙ ap (λ (i : ℕ). range i j) f
range_join a (suc k) j =
    let e : suc k + j ≡ suc (k + j) = omega arith in
    let f : suc a + k ≡ a + suc k = omega arith in
    ap (range a) e ∙ ap (λ (l : List ℕ). a ∷ l) (range_join (suc a) k j ∙ ap (λ (i : ℕ). range (suc a) k ++ range i j) f)

-- past the last row there is nothing
beyond : (l : ℕ) (bits C : List ℕ) (m x : ℕ) → length bits ≤ m * l → m ≤ x → count (bit l bits) C x ≡ 0
unfolding bit
beyond l bits [] m x h i = refl
beyond l bits (q ∷ C) m x h i =
    rw (entry_past l bits x q (omega (arith, mul-le-mul_right l i))) (beyond l bits C m x h i)

module _ (z : Shape) (fits : z.s + z.h + z.h ≤ z.m) where
  pub rows_low : (y : ℕ) → In y (first_rows z) → y < z.m
  rows_low y i = rows-below z fits y (omega (arith, in_member y (first_rows z) i, occ-append y (first_rows z) (octet_rows z)))

  pub rows_apart : Nodup (first_rows z)
  rows_apart = once_nodup (first_rows z) (λ y. omega (arith, rows_once z fits y, occ-append y (first_rows z) (octet_rows z)))

  length-rows : length (first_rows z) ≡ z.m - z.h
  length-rows = simp (length-append, length-range) (omega arith)

module _ {z : Shape} {bits c d fig deg s labels sizes : ℕ} (o : Opens z bits c d fig deg s labels sizes) where
  cols_are : {cs : List ℕ} → cs ≡ range 0 c → cs ≡ range 0 z.w ++ range z.w (z.n - z.w)
  cols_are e =
      let f : c ≡ z.w + (z.n - z.w) = omega (arith, o.wide, o.cols_fit) in
      e ∙ ap (range 0) f ∙ range_join 0 z.w (z.n - z.w) ∙ ap (λ (i : ℕ). range 0 z.w ++ range i (z.n - z.w)) (omega arith)

  rows_are : {ds : List ℕ} → ds ≡ rows_at_first d z.s z.h → ds ≡ first_rows z ++ octet_rows z
  rows_are e = e ∙ ap (λ (i : ℕ). rows_at_first i z.s z.h) o.tall ∙ rows-at-first z

  -- V, and the eligible rows
  pub opens_columns : {cs : List ℕ} → cs ≡ range 0 c → take z.w cs ≡ range 0 z.w
  opens_columns e = ap (take z.w) (cols_are e) ∙ take_at (range 0 z.w) (range z.w (z.n - z.w)) z.w (length-range 0 z.w)

  pub opens_rows : {ds : List ℕ} → ds ≡ rows_at_first d z.s z.h → take (z.m - z.h) ds ≡ first_rows z
  opens_rows e =
      ap (take (z.m - z.h)) (rows_are e) ∙ take_at (first_rows z) (octet_rows z) (z.m - z.h) (length-rows z o.rows_fit)

lent_at : (z : Shape) (bits : List ℕ) {c d fig deg s labels sizes : ℕ} → Opens z (length bits) c d fig deg s labels sizes
    → Lent z.n bits (first_rows z) (range 0 z.w) fig deg s labels sizes
lent_at z bits {c} {d} {fig} {deg} {s} {labels} {sizes} o =
    let w : length (range 0 z.w) ≡ z.w = length-range 0 z.w in
    let e : length (first_rows z) ≡ z.m - z.h = length-rows z o.rows_fit in
    record {
      columns = ap (range 0) (sym w);
      within = omega (arith, o.cols_fit);
      rows = record { at = λ k i. omega (arith, o.figured, rows_low z o.rows_fit (get_or (first_rows z) k 0) (in_at (first_rows z) k i)) };
      matrix = omega (arith, o.matrix, ap (λ (i : ℕ). i * z.n) o.figured);
      measured = omega (arith, o.figured, o.measured);
      singles = omega (arith, o.single);
      labelled = omega (arith, o.labelled);
      fits = omega (arith, o.labelled, o.sized);
    }

-- what the figures ask
pub opens_lent : (z : Shape) {bits : List ℕ} {c d fig deg s labels sizes : ℕ} {cs ds : List ℕ} → Opens z (length bits) c d fig deg s labels sizes
    → cs ≡ range 0 c → ds ≡ rows_at_first d z.s z.h
    → Lent z.n bits (take (z.m - z.h) ds) (take z.w cs) fig deg s labels sizes
opens_lent z {bits} {c} {d} {fig} {deg} {s} {labels} {sizes} {cs} {ds} o p q =
    subst (λ (e : List ℕ). Lent z.n bits e (take z.w cs) fig deg s labels sizes) (sym (opens_rows o q))
    (subst (λ (v : List ℕ). Lent z.n bits (first_rows z) v fig deg s labels sizes) (sym (opens_columns o p)) (lent_at z bits o))

module _ (z : Shape) (bits : List ℕ) {c d ones-long deg-long room long sizes : ℕ} (o : Opens z (length bits) c d ones-long deg-long room long sizes)
    {fig deg s labels : List ℕ} {n next : ℕ} (f : Figured (bit z.n bits) (first_rows z) (range 0 z.w) ones-long deg-long room long fig deg s labels n next) where
  figures_at : Figures (count (bit z.n bits) (range 0 z.w)) z.m fig
  figures_at = subst (λ (i : ℕ). Figures (count (bit z.n bits) (range 0 z.w)) i fig) o.figured f.ones_are

  figure_at : (y : ℕ) → In y (first_rows z) → get_or fig y 0 ≡ count (bit z.n bits) (range 0 z.w) y
  figure_at y i = figures_at.each y (rows_low z o.rows_fit y i)

  held : Held fig (filter (λ x. eqb (get_or fig x 0) 1) (first_rows z))
  held = record {
    once = nodup_filter (λ x. eqb (get_or fig x 0) 1) (first_rows z) (rows_apart z o.rows_fit);
    under = λ y i. omega (arith, figures_at.long, rows_low z o.rows_fit y (in_filter (λ x. eqb (get_or fig x 0) 1) (first_rows z) y i).0);
    single = λ y i. eqb-true (get_or fig y 0) 1 (in_filter (λ x. eqb (get_or fig x 0) 1) (first_rows z) y i).1;
  }

  degree-at : (x : ℕ) → get_or deg x 0 ≡ count (bit z.n bits) (range 0 z.w) x
  degree-at x = go (less? x deg-long)
    where
      go : (x < deg-long) ⊎ (deg-long ≤ x) → get_or deg x 0 ≡ count (bit z.n bits) (range 0 z.w) x
      go (inl h) = f.degrees_are.each x h
      go (inr h) =
          get_or-eq_default deg 0 (omega (arith, f.degrees_are.long))
          ∙ sym (beyond z.n bits (range 0 z.w) z.m x (omega (arith, o.matrix)) (omega (arith, o.measured)))

  opened_at : {cs ds : List ℕ} → cs ≡ range 0 c → ds ≡ rows_at_first d z.s z.h → Opened z bits cs ds fig deg s labels n next
  opened_at {cs} {ds} p q = record {
    cols = cols_are o p;
    rows = rows_are o q;
    wide = ap length p ∙ length-range 0 c ∙ o.wide;
    tall = ap length (rows_are o q) ∙ length-append (first_rows z) (octet_rows z) ∙ ap₂ (λ (a b : ℕ). a + b) (length-rows z o.rows_fit) (length-range z.s z.h) ∙ omega (arith, o.rows_fit);
    figures = figures_at;
    measured = f.degrees_are.long ∙ o.measured;
    degrees = degree-at;
    sound = record {
      room = f.kept ∙ o.single ∙ sym figures_at.long;
      used = f.used;
      held = subst (Held fig) (sym f.singles) held;
    };
    singles = f.singles ∙ filter_alike (λ x. eqb (get_or fig x 0) 1) (λ x. eqb (count (bit z.n bits) (range 0 z.w) x) 1) (first_rows z)
        (λ y i. ap (λ (k : ℕ). eqb k 1) (figure_at y i));
    marks = f.marks.is ∙ ap (first_marks (bit z.n bits) (range 0 z.w) (first_rows z)) (length-range 0 z.w);
    ready = f.marks.ready;
    labelled = f.marks.kept ∙ o.labelled;
    few = omega (arith, f.marks.next, f.marks.kept, length-range 0 z.w, zeros_few labels, o.labelled, o.cols_fit);
  }

-- the whole
pub opened : (z : Shape) {bits : List ℕ} {c d ones-long deg-long room long sizes : ℕ} {cs ds fig deg s labels : List ℕ} {n next : ℕ}
    → Opens z (length bits) c d ones-long deg-long room long sizes → cs ≡ range 0 c → ds ≡ rows_at_first d z.s z.h
    → Figured (bit z.n bits) (take (z.m - z.h) ds) (take z.w cs) ones-long deg-long room long fig deg s labels n next
    → Opened z bits cs ds fig deg s labels n next
opened z {bits} {c} {d} {ones-long} {deg-long} {room} {long} {sizes} {cs} {ds} {fig} {deg} {s} {labels} {n} {next} o p q f =
    opened_at z bits o
    (subst (λ (e : List ℕ). Figured (bit z.n bits) e (range 0 z.w) ones-long deg-long room long fig deg s labels n next) (opens_rows o q)
    (subst (λ (v : List ℕ). Figured (bit z.n bits) (take (z.m - z.h) ds) v ones-long deg-long room long fig deg s labels n next) (opens_columns o p) f)) p q

-- for the steps that follow
pub opened_figure : {z : Shape} {bits c d fig deg s labels : List ℕ} {n next : ℕ} → z.s + z.h + z.h ≤ z.m → Opened z bits c d fig deg s labels n next
    → (y : ℕ) → In y (first_rows z) → (y < length fig) × (get_or fig y 0 ≡ count (bit z.n bits) (range 0 z.w) y)
opened_figure {z} h o y i = (omega (arith, o.figures.long, rows_low z h y i), o.figures.each y (rows_low z h y i))

pub opened_state : {z : Shape} {bits c d fig deg s labels : List ℕ} {n next : ℕ} → Opened z bits c d fig deg s labels n next
    → record { cols = range 0 z.w; elig = first_rows z; singles = take n s; marks = marks_of labels next } ≡ start (bit z.n bits) (range 0 z.w) (first_rows z) z.w
opened_state {z} o = ap₂ (λ (a : List ℕ) (b : Marks). record { cols = range 0 z.w; elig = first_rows z; singles = a; marks = b }) o.singles o.marks

-- that state is the definition's, over the binary matrix
pub begins : (z : Shape) (bits : List ℕ) → start (bit z.n bits) (range 0 z.w) (first_rows z) z.w ≡ (begin (entry_at z.n bits) z).now
unfolding bit
begins z bits = refl
