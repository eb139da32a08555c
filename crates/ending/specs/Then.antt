-- Phase two's two ends, and the phases after it.
--   two_of           the whole of phase two's list: its first part, then what clears the columns above
--   reached_is       phase two went through
--   Stuck, stuck_is  phase two stopped at a column without pivot: its place, and what is left
--   run_is           where V is empty, the defined run goes on to phase two
-- Assumes nothing.
use Rattle.std.specs.Prelude.{◌≡◌, refl, false, cond, List, [], ◌++◌, ℕ, ◌+◌, ◌≤◌, length, take, drop, Result, Ok, Err, ⊤}
use Rattle.std.proofs.Common.{sym, ap, ap₂, ◌∙◌, subst, arith, take-append-drop, take_at, drop_at}
use Rattle.loops.specs.Room.{notes}
use Rattle.loops.specs.Out.{Out}
use Rattle.loops.specs.Way.{Way, go, halt}
use Rattle.oplist.specs.declared.Op.{Op}
use Rattle.oplist.specs.Listed.{ops_of, ops_of-packed}
use Rattle.oplist.specs.Facts.{Order}
use Rattle.algebra.specs.Flat.{Bytes}
use Rattle.phases.specs.One.{rows_of, pivots_of}
use Rattle.phases.specs.Two.{Second, forward, backward}
use Rattle.phases.specs.Run.{second, refused, goes_on, defined}
use Rattle.phases.specs.ByPlace.{length-rows_of, length_pivots_of}
use Rattle.tally.specs.declared.Tally.{Tally}
use Rattle.tally.specs.Book.{Book, book, note, anew}
use Rattle.second.specs.declared.Singular.{Singular}
use Rattle.second.specs.Store.{store_of}
use Rattle.second.specs.Forward.{through, stopped}
use Rattle.second.specs.Fill.{entries}
use Rattle.second.specs.Whole.{finished, both, begun, Reduced, reduced_length}
use Rattle.rest.specs.Again.{words_kept}
use Rattle.grid.specs.declared.shapes.Shape.{Shape}
use Rattle.ending.specs.Ran.{Posed}
use Rattle.ending.specs.Journal.{Holds, Counted, holds_more, holds_short, holds_used, holds_words, holds-counts}
use Rattle.ending.specs.After.{Z, A, p, ts, os, cols, rest, X, First, Reached, one_small}

-- the whole of phase two's list
abbrev pub two_of : Out Op Second → List Op
two_of f = f.ops ++ backward f.st.mat (rows_of f.st.steps) (length f.st.steps)

record Went (w : Way (Out Op Second)) (g : Out Op Second) : Type 0 where
  f : Out Op Second
  way : w ≡ go f
  st : g.st ≡ f.st
  ops : g.ops ≡ two_of f

went : (w : Way (Out Op Second)) (g : Out Op Second) → finished w ≡ go g → Went w g
went (go f) g e =
    let a : g ≡ record { st = f.st; ops = two_of f } = cc in
    record { f = f; way = refl; st = ap (λ (x : Out Op Second). x.st) a; ops = ap (λ (x : Out Op Second). x.ops) a }
went (halt j f) g e = let z : ◌≡◌ {A = ℕ} 0 1 = cc in absurd (omega arith)

halted : (w : Way (Out Op Second)) (j : ℕ) (g : Out Op Second) → finished w ≡ halt j g → w ≡ halt j g
halted (go f) j g e = let z : ◌≡◌ {A = ℕ} 0 1 = cc in absurd (omega arith)
halted (halt i f) j g e = e

module _ (z : Shape) (bits octets : List ℕ) where
  pub run_is : (p z bits octets).now.cols ≡ [] → defined (Z z bits octets) (A z bits octets) false ≡ second (Z z bits octets) (A z bits octets) (p z bits octets)
  run_is e = ap (λ (l : List ℕ). cond (goes_on (Z z bits octets) (A z bits octets) false l) (second (Z z bits octets) (A z bits octets) (p z bits octets))
      (refused (Z z bits octets) (A z bits octets) (p z bits octets))) e

  -- phase two stopped at place q: column j of those that were left
  pub record Stuck (i q : ℕ) (c d w ws : List ℕ) (two : Tally) : Type 0 where
    pub empty : (p z bits octets).now.cols ≡ []
    pub steps : i ≡ length (ts z bits octets)
    pub columns : c ≡ pivots_of (ts z bits octets) ++ cols z bits octets
    pub f : Out Op Second
    pub j : ℕ
    pub place : q ≡ i + j
    pub way : forward (cols z bits octets) (rest z bits octets) (X z bits octets) ≡ halt j f
    pub rows : d ≡ rows_of (ts z bits octets) ++ (rows_of f.st.steps ++ f.st.left)
    pub mat : store_of z.m z.l i w ≡ f.st.mat
    pub order : Order z.m z.m d
    pub from : List ℕ
    pub size : length from ≡ length ws
    pub held : Holds from (os z bits octets ++ f.ops) (book ws two)

  module _ (P : Posed z bits octets) (hb : Bytes bits) (ho : Bytes octets) (i : ℕ) (c d₀ ws₀ : List ℕ) (t : Tally) (F : First z bits octets i c d₀ ws₀ t)
      (u : t.used ≤ length ws₀) where
    short : length (os z bits octets) ≤ length F.from
    short = holds_short F.held (omega (arith, F.held.size))

    used : t.used ≡ length (os z bits octets)
    used = holds_used F.held short

    tc : drop i c ≡ cols z bits octets
    tc = ap (drop i) F.columns ∙ drop_at (pivots_of (ts z bits octets)) (cols z bits octets) i (length_pivots_of (ts z bits octets) ∙ sym F.steps)

    td : drop i d₀ ≡ rest z bits octets
    td = ap (drop i) F.rows ∙ drop_at (rows_of (ts z bits octets)) (rest z bits octets) i (length-rows_of (ts z bits octets) ∙ sym F.steps)

    tk : take i d₀ ≡ rows_of (ts z bits octets)
    tk = ap (take i) F.rows ∙ take_at (rows_of (ts z bits octets)) (rest z bits octets) i (length-rows_of (ts z bits octets) ∙ sym F.steps)

    listed : ops_of (take t.used ws₀) ≡ os z bits octets
    listed =
        ap (λ (x : ℕ). ops_of (take x ws₀)) used ∙ ap ops_of (holds_words F.held short) ∙ ops_of-packed (os z bits octets) (one_small z bits octets P hb ho)

    W : Way (Out Op Second)
    W = both (drop i c) (drop i d₀) (begun (entries z.m z.l z.s z.h bits octets) z.m (drop i c) (ops_of (take t.used ws₀)))

    W_is : both (drop i c) (drop i d₀) (begun (entries z.m z.l z.s z.h bits octets) z.m (drop i c) (ops_of (take t.used ws₀)))
        ≡ finished (forward (cols z bits octets) (rest z bits octets) (X z bits octets))
    W_is = rw (tc, td, listed)

    joined : (d : List ℕ) (ys : List ℕ) → take i d ≡ take i d₀ → drop i d ≡ ys → d ≡ rows_of (ts z bits octets) ++ ys
    joined d ys a b = sym (take-append-drop i d) ∙ ap₂ (λ (x y : List ℕ). x ++ y) (a ∙ tk) b

    pub reached_is : {x : Result ⊤ Singular} {two : Tally} (w d ws : List ℕ) → x ≡ Ok tt → Reduced z.m z.l z.s z.h i bits octets c d₀ (book ws₀ t) x w d (book ws two)
        → Reached z bits octets i c d ws t two
    reached_is {x} {two} w d ws a Q =
        let e = reduced_length Q in
        let R = subst (λ (y : Result ⊤ Singular). Reduced z.m z.l z.s z.h i bits octets c d₀ (book ws₀ t) y w d (book ws two)) a Q in
        let T = through i (anew (book ws₀ t)) (both (drop i c) (drop i d₀) (begun (entries z.m z.l z.s z.h bits octets) z.m (drop i c) (ops_of (take t.used ws₀)))) R.is in
        let N = went (forward (cols z bits octets) (rest z bits octets) (X z bits octets)) T.f (sym W_is ∙ T.way) in
        let g : book ws two ≡ notes note (anew (book ws₀ t)) (two_of N.f) = T.ran.list ∙ ap (notes note (anew (book ws₀ t))) N.ops in
        record {
          empty = F.empty;
          steps = F.steps;
          columns = F.columns;
          f = N.f;
          way = N.way;
          rows = joined d _ R.chosen (T.ran.rows ∙ ap (λ (s : Second). rows_of s.steps ++ s.left) N.st);
          order = R.order;
          from = F.from;
          size = sym F.held.size ∙ sym e;
          used = used;
          short = short;
          words =
              ap (λ (b : Book). take (length (os z bits octets)) b.words) g
              ∙ words_kept (two_of N.f) (length (os z bits octets)) (anew (book ws₀ t)) (omega (arith, used)) (omega (arith, short, F.held.size))
              ∙ holds_words F.held short;
          first = F.counts short;
          held = subst (Holds F.from (os z bits octets ++ two_of N.f)) (sym g) (holds_more F.held (two_of N.f));
          second = λ k. subst (λ (b : Book). Counted (two_of N.f) b.adds b.muls) (sym g) (holds-counts F.held (two_of N.f) k);
        }

    pub stuck_is : {x : Result ⊤ Singular} {q : ℕ} {two : Tally} (w d ws : List ℕ) → x ≡ Err (record { place = q }) → Reduced z.m z.l z.s z.h i bits octets c d₀ (book ws₀ t) x w d (book ws two)
        → Stuck i q c d w ws two
    stuck_is {x} {q} {two} w d ws a Q =
        let e = reduced_length Q in
        let R = subst (λ (y : Result ⊤ Singular). Reduced z.m z.l z.s z.h i bits octets c d₀ (book ws₀ t) y w d (book ws two)) a Q in
        let T = stopped i (anew (book ws₀ t)) (both (drop i c) (drop i d₀) (begun (entries z.m z.l z.s z.h bits octets) z.m (drop i c) (ops_of (take t.used ws₀)))) R.is in
        let g : book ws two ≡ notes note (anew (book ws₀ t)) T.f.ops = T.ran.list in
        record {
          empty = F.empty;
          steps = F.steps;
          columns = F.columns;
          f = T.f;
          j = T.j;
          place = T.place;
          way = halted (forward (cols z bits octets) (rest z bits octets) (X z bits octets)) T.j T.f (sym W_is ∙ T.way);
          rows = joined d _ R.chosen T.ran.rows;
          mat = T.ran.mat;
          order = R.order;
          from = F.from;
          size = sym F.held.size ∙ sym e;
          held = subst (Holds F.from (os z bits octets ++ T.f.ops)) (sym g) (holds_more F.held T.f.ops);
        }
