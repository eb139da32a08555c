-- Phase one's two ends, as the code's slices hold them.
--   unused, fair_unused   nothing recorded yet; a journal with nothing recorded is fair
--   given_is, lent_is   what phase one needs
--   first-is         V was emptied
--   first-full       the list has passed the room
--   room-kept, blank_again, ran_from, ran_with   the parts of a run joined
--   pivotless        columns are left in V: no pivot
-- Assumes nothing.
use Rattle.std.specs.Prelude.{◌≡◌, refl, ◌⊎◌, cond, ℕ, ◌+◌, ◌≤◌, ◌<◌, Err}
use Rattle.std.proofs.Common.{sym, ap, ◌∙◌, inl, inr, arith}
use Rattle.std.proofs.Math.Path.{subst}
use Rattle.std.proofs.Math.Bool.{true, false}
use mathlib.Core.List.{List, [], ◌∷◌, ◌++◌}
use borrow.Author.Tests.{lt-ltb, le-ltb}
use Rattle.std.proofs.Math.Dec.{ltb}
use Rattle.std.proofs.Math.ListN.{length, length-append}
use Rattle.loops.specs.Entry.{entry-any}
use Rattle.loops.specs.Out.{Out}
use Rattle.loops.specs.Way.{Way, go, halt}
use Rattle.oplist.specs.declared.Op.{Op}
use Rattle.octet.specs.Field.{Octet}
use Rattle.algebra.specs.Flat.{Bytes}
use Rattle.phases.specs.System.{first_rows, octet_rows}
use Rattle.phases.specs.Two.{Second, forward}
use Rattle.phases.specs.Run.{Answer as Told, Run, whole, finish, second, refused, goes_on, defined}
use Rattle.phases.specs.Occ.{occ-append, occ-range, Member}
use Rattle.phases.specs.Fit.{Fit, less?}
use Rattle.phases.proofs.Fit.{rows_once}
use Rattle.tally.specs.declared.Tally.{Tally}
use Rattle.tally.specs.Book.{Book, book, Fair}
use Rattle.stepping.specs.Stands.{Given}
use Rattle.firstphase.specs.Ended.{Ended}
use Rattle.firstphase.specs.Begins.{Lent}
use Rattle.grid.specs.declared.shapes.Shape.{Shape}
use Rattle.answers.specs.Answers.{Answer}
use Rattle.answers.specs.declared.Refusal.TheVariants.{ListFull, NoPivot}
use Rattle.call.specs.Over.{blank, over_same, length_over}
use Rattle.call.specs.Call.{Working, answer_of, told}
use Rattle.ending.specs.Ran.{as_shape, Posed, Ran}
use Rattle.ending.specs.Told.{posed_fit, entered_at}
use Rattle.ending.specs.Journal.{Holds, Counted, holds-first, holds_short, holds_long, counts-first}
use Rattle.ending.specs.After.{Z, A, p, ts, os, cols, rest, X, First}
use Rattle.running.specs.Lent.{Cut}

-- nothing recorded yet
abbrev pub unused : Tally
unused = record { used = 0; adds = 0; muls = 0 }

none_left : (l : List ℕ) → length l ≡ 0 → l ≡ []
none_left [] e = refl
none_left (q ∷ l) e = absurd (omega arith)

pub fair_unused : (ws : List ℕ) → Fair (book ws unused)
fair_unused ws = record { adds_few = omega arith; muls_few = omega arith; used_few = omega arith }

first_long : (r : Run) → length r.one ≤ length (whole r)
first_long r =
    omega (
      arith,
      length-append (r.one ++ r.two ++ r.three ++ r.four) r.five,
      length-append (r.one ++ r.two ++ r.three) r.four,
      length-append (r.one ++ r.two) r.three,
      length-append r.one r.two,
    )

module _ (z : Shape) (bits octets : List ℕ) where
  one-is : (defined (Z z bits octets) (A z bits octets) false).one ≡ os z bits octets
  one-is = at-cols (p z bits octets).now.cols
    where
      at_way : (w : Way (Out Op Second)) → (finish (Z z bits octets) (A z bits octets) (ts z bits octets) (os z bits octets) (cols z bits octets) w).one ≡ os z bits octets
      at_way (go f) = refl
      at_way (halt j f) = refl

      at-cols : (l : List ℕ) → (cond (goes_on (Z z bits octets) (A z bits octets) false l) (second (Z z bits octets) (A z bits octets) (p z bits octets))
          (refused (Z z bits octets) (A z bits octets) (p z bits octets))).one ≡ os z bits octets
      at-cols [] = at_way (forward (cols z bits octets) (rest z bits octets) (X z bits octets))
      at-cols (q ∷ l) = refl

  refused-is : 0 < length (p z bits octets).now.cols → defined (Z z bits octets) (A z bits octets) false ≡ refused (Z z bits octets) (A z bits octets) (p z bits octets)
  refused-is = at (p z bits octets).now.cols
    where
      at : (l : List ℕ) → 0 < length l → cond (goes_on (Z z bits octets) (A z bits octets) false l) (second (Z z bits octets) (A z bits octets) (p z bits octets))
          (refused (Z z bits octets) (A z bits octets) (p z bits octets)) ≡ refused (Z z bits octets) (A z bits octets) (p z bits octets)
      at [] h = absurd (omega arith)
      at (q ∷ l) h = refl

  module _ (P : Posed z bits octets) (hb : Bytes bits) (ho : Bytes octets) where
    fit : Fit (Z z bits octets) (A z bits octets)
    fit = posed_fit z bits octets P hb ho

    -- a row that may be chosen is no octet row
    outside : (x : ℕ) → Member (first_rows (Z z bits octets)) x → (x < z.s) ⊎ (z.s + z.h ≤ x)
    outside x i = at (less? x z.s) (less? x (z.s + z.h))
      where
        at : (x < z.s) ⊎ (z.s ≤ x) → (x < z.s + z.h) ⊎ (z.s + z.h ≤ x) → (x < z.s) ⊎ (z.s + z.h ≤ x)
        at (inl a) b = inl a
        at (inr a) (inr b) = inr b
        at (inr a) (inl b) =
            absurd (omega (
              arith,
              (occ-range z.s z.h x).inside a b,
              rows_once (Z z bits octets) fit.rows_fit x,
              occ-append x (first_rows (Z z bits octets)) (octet_rows (Z z bits octets)),
            ))

    pub given_is : Given (as_shape z) bits
    given_is = record {
      fit = record {
        entries = λ x q. entry-any z.l bits x q Octet (omega arith) hb;
        binary = λ x q i l. entered_at z.l z.s z.h bits P.entries x q (outside x i);
        rows_fit = P.rows_fit;
        cols_fit = P.cols_fit;
      };
      size = P.bits_size;
      few = omega (arith, P.few);
      narrow = P.narrow;
    }

    pub lent_is : (order vector : List ℕ) (w : Working) → Cut z order vector w
        → Lent (as_shape z) (length octets) (length w.columns) (length w.rows) (length w.ones) (length w.degrees) (length w.singles) (length w.labels) (length w.sizes)
    lent_is order vector w u = record {
      wide = u.columns_size;
      tall = u.rows-size;
      figured = u.ones-size;
      measured = u.degrees_size;
      single = u.singles_size;
      labelled = u.labels_size;
      sized = omega (arith, u.sizes-size);
      octets = omega (arith, P.octets_size);
    }

    module _ {g₀ : Book} {c d ws ws₀ : List ℕ} {t : Tally} (start : g₀ ≡ book ws₀ unused)
        (E : Ended (as_shape z) bits octets (p z bits octets) g₀ c d (book ws t)) where
      E' : Ended (as_shape z) bits octets (p z bits octets) (book ws₀ unused) c d (book ws t)
      E' = subst (λ (g : Book). Ended (as_shape z) bits octets (p z bits octets) g c d (book ws t)) start E

      held : Holds ws₀ (os z bits octets) (book ws t)
      held = subst (Holds ws₀ (os z bits octets)) (sym E'.listed.is) (holds-first ws₀ (book ws₀ unused) refl refl (fair_unused ws₀) (os z bits octets))

      pub first-is : {i : ℕ} → i ≡ length (ts z bits octets) → length (p z bits octets).now.cols ≡ 0 → First z bits octets i c d ws t
      first-is e k = record {
        empty = none_left (p z bits octets).now.cols k;
        steps = e;
        columns = E'.cols;
        rows = E'.rows;
        from = ws₀;
        held = held;
        counts = λ k. subst (λ (b : Book). Counted (os z bits octets) b.adds b.muls) (sym E'.listed.is) (counts-first (book ws₀ unused) refl refl refl (os z bits octets) k);
      }

      same_room : length ws ≡ length ws₀
      same_room = held.size

      pub first-full : (order₀ vector₀ order vector : List ℕ) → length ws < t.used → order ≡ blank order₀ → vector ≡ blank vector₀
          → Ran (told (as_shape z) bits octets (length ws₀)) (Err ListFull) ws order₀ vector₀ order vector
      unfolding told answer_of
      first-full order₀ vector₀ order vector h a b =
          let l : length ws₀ < length (os z bits octets) = holds_long held (omega (arith, same_room)) in
          let n : length (os z bits octets) ≤ length (whole (defined (Z z bits octets) (A z bits octets) false)) =
          subst (λ (k : List Op). length k ≤ length (whole (defined (Z z bits octets) (A z bits octets) false))) one-is (first_long (defined (Z z bits octets) (A z bits octets) false)) in
          let f : ltb (length ws₀) (length (whole (defined (Z z bits octets) (A z bits octets) false))) ≡ true =
          lt-ltb (length ws₀) (length (whole (defined (Z z bits octets) (A z bits octets) false))) (omega arith) in
          rw f (record { is = refl; listed = refl; fits = omega arith; ordered = a; vectored = b })

      pub pivotless : (order₀ vector₀ order vector : List ℕ) → 0 < length (p z bits octets).now.cols → t.used ≤ length ws → order ≡ blank order₀ → vector ≡ blank vector₀
          → Ran (told (as_shape z) bits octets (length ws₀)) (Err NoPivot) ws order₀ vector₀ order vector
      unfolding told answer_of
      pivotless order₀ vector₀ order vector e h a b =
          let l : length (os z bits octets) ≤ length ws₀ = holds_short held (omega (arith, same_room)) in
          let r : Run = refused (Z z bits octets) (A z bits octets) (p z bits octets) in
          let n : length (whole (refused (Z z bits octets) (A z bits octets) (p z bits octets))) ≡ length (os z bits octets) =
          length-append (((os z bits octets ++ []) ++ []) ++ []) [] ∙ omega (arith, length-append ((os z bits octets ++ []) ++ []) [], length-append (os z bits octets ++ []) [], length-append (os z bits octets) []) in
          let f : ltb (length ws₀) (length (whole (refused (Z z bits octets) (A z bits octets) (p z bits octets)))) ≡ false =
          le-ltb (length ws₀) (length (whole (refused (Z z bits octets) (A z bits octets) (p z bits octets)))) (omega arith) in
          rw (refused-is e, f) (record { is = refl; listed = refl; fits = omega arith; ordered = a; vectored = b })

pub room-kept : {l a b : ℕ} → a ≡ b → l ≤ b → l ≤ a
room-kept {l} e h = subst (λ (x : ℕ). l ≤ x) (sym e) h

pub blank_again : (o o₀ : List ℕ) → o ≡ blank o₀ → o ≡ blank o
blank_again o o₀ e = e ∙ over_same [] o₀ o (sym (ap length e ∙ length_over [] o₀))

-- what was cleared at first is written over all the same
pub ran_from : (z : Shape) (bits octets : List ℕ) {n m : ℕ} {r : Answer} {list o₁ v₁ o v : List ℕ} (o₀ v₀ : List ℕ) → n ≡ m → o₁ ≡ blank o₀ → v₁ ≡ blank v₀
    → Ran (told (as_shape z) bits octets n) r list o₁ v₁ o v → Ran (told (as_shape z) bits octets m) r list o₀ v₀ o v
ran_from z bits octets {n} {m} {r} {list} {o₁} {v₁} {o} {v} o₀ v₀ e a b R =
    subst (λ (k : ℕ). Ran (told (as_shape z) bits octets k) r list o₀ v₀ o v) e
    (record {
      is = R.is;
      listed = R.listed;
      fits = R.fits;
      ordered = R.ordered ∙ over_same _ o₁ o₀ (ap length a ∙ length_over [] o₀);
      vectored = R.vectored ∙ over_same _ v₁ v₀ (ap length b ∙ length_over [] v₀);
    })

-- the list's room holds what the journal's does
pub ran_with : {a : Told} {r : Answer} {list list' order₀ vector₀ order vector : List ℕ} → Ran a r list order₀ vector₀ order vector → list' ≡ list → Ran a r list' order₀ vector₀ order vector
ran_with {a} {r} {order₀ = order₀} {vector₀ = vector₀} {order = order} {vector = vector} R e = subst (λ (l : List ℕ). Ran a r l order₀ vector₀ order vector) (sym e) R
