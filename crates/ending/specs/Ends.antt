-- Phases three to five as the code does them, and the two ends of a run whose V was emptied.
--   Ending           what the last phases leave: the answer, the list and the order; there is no vector
--   counts_of         the counts of a phase, by value
--   over-placed, blank-room   what is written at the front of a cleared room has zeros after it; a cleared room has zeros in its first l places
--   r, told-run      the run; what is told is its answer
--   chosen-part, steps_within   the rows at the first i places are those that phase one chose; there are no more steps than rows
--   Stage            the list room after some phases of such a run
--   stage_two, stage_next, stage_three, stage_four   after phase two; after a phase more; after phases three and four
--   marked_is, third-is, chosen_is, fourth-is, fifth-is   what each of the last phases needs and leaves
--   listing, ordering_is   what phases three and five need of the list room; what the order needs
--   full-ending, solved_ending   the list has passed the room, or fits
--   rest_length       phases three to five keep the length of the list's room
-- Assumes nothing.
use Rattle.std.specs.Prelude.{◌≡◌, ◌⊎◌, List, [], ◌∷◌, ◌++◌, map, ℕ, ◌+◌, ◌-◌, ◌*◌, ◌≤◌, ◌<◌, get_or, take, drop, Err, Ok}
use Rattle.std.proofs.Math.Path.{refl, ap}
use Rattle.std.proofs.Common.{sym, ap₂, ◌∙◌, subst, inl, inr, append_assoc, mul-le-mul_right, arith, take_at, drop_at}
use Rattle.std.proofs.Math.Bool.{true, false}
use borrow.Author.Tests.{lt-ltb, le-ltb}
use Rattle.std.proofs.Math.Dec.{ltb}
use Rattle.std.proofs.Math.ListN.{length, length-append, get_or-append}
use Rattle.std.proofs.Math.Seq.{take-length}
use Rattle.loops.specs.Entry.{entry_at}
use Rattle.loops.specs.Room.{notes}
use Rattle.loops.specs.Way.{go}
use Rattle.oplist.specs.declared.Op.{Op}
use Rattle.oplist.specs.declared.Op.TheVariants.{AddAssign, MulAssign, FMA}
use Rattle.oplist.specs.Ops.{Each, each_map, dest}
use Rattle.oplist.specs.Word.{packed}
use Rattle.oplist.specs.Facts.{Rows}
use Rattle.algebra.specs.Rows.{Within, runs}
use Rattle.algebra.specs.Flat.{Bytes}
use Rattle.grid.specs.Grid.{Under, Figures}
use Rattle.phases.specs.One.{Step, rows_of, pivots_of}
use Rattle.phases.specs.Rest.{kept, last-first, phase_four, by-column}
use Rattle.phases.specs.Run.{Run, whole, finish, Answer as Told, answer}
use Rattle.phases.specs.Occ.{occ-range, Member}
use Rattle.phases.specs.Fit.{Fit, less?}
use Rattle.phases.proofs.Combined.{combined_binary}
use Rattle.phases.proofs.Choices.{never_octet}
use Rattle.phases.specs.ByPlace.{length-rows_of, length_pivots_of}
use Rattle.phases.specs.Forward.{Ended}
use Rattle.phases.specs.Forward as Forward
use Rattle.phases.proofs.Means.{ended, length-by-column}
use Rattle.tally.specs.declared.Tally.{Tally}
use Rattle.tally.specs.Book.{Book, book, note, anew, length-notes}
use Rattle.rest.specs.Marks.{flag_of}
use Rattle.rest.specs.Again.{third, fifth, Listing, listing_is, words_kept}
use Rattle.rest.specs.Again as Again
use Rattle.rest.specs.Gather.{Chosen, fourth}
use Rattle.rest.specs.Gather as Gather
use Rattle.rest.specs.Columns.{Ordering, Blank, placed, placed-is, by-column-take}
use Rattle.answers.specs.declared.Counts.{Counts}
use Rattle.grid.specs.declared.shapes.Shape.{Shape}
use Rattle.answers.specs.Answers.{Answer}
use Rattle.answers.specs.declared.Refusal.TheVariants.{ListFull}
use Rattle.call.specs.Over.{over, blank, after-over}
use Rattle.call.specs.Call.{answer_of, told}
use Rattle.ending.specs.Ran.{Posed}
use Rattle.ending.specs.Told.{posed_fit, entered_at}
use Rattle.ending.specs.Journal.{Holds, Counted, holds_more, holds_short, holds_long, holds_used, holds_words, holds_behind, holds-counts}
use Rattle.ending.specs.After.{Z, A, ts, os, cols, rest, Reached, rows_facts, columns_facts, one_within, one_small, get_or_member}
use Rattle.ending.specs.Then.{two_of, run_is}

-- the counts of a phase, by value
abbrev pub counts_of : ℕ → ℕ → Counts
counts_of a m = record { adds = a; muls = m }

pub record Ending (a : Told) (r : Answer) (list order₀ order : List ℕ) : Type 0 where
  pub is : r ≡ answer_of a
  pub listed : take (length a.list) list ≡ map packed a.list
  pub fits : length a.list ≤ length list
  pub ordered : order ≡ over a.order order₀
  pub no_vector : a.vector ≡ []

-- what is written at the front of a cleared room
pub over-placed : (xs o : List ℕ) → length xs ≤ length o → o ≡ blank o → xs ++ drop (length xs) o ≡ over xs o
unfolding over
over-placed [] [] h e = refl
over-placed [] (y ∷ o) h e = e
over-placed (x ∷ xs) [] h e = absurd (omega arith)
over-placed (x ∷ xs) (y ∷ o) h e =
    let f : o ≡ over [] o = cc in
    ap (λ (l : List ℕ). x ∷ l) (over-placed xs o (omega arith) f)

pub blank-room : (l : ℕ) (o : List ℕ) → l ≤ length o → o ≡ blank o → Blank l o
blank-room l o h e = record { room = h; zeros = λ q k. ap (λ (x : List ℕ). get_or x q 0) e ∙ after-over [] o q (omega arith) }

dest_within : (m : ℕ) (o : Op) → Within m o → dest o < m
dest_within m (AddAssign d s) h = h.0
dest_within m (MulAssign d c) h = h.0
dest_within m (FMA d s c) h = h.0

module _ (z : Shape) (bits octets : List ℕ) (P : Posed z bits octets) (hb : Bytes bits) (ho : Bytes octets) (i : ℕ) (c d ws : List ℕ) (one two : Tally)
    (R : Reached z bits octets i c d ws one two) (lc : length c ≡ z.l) where
  abbrev T : List Step
  T = ts z bits octets

  abbrev O : List Op
  O = os z bits octets

  abbrev C : List ℕ
  C = cols z bits octets

  abbrev us : List Step
  us = R.f.st.steps

  abbrev M : ℕ → ℕ → ℕ
  M = A z bits octets

  -- the run
  abbrev pub r : Run
  r = finish (Z z bits octets) M T O C (go R.f)

  fit : Fit (Z z bits octets) M
  fit = posed_fit z bits octets P hb ho

  pub told-run : (room : ℕ) → told (Z z bits octets) bits octets room ≡ answer room r
  unfolding told
  told-run room = ap (answer room) (run_is z bits octets R.empty ∙ ap (finish (Z z bits octets) M T O C) R.way)

  stage : Forward.Stage z.m (runs O M) C (rest z bits octets) (length C) R.f
  stage = subst (Ended z.m (runs O M) C (rest z bits octets) (length C)) R.way (ended (Z z bits octets) M fit)

  reached : pivots_of us ≡ C
  reached = stage.reached ∙ take-length C

  -- places
  lt : length (rows_of T) ≡ i
  lt = length-rows_of T ∙ sym R.steps

  lp : length (pivots_of T) ≡ i
  lp = length_pivots_of T ∙ sym R.steps

  c_long : i + length C ≡ z.l
  c_long = sym (sym lc ∙ ap length R.columns ∙ length-append (pivots_of T) C ∙ ap (λ (x : ℕ). x + length C) lp)

  us_long : length (rows_of us) ≡ z.l - i
  us_long = length-rows_of us ∙ sym (length_pivots_of us) ∙ ap length reached ∙ omega (arith, c_long)

  low : i ≤ z.l
  low = omega (arith, c_long)

  chosen : take i d ≡ rows_of T
  chosen = ap (take i) R.rows ∙ take_at (rows_of T) (rows_of us ++ R.f.st.left) i lt

  pub chosen-part : take (i - 0) (drop 0 d) ≡ rows_of T
  chosen-part = let e : i - 0 ≡ i = omega arith in ap (λ (k : ℕ). take k d) e ∙ chosen

  behind : take (z.l - i) (drop i d) ≡ rows_of us
  behind =
      ap (λ (x : List ℕ). take (z.l - i) x) (ap (drop i) R.rows ∙ drop_at (rows_of T) (rows_of us ++ R.f.st.left) i lt)
      ∙ take_at (rows_of us) R.f.st.left (z.l - i) us_long

  columns_behind : take (z.l - i) (drop i c) ≡ pivots_of us
  columns_behind =
      ap (λ (x : List ℕ). take (z.l - i) x) (ap (drop i) R.columns ∙ drop_at (pivots_of T) C i lp)
      ∙ (let e : z.l - i ≡ length C = omega (arith, c_long) in ap (λ (k : ℕ). take k C) e) ∙ take-length C ∙ sym reached

  pub steps_within : i ≤ length d
  steps_within = omega (arith, lt, ap length R.rows, length-append (rows_of T) (rows_of us ++ R.f.st.left))

  chosen-below : (k : ℕ) → k < i → get_or (rows_of T) k 0 < z.m
  chosen-below k h =
      subst (λ (y : ℕ). y < z.m) (get_or-append (rows_of T) (rest z bits octets) 0 k (omega (arith, lt)))
      ((rows_facts z bits octets P hb ho).below k (omega (arith, lt, length-append (rows_of T) (rest z bits octets))))

  pub marked_is : (n : ℕ) → n ≡ z.m → Under n (take (i - 0) (drop 0 d))
  marked_is n e = subst (Under n) (sym chosen-part) (record { at = λ k h. subst (λ (x : ℕ). get_or (rows_of T) k 0 < x) (sym e) (chosen-below k (omega (arith, lt))) })

  -- the list room after the operations qs
  pub record Stage (qs : List Op) (g : Book) : Type 0 where
    pub held : Holds R.from qs g
    pub words : take (length O) g.words ≡ map packed O
    pub long : length O ≤ length qs

  pub stage_two : Stage (O ++ two_of R.f) (book ws two)
  stage_two = record { held = R.held; words = R.words; long = omega (arith, length-append O (two_of R.f)) }

  pub stage_next : {qs : List Op} {g : Book} → Stage qs g → (ps : List Op) (g' : Book) → g' ≡ notes note (anew g) ps → Stage (qs ++ ps) g'
  stage_next {qs} {g} s ps g' e = record {
    held = subst (Holds R.from (qs ++ ps)) (sym e) (holds_more s.held ps);
    words =
        ap (λ (b : Book). take (length O) b.words) e
        ∙ words_kept ps (length O) (anew g) (holds_behind s.held (length O) s.long R.short) (omega (arith, s.held.size, R.short)) ∙ s.words;
    long = omega (arith, length-append qs ps, s.long);
  }

  counts-next : {qs : List Op} {g : Book} → Stage qs g → (ps : List Op) (g' : Book) → g' ≡ notes note (anew g) ps → length (qs ++ ps) ≤ length R.from
      → Counted ps g'.adds g'.muls
  counts-next s ps g' e k = subst (λ (b : Book). Counted ps b.adds b.muls) (sym e) (holds-counts s.held ps k)

  module _ (n : ℕ) (un : n ≡ length O) (ms : List ℕ) (k : ℕ) (lk : k ≡ z.m) (fig : Figures (flag_of (take (i - 0) (drop 0 d))) k ms) where
    lm : length ms ≡ z.m
    lm = fig.long ∙ lk

    figures : Figures (flag_of (rows_of T)) (length ms) ms
    figures = subst (λ (x : ℕ). Figures (flag_of (rows_of T)) x ms) (sym fig.long) (subst (λ (xs : List ℕ). Figures (flag_of xs) k ms) chosen-part fig)

    dests : Each (λ o. dest o < length ms) O
    dests = each_map (Within z.m) (λ o. dest o < length ms) (λ o h. subst (λ (k : ℕ). dest o < k) (sym lm) (dest_within z.m o h)) O (one_within z bits octets P hb ho)

    module _ {qs : List Op} {g : Book} (s : Stage qs g) where
      words_n : take n g.words ≡ map packed O
      words_n = ap (λ (k : ℕ). take k g.words) un ∙ s.words

      pub listing : Listing ms n g
      listing =
          listing_is ms n g (rows_of T) O figures words_n (one_small z bits octets P hb ho) dests s.held.fair
          (subst (λ (k : ℕ). k ≤ g.used) (sym un) (holds_behind s.held (length O) s.long R.short)) (omega (arith, un, s.held.size, R.short))

      pub third-is : third ms n g ≡ notes note (anew g) (last-first (kept (rows_of T) O))
      third-is = Again.third-is ms n g (rows_of T) O figures words_n (one_small z bits octets P hb ho) dests

      pub fifth-is : fifth ms n g ≡ notes note (anew g) (kept (rows_of T) O)
      fifth-is = Again.fifth-is ms n g (rows_of T) O figures words_n (one_small z bits octets P hb ho) dests

  -- a chosen row is no octet row
  chosen_binary : (k : ℕ) → k < i → (get_or (rows_of T) k 0 < z.s) ⊎ (z.s + z.h ≤ get_or (rows_of T) k 0)
  chosen_binary k h = at (less? y z.s) (less? y (z.s + z.h))
    where
      y : ℕ
      y = get_or (rows_of T) k 0

      member : Member (rows_of T) (get_or (rows_of T) k 0)
      member = get_or_member (rows_of T) k (omega (arith, lt))

      at : (get_or (rows_of T) k 0 < z.s) ⊎ (z.s ≤ get_or (rows_of T) k 0) → (get_or (rows_of T) k 0 < z.s + z.h) ⊎ (z.s + z.h ≤ get_or (rows_of T) k 0)
          → (get_or (rows_of T) k 0 < z.s) ⊎ (z.s + z.h ≤ get_or (rows_of T) k 0)
      at (inl a) b = inl a
      at (inr a) (inr b) = inr b
      at (inr a) (inl b) =
          absurd (omega (arith, member, never_octet (Z z bits octets) M fit z.l (get_or (rows_of T) k 0) (omega (arith, (occ-range z.s z.h (get_or (rows_of T) k 0)).inside a b))))

  chosen_at : (k : ℕ) → k < i → get_or d k 0 ≡ get_or (rows_of T) k 0
  chosen_at k h = ap (λ (l : List ℕ). get_or l k 0) R.rows ∙ get_or-append (rows_of T) (rows_of us ++ R.f.st.left) 0 k (omega (arith, lt))

  pub chosen_is : length d ≡ z.m → {qs : List Op} {g : Book} → Stage qs g → Chosen bits z.l i c d g
  chosen_is ld {qs} {g} s =
      let K : Rows z.l c = subst (Rows z.l) (sym R.columns) (columns_facts z bits octets P hb ho) in
      record {
        fair = s.held.fair;
        from = low;
        columns = omega arith;
        rows = omega (arith, P.narrow);
        under = record { at = λ k h. K.below k h };
        inside = λ k h. subst (λ (x : ℕ). x * z.l + z.l ≤ length bits) (sym (chosen_at k h))
            (omega (arith, P.bits_size, mul-le-mul_right z.l (chosen-below k h)));
        binary = λ k q h l. subst (λ (x : ℕ). entry_at z.l bits x q ≤ 1) (sym (chosen_at k h))
            (entered_at z.l z.s z.h bits P.entries (get_or (rows_of T) k 0) q (chosen_binary k h));
        few = λ k h. omega (arith, R.order.rows.below k (omega (arith, P.narrow)), P.few);
      }

  pub fourth-is : (g : Book) → fourth bits z.l i c d g ≡ notes note (anew g) (phase_four M (rows_of T) us)
  fourth-is g =
      Gather.fourth-is bits z.l i c d g M (rows_of T) us (sym chosen) (sym columns_behind) (sym behind)
      (λ k q h l. combined_binary (Z z bits octets) bits octets (get_or (rows_of T) k 0) (get_or (pivots_of us) q 0) (chosen_binary k (omega (arith, lt))))

  pub ordering_is : (o : List ℕ) → z.l ≤ length o → o ≡ blank o → length d ≡ z.m → Ordering o c d
  ordering_is o h e ld =
      let K : Rows z.l c = subst (Rows z.l) (sym R.columns) (columns_facts z bits octets P hb ho) in
      record {
        blank = blank-room (length c) o (omega arith) e;
        under = record { at = λ k l. subst (λ (x : ℕ). get_or c k 0 < x) (sym lc) (K.below k l) };
        rows = omega (arith, P.narrow);
      }

  order_is : (o : List ℕ) → z.l ≤ length o → o ≡ blank o
      → placed (length c) c d o ≡ over (by-column z.l (pivots_of T ++ C) (rows_of T ++ rows_of us)) o
  order_is o h e =
      let n : length (rows_of T ++ rows_of us) ≡ length c = length-append (rows_of T) (rows_of us) ∙ omega (arith, lt, us_long, low, lc) in
      let t : take (length c) d ≡ rows_of T ++ rows_of us =
      ap (take (length c)) (R.rows ∙ sym (append_assoc (rows_of T) (rows_of us) R.f.st.left)) ∙ take_at (rows_of T ++ rows_of us) R.f.st.left (length c) n in
      let b : by-column (length c) c d ≡ by-column z.l (pivots_of T ++ C) (rows_of T ++ rows_of us) =
      sym (by-column-take (length c) c d) ∙ ap (by-column (length c) c) t ∙ ap₂ (λ (x : ℕ) (y : List ℕ). by-column x y (rows_of T ++ rows_of us)) lc R.columns in
      let m : length c ≡ length (by-column z.l (pivots_of T ++ C) (rows_of T ++ rows_of us)) = lc ∙ sym (length-by-column z.l (pivots_of T ++ C) (rows_of T ++ rows_of us)) in
      placed-is (length c) c d o ∙ ap₂ (λ (x : List ℕ) (k : ℕ). x ++ drop k o) b m
      ∙ over-placed (by-column z.l (pivots_of T ++ C) (rows_of T ++ rows_of us)) o (omega (arith, m)) e

  -- the journals of phases three to five
  module _ (g₃ g₄ g₅ : Book) (e₃ : g₃ ≡ notes note (anew (book ws two)) (last-first (kept (rows_of T) O)))
      (e₄ : g₄ ≡ notes note (anew g₃) (phase_four M (rows_of T) us)) (e₅ : g₅ ≡ notes note (anew g₄) (kept (rows_of T) O)) where
    pub stage_three : Stage ((O ++ two_of R.f) ++ last-first (kept (rows_of T) O)) g₃
    stage_three = stage_next stage_two (last-first (kept (rows_of T) O)) g₃ e₃

    pub stage_four : Stage (((O ++ two_of R.f) ++ last-first (kept (rows_of T) O)) ++ phase_four M (rows_of T) us) g₄
    stage_four = stage_next stage_three (phase_four M (rows_of T) us) g₄ e₄

    stage_five : Stage (whole r) g₅
    stage_five = stage_next stage_four (kept (rows_of T) O) g₅ e₅

    room-is : length g₅.words ≡ length R.from
    room-is = stage_five.held.size

    same_room : length g₅.words ≡ length ws
    same_room = room-is ∙ R.size

    pub full-ending : (order : List ℕ) → length g₅.words < g₅.used → order ≡ blank order
        → Ending (told (Z z bits octets) bits octets (length ws)) (Err ListFull) g₅.words order order
    unfolding answer_of
    full-ending order h e =
        let l : length R.from < length (whole r) = holds_long stage_five.held (omega (arith, room-is)) in
        let f : ltb (length ws) (length (whole r)) ≡ true = lt-ltb (length ws) (length (whole r)) (omega (arith, R.size)) in
        rw (told-run (length ws), f) (record { is = refl; listed = refl; fits = omega arith; ordered = e; no_vector = refl })

    pub solved_ending : (order order' : List ℕ) (n : ℕ) (c₁ c₂ c₃ c₄ c₅ : Counts) → n ≤ length g₅.words → order ≡ blank order → z.l ≤ length order
        → order' ≡ placed (length c) c d order → n ≡ g₅.used → c₁ ≡ counts_of one.adds one.muls → c₂ ≡ counts_of two.adds two.muls
        → c₃ ≡ counts_of g₃.adds g₃.muls → c₄ ≡ counts_of g₄.adds g₄.muls → c₅ ≡ counts_of g₅.adds g₅.muls
        → Ending (told (Z z bits octets) bits octets (length ws)) (Ok (record { operations = n; one = c₁; two = c₂; three = c₃; four = c₄; five = c₅ })) g₅.words order order'
    unfolding answer_of
    solved_ending order order' n c₁ c₂ c₃ c₄ c₅ h e k q u x₁ x₂ x₃ x₄ x₅ =
        let l : length (whole r) ≤ length R.from = holds_short stage_five.held (omega (arith, room-is)) in
        let f : ltb (length ws) (length (whole r)) ≡ false = le-ltb (length ws) (length (whole r)) (omega (arith, R.size)) in
        let l₄ = length-append (r.one ++ r.two ++ r.three ++ r.four) r.five in
        let l₃ = length-append (r.one ++ r.two ++ r.three) r.four in
        let l₂ = length-append (r.one ++ r.two) r.three in
        let k₁ = R.first in
        let k₂ = R.second (omega arith) in
        let k₃ = counts-next stage_two (last-first (kept (rows_of T) O)) g₃ e₃ (omega arith) in
        let k₄ = counts-next stage_three (phase_four M (rows_of T) us) g₄ e₄ (omega arith) in
        let k₅ = counts-next stage_four (kept (rows_of T) O) g₅ e₅ (omega arith) in
        rw (told-run (length ws), f)
        (record {
          is = rw (
            u,
            x₁,
            x₂,
            x₃,
            x₄,
            x₅,
            holds_used stage_five.held l,
            k₁.adds_are,
            k₁.muls_are,
            k₂.adds_are,
            k₂.muls_are,
            k₃.adds_are,
            k₃.muls_are,
            k₄.adds_are,
            k₄.muls_are,
            k₅.adds_are,
            k₅.muls_are,
          );
          listed = holds_words stage_five.held l;
          fits = omega (arith, room-is);
          ordered = q ∙ order_is order k e;
          no_vector = refl;
        })

-- the room keeps its length
pub rest_length : (ms bits c d : List ℕ) (n l i : ℕ) (g₂ : Book) {g₃ g₄ g₅ : Book} → g₃ ≡ third ms n g₂ → g₄ ≡ fourth bits l i c d g₃ → g₅ ≡ fifth ms n g₄
    → length g₅.words ≡ length g₂.words
unfolding third fourth fifth
rest_length ms bits c d n l i g₂ {g₃} {g₄} e₃ e₄ e₅ =
    ap (λ (b : Book). length b.words) e₅ ∙ length-notes _ (anew g₄) ∙ ap (λ (b : Book). length b.words) e₄ ∙ length-notes _ (anew g₃)
    ∙ ap (λ (b : Book). length b.words) e₃ ∙ length-notes _ (anew g₂)
