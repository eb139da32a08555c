-- Phases three and five over a list room: operations of its first n words are recorded again (RFC 6330, 5.4.2.4 and 5.4.2.6).
--   third, fifth     the journal after phase three, and after phase five: what the first n words say of marked rows, last one first, and first to last
--   Listing          what they need of the room, the marks and n
--   op_at             what one word says
--   Reading          what reading one word and recording it again needs
--   third-is, fifth-is   where the words are those of phase one's list, and the marks those of the chosen rows: the definition's lists
--   words_kept       recording leaves the words before those used
--   words_first      a list that fits an empty room stands in its first words
--   logged_joined    the lists of two phases stand in the room one behind the other
--   listing_is       and what is needed holds
--   Noting           a phase so far: the journal at first with a list noted since the counts began anew
--   noting_start, noting_word, noting_next   nothing is noted yet; a word of the first n can be read; what it asks for is noted too
--   Rising, Falling  phase five has come to a word; phase three has the words before one left
--   word_unknown, word-noted, word-left, word_marked, word_small   what one word asks for
--   rising_start, rising_word, rising_next, rising_length, rising_done   phase five's loop begins, reads a word, makes a turn, keeps the room's
--                    length, is over
--   falling_start, falling_word, falling_next, falling_length, falling_done   and so phase three's loop
-- Assumes nothing.
use Rattle.std.specs.Prelude.{◌≡◌, refl, Bool, true, false, ℕ, zero, suc, ◌+◌, ◌-◌, ◌≤◌, ◌<◌, ltb, length, take, drop, Option, Some, None}
use Rattle.std.proofs.Math.Path.{sym, ap}
use Rattle.std.proofs.Common.{ap₂, subst, ◌∙◌, drop_of_length-le, get_or-take, length-take-le, take_at}
use mathlib.Core.List.{List, [], ◌∷◌, ◌++◌, append-nil, map}
use native.Mathlib.Omega.{arith}
use Rattle.std.proofs.Math.Dec.{eqb}
use Rattle.std.proofs.Math.ListN.{get_or}
use Rattle.std.proofs.lemmas.List.{length-map, take-set-le}
use Rattle.std.proofs.lemmas.List.Edits.{sets, sets-eq}
use borrow.Author.Tests.{ltb-true, ltb-false, ne_eqb}
use Rattle.loops.specs.Room.{Log, log, notes, notes-append, put, puts, puts_fit}
use Rattle.oplist.specs.declared.Op.{Op}
use Rattle.oplist.specs.Ops.{dest, Each}
use Rattle.oplist.specs.Word.{Small, packed, meaning, packed-meaning}
use Rattle.oplist.specs.Listed.{ops_of, with_op, ops_of-take, ops_of-drop, ops_of-packed}
use Rattle.phases.specs.Rest.{keep_op, kept, last-first}
use Rattle.grid.specs.Grid.{Figures}
use Rattle.tally.specs.Book.{Book, note, Fair, Noted, anew, note_fits, note-full, fair_notes, fair_anew, length-notes, logged, logged-notes}
use Rattle.rest.specs.Marks.{flag_of, kept_by, kept_by-append, kept_by-is}

unfoldable pub third : List ℕ → ℕ → Book → Book
third ms n g = notes note (anew g) (last-first (kept_by ms (ops_of (take n g.words))))

unfoldable pub fifth : List ℕ → ℕ → Book → Book
fifth ms n g = notes note (anew g) (kept_by ms (ops_of (take n g.words)))

abbrev pub op_at : List ℕ → ℕ → List Op
op_at ws k = with_op (meaning (get_or ws k 0)) []

pub record Listing (ms : List ℕ) (n : ℕ) (g : Book) : Type 0 where
  pub fair : Fair g
  pub behind : n ≤ g.used
  pub within : n ≤ length g.words
  pub marked : Each (λ o. dest o < length ms) (ops_of (take n g.words))

pub record Reading (ms : List ℕ) (k : ℕ) (g : Book) : Type 0 where
  pub fair : Fair g
  pub within : k < length g.words
  pub marked : Each (λ o. dest o < length ms) (op_at g.words k)

module _ (ms : List ℕ) (n : ℕ) (g : Book) (xs : List ℕ) (os : List Op) (m : Figures (flag_of xs) (length ms) ms) (w : take n g.words ≡ map packed os) (s : Each Small os)
    (d : Each (λ o. dest o < length ms) os) where
  ops_are : kept_by ms (ops_of (take n g.words)) ≡ kept xs os
  ops_are = ap (λ (l : List ℕ). kept_by ms (ops_of l)) w ∙ ap (kept_by ms) (ops_of-packed os s) ∙ kept_by-is xs (length ms) ms m os d

  pub third-is : third ms n g ≡ notes note (anew g) (last-first (kept xs os))
  unfolding third
  third-is = ap (λ (l : List Op). notes note (anew g) (last-first l)) ops_are

  pub fifth-is : fifth ms n g ≡ notes note (anew g) (kept xs os)
  unfolding fifth
  fifth-is = ap (notes note (anew g)) ops_are

  pub listing_is : Fair g → n ≤ g.used → n ≤ length g.words → Listing ms n g
  listing_is f b l = record {
    fair = f;
    behind = b;
    within = l;
    marked = subst (λ (ps : List Op). Each (λ o. dest o < length ms) ps) (sym (ap ops_of w ∙ ops_of-packed os s)) d;
  }

-- one operation more leaves the words before those used, which don't become fewer
record Kept (n : ℕ) (g h : Book) : Type 0 where
  behind : n ≤ h.used
  same : take n h.words ≡ take n g.words

note-kept : (n : ℕ) (g : Book) (o : Op) → n ≤ g.used → n ≤ length g.words → Kept n g (note g o)
note-kept n g o b w = at (ltb g.used (length g.words)) refl
  where
    at : (t : Bool) → ltb g.used (length g.words) ≡ t → Kept n g (note g o)
    at true e =
        rw (note_fits g o (ltb-true g.used (length g.words) e)) (record { behind = omega arith; same = take-set-le n g.words g.used (packed o) b })
    at false e = rw (note-full g o (ltb-false g.used (length g.words) e)) (record { behind = omega arith; same = refl })

pub words_kept : (os : List Op) (n : ℕ) (g : Book) → n ≤ g.used → n ≤ length g.words → take n (notes note g os).words ≡ take n g.words
unfolding notes
words_kept [] n g b w = refl
words_kept (o ∷ os) n g b w =
    let k = note-kept n g o b w in
    words_kept os n (note g o) k.behind (omega (arith, length-notes (o ∷ []) g)) ∙ k.same

-- a list that fits an empty room stands in its first words
pub words_first : (os : List Op) (g : Book) → g.used ≡ 0 → length os ≤ length g.words → take (length os) (notes note g os).words ≡ map packed os
words_first os g u h =
    let e : logged (notes note g os) ≡ log (sets g.words 0 (map packed os)) (0 + length os) =
    logged-notes os g ∙ ap (λ (n : ℕ). puts packed (log g.words n) os) u ∙ puts_fit packed os g.words 0 (omega arith) in
    let n : length (map packed os) ≡ length os = length-map os packed in
    ap (λ (l : Log). take (length os) l.words) e ∙ ap (take (length os)) (sets-eq (map packed os) g.words 0 (omega arith))
    ∙ take_at (map packed os) (drop (0 + length (map packed os)) g.words) (length os) n

-- the lists of two phases stand in the room one behind the other
pub logged_joined : (os ps : List Op) (g : Book) → logged (notes note (anew (notes note g os)) ps) ≡ puts packed (logged g) (os ++ ps)
unfolding puts
logged_joined os ps g =
    logged-notes ps (anew (notes note g os)) ∙ ap (λ (l : Log). notes (put packed) l ps) (logged-notes os g) ∙ sym (notes-append (put packed) (logged g) os ps)

each_at : (P : Op → Type 0) (ws : List ℕ) (k : ℕ) → k < length ws → Each P (ops_of ws) → Each P (op_at ws k)
unfolding ops_of
each_at P [] k h e = absurd (omega arith)
each_at P (w ∷ ws) zero h e = first (meaning w) e
  where
    first : (v : Option Op) → Each P (with_op v (ops_of ws)) → Each P (with_op v [])
    first (Some o) f = (f.0, tt)
    first None f = tt
each_at P (w ∷ ws) (suc k) h e = each_at P ws k (omega arith) (later (meaning w) e)
  where
    later : (v : Option Op) → Each P (with_op v (ops_of ws)) → Each P (ops_of ws)
    later (Some o) f = f.1
    later None f = f

-- g is the journal that was g₀ with the operations os noted since the counts began anew
pub record Noting (g₀ : Book) (os : List Op) (g : Book) : Type 0 where
  pub is : g ≡ notes note (anew g₀) os

pub noting_start : (g : Book) → Noting g [] (anew g)
unfolding notes
noting_start g = record { is = refl }

module _ {ms : List ℕ} {n : ℕ} {g₀ g : Book} {os : List Op} (L : Listing ms n g₀) (N : Noting g₀ os g) where
  same_words : take n g.words ≡ take n g₀.words
  same_words = ap (λ (h : Book). take n h.words) N.is ∙ words_kept os n (anew g₀) L.behind L.within

  same_length : length g.words ≡ length g₀.words
  same_length = ap (λ (h : Book). length h.words) N.is ∙ length-notes os (anew g₀)

  same_word : (k : ℕ) → k < n → get_or g.words k 0 ≡ get_or g₀.words k 0
  same_word k h = sym (get_or-take n g.words k 0 h) ∙ ap (λ (l : List ℕ). get_or l k 0) same_words ∙ get_or-take n g₀.words k 0 h

  pub noting_word : (k : ℕ) → k < n → Reading ms k g
  noting_word k h = record {
    fair = subst Fair (sym N.is) (fair_notes os (anew g₀) (fair_anew g₀ L.fair));
    within = omega (arith, same_length, L.within);
    marked = subst (λ (w : ℕ). Each (λ o. dest o < length ms) (with_op (meaning w) [])) (get_or-take n g₀.words k 0 h ∙ sym (same_word k h))
        (each_at (λ o. dest o < length ms) (take n g₀.words) k (omega (arith, length-take-le n g₀.words L.within)) L.marked);
  }

  pub noting_next : (k : ℕ) → k < n → (h : Book) → h ≡ notes note g (kept_by ms (op_at g.words k)) → Noting g₀ (os ++ kept_by ms (op_at g₀.words k)) h
  noting_next k l h e = record {
    is = e ∙ ap₂ (λ (a : Book) (w : ℕ). notes note a (kept_by ms (with_op (meaning w) []))) N.is (same_word k l)
        ∙ sym (notes-append note (anew g₀) os (kept_by ms (op_at g₀.words k)));
  }

-- the lists of the turns: first to last, up to word k; last one first, from word k on
abbrev up_to : List ℕ → List ℕ → ℕ → List Op
up_to ms ws k = kept_by ms (ops_of (take k ws))

abbrev down_to : List ℕ → List ℕ → ℕ → List Op
down_to ms ws k = last-first (kept_by ms (ops_of (drop k ws)))

up_next : (ms ws : List ℕ) (k : ℕ) → k < length ws → up_to ms ws k ++ kept_by ms (op_at ws k) ≡ up_to ms ws (k + 1)
up_next ms ws k h = sym (ap (kept_by ms) (ops_of-take ws k h) ∙ kept_by-append ms (ops_of (take k ws)) (op_at ws k))

down_next : (ms ws : List ℕ) (k : ℕ) → k < length ws → down_to ms ws (k + 1) ++ kept_by ms (op_at ws k) ≡ down_to ms ws k
unfolding kept_by
down_next ms ws k h = at (meaning (get_or ws k 0)) ∙ sym (ap (λ (l : List Op). last-first (kept_by ms l)) (ops_of-drop ws k h))
  where
    test : (o : Op) (b : Bool) → down_to ms ws (k + 1) ++ keep_op b o [] ≡ last-first (keep_op b o (kept_by ms (ops_of (drop (k + 1) ws))))
    test o true = refl
    test o false = append-nil (down_to ms ws (k + 1))

    at : (v : Option Op) → down_to ms ws (k + 1) ++ kept_by ms (with_op v []) ≡ last-first (kept_by ms (with_op v (ops_of (drop (k + 1) ws))))
    at (Some o) = test o (eqb (get_or ms (dest o) 0) 1)
    at None = append-nil (down_to ms ws (k + 1))

-- phase five has come to word k
pub record Rising (ms : List ℕ) (n : ℕ) (g₀ : Book) (k : ℕ) (g : Book) : Type 0 where
  pub high : k ≤ n
  pub listing : Listing ms n g₀
  pub noting : Noting g₀ (up_to ms g₀.words k) g

-- phase three has words before k left
pub record Falling (ms : List ℕ) (n : ℕ) (g₀ : Book) (k : ℕ) (g : Book) : Type 0 where
  pub high : k ≤ n
  pub listing : Listing ms n g₀
  pub noting : Noting g₀ (down_to ms (take n g₀.words) k) g

listing_anew : {ms : List ℕ} {n : ℕ} {g : Book} → Listing ms n g → Listing ms n (anew g)
listing_anew {ms} {n} {g} L = record { fair = fair_anew g L.fair; behind = L.behind; within = L.within; marked = L.marked }

pub rising_start : {ms : List ℕ} {n : ℕ} {g : Book} → Listing ms n g → Rising ms n (anew g) 0 (anew g)
unfolding kept_by ops_of
rising_start {ms} {n} {g} L = record { high = omega arith; listing = listing_anew L; noting = noting_start (anew g) }

module _ {ms : List ℕ} {n k : ℕ} {g₀ g : Book} (R : Rising ms n g₀ k g) where
  pub rising_word : k < n → Reading ms k g
  rising_word h = noting_word R.listing R.noting k h

  pub rising_next : {h : Book} → k < n → h ≡ notes note g (kept_by ms (op_at g.words k)) → Rising ms n g₀ (k + 1) h
  rising_next {h} l e = record {
    high = omega arith;
    listing = R.listing;
    noting = subst (λ (os : List Op). Noting g₀ os h) (up_next ms g₀.words k (omega (arith, R.listing.within)))
        (noting_next R.listing R.noting k l h e);
  }

  pub rising_length : length g.words ≡ length g₀.words
  rising_length = same_length R.listing R.noting

  rising_end : n ≤ k → g ≡ fifth ms n g₀
  unfolding fifth
  rising_end l = let e : k ≡ n = omega (arith, R.high) in R.noting.is ∙ ap (λ (i : ℕ). notes note (anew g₀) (up_to ms g₀.words i)) e

-- the counts began anew
pub rising_done : {ms : List ℕ} {n k : ℕ} (g₀ : Book) {h g : Book} → h ≡ anew g₀ → Rising ms n h k g → n ≤ k → g ≡ fifth ms n g₀
unfolding fifth
rising_done {ms} {n} g₀ e R l = rising_end R l ∙ ap (fifth ms n) e

pub falling_start : {ms : List ℕ} {n : ℕ} {g : Book} → Listing ms n g → Falling ms n (anew g) n (anew g)
unfolding kept_by ops_of
falling_start {ms} {n} {g} L = record {
  high = omega arith;
  listing = listing_anew L;
  noting = subst (λ (l : List ℕ). Noting (anew g) (last-first (kept_by ms (ops_of l))) (anew g))
      (sym (drop_of_length-le (take n g.words) {i = n} (omega (arith, length-take-le n g.words L.within)))) (noting_start (anew g));
}

module _ {ms : List ℕ} {n k : ℕ} {g₀ g : Book} (F : Falling ms n g₀ k g) where
  pub falling_word : 0 < k → Reading ms (k - 1) g
  falling_word h = noting_word F.listing F.noting (k - 1) (omega (arith, F.high))

  pub falling_next : {h : Book} → 0 < k → h ≡ notes note g (kept_by ms (op_at g.words (k - 1))) → Falling ms n g₀ (k - 1) h
  falling_next {h} l e =
      let j : k - 1 < n = omega (arith, F.high) in
      let b : k - 1 + 1 ≡ k = omega arith in
      record {
        high = omega arith;
        listing = F.listing;
        noting = subst (λ (os : List Op). Noting g₀ os h)
            (ap₂ (λ (i w : ℕ). down_to ms (take n g₀.words) i ++ kept_by ms (with_op (meaning w) [])) (sym b) (sym (get_or-take n g₀.words (k - 1) 0 j))
            ∙ down_next ms (take n g₀.words) (k - 1) (omega (arith, length-take-le n g₀.words F.listing.within)))
            (noting_next F.listing F.noting (k - 1) j h e);
      }

  pub falling_length : length g.words ≡ length g₀.words
  falling_length = same_length F.listing F.noting

  falling_end : k ≤ 0 → g ≡ third ms n g₀
  unfolding third
  falling_end l = let e : k ≡ 0 = omega arith in F.noting.is ∙ ap (λ (i : ℕ). notes note (anew g₀) (down_to ms (take n g₀.words) i)) e

-- the counts began anew
pub falling_done : {ms : List ℕ} {n k : ℕ} (g₀ : Book) {h g : Book} → h ≡ anew g₀ → Falling ms n h k g → k ≤ 0 → g ≡ third ms n g₀
unfolding third
falling_done {ms} {n} g₀ e R l = falling_end R l ∙ ap (third ms n) e

-- one word: it says nothing, or an operation that is kept, or one that is not
module _ {ms : List ℕ} {k : ℕ} {g : Book} (R : Reading ms k g) where
  abbrev said : Option Op
  said = meaning (get_or g.words k 0)

  pub word_unknown : said ≡ None → g ≡ notes note g (kept_by ms (op_at g.words k))
  unfolding notes kept_by
  word_unknown e = rw e

  module _ {o : Op} (e : said ≡ Some o) where
    pub word_small : Small o
    word_small = (packed-meaning (get_or g.words k 0) o e).small

    module _ {y : ℕ} (d : y ≡ dest o) where
      pub word_marked : y < length ms
      word_marked = let h : Each (λ p. dest p < length ms) (with_op (Some o) []) = rw e at R.marked in omega (arith, h.0)

      pub word-noted : {h : Book} → get_or ms y 0 ≡ 1 → Noted g o h → h ≡ notes note g (kept_by ms (op_at g.words k))
      unfolding notes kept_by
      word-noted m n =
          rw (e, sym (ap (λ (x : ℕ). get_or ms x 0) d) ∙ m) n.is

      pub word-left : (get_or ms y 0 ≡ 1 → ⊥) → g ≡ notes note g (kept_by ms (op_at g.words k))
      unfolding notes kept_by
      word-left m = rw (e, sym (ap (λ (x : ℕ). eqb (get_or ms x 0) 1) d) ∙ ne_eqb (get_or ms y 0) 1 m)
