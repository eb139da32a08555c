-- The journal of a phase: a list room with its sticky count, and the additions and multiplications recorded since the phase began.
--   Book, book, book_of   a journal; that of a room's words and a tally; that of the code's room and tally
--   note             one operation more: where there is room its word is stored and the counts grow by what it asks; where there is none, the
--                    number of those used becomes one above the room, and nothing else changes
--   stored, full     what a note makes of a journal: where there is room, and where there is none
--   pick_book         one of two journals, by a test
--   Noted            a journal is another with one operation more
--   noted_one        two outcomes that meet it are equal
--   Fair             no count is above the number of those used, which is at most one above the room: so no sum wraps
--   anew             the counts begin anew
--   note_fits, note-full   a note where there is room, and where there is none
--   logged           the room and its count alone
--   logged-note, logged-notes   they are what the list room's own laws say
--   length-note, length-notes   the room keeps its length
--   fair_note, fair_notes, fair_anew   a fair journal stays fair
--   Grown, grown     where the list fits, the counts grow by those of the list
--   noted-stored, noted-full   a note, by what the room's own step gave
-- Assumes nothing.
use Rattle.std.specs.Prelude.{ℕ, ◌+◌, ◌≤◌, ◌<◌, ◌≡◌, refl, Bool, true, false, List, [], ◌∷◌, ltb, length, set}
use Rattle.std.proofs.Common.{sym, ap, ◌∙◌, arith, lt-ltb, le-ltb, ltb-true, ltb-false, length-set}
use Rattle.loops.specs.Room.{Log, log, pick_log, notes, put, puts}
use Rattle.oplist.specs.declared.Op.{Op}
use Rattle.oplist.specs.Word.{packed}
use Rattle.oplist.specs.Count.{adds_in, muls_in, adds, muls, adds_in-one, muls_in-one}
use Rattle.tally.specs.declared.Tally.{Tally}
use Rattle.tally.specs.declared.Journal.{Journal}

pub record Book : Type 0 where
  pub words : List ℕ
  pub used : ℕ
  pub adds : ℕ
  pub muls : ℕ

abbrev pub book : List ℕ → Tally → Book
book ws t = record { words = ws; used = t.used; adds = t.adds; muls = t.muls }

abbrev pub book_of : Journal → Book
book_of j = book j.room.now j.tally

abbrev pub pick_book : Bool → Book → Book → Book
pick_book true a b = a
pick_book false a b = b

-- with room, and without
abbrev pub stored : Book → Op → Book
stored g o =
    record {
      words = set g.words g.used (packed o);
      used = g.used + 1;
      adds = g.adds + adds_in o;
      muls = g.muls + muls_in o;
    }

abbrev pub full : Book → Book
full g = record { words = g.words; used = length g.words + 1; adds = g.adds; muls = g.muls }

unfoldable pub note : Book → Op → Book
note g o = pick_book (ltb g.used (length g.words)) (stored g o) (full g)

pub record Noted (g : Book) (o : Op) (h : Book) : Type 0 where
  pub is : h ≡ note g o

pub noted_one : {g h k : Book} {o : Op} → Noted g o h → Noted g o k → h ≡ k
noted_one p q = p.is ∙ sym q.is

pub record Fair (g : Book) : Type 0 where
  pub adds_few : g.adds ≤ g.used
  pub muls_few : g.muls ≤ g.used
  pub used_few : g.used ≤ length g.words + 1

abbrev pub anew : Book → Book
anew g = record { words = g.words; used = g.used; adds = 0; muls = 0 }

abbrev pub logged : Book → Log
logged g = log g.words g.used

pub note_fits : (g : Book) (o : Op) → g.used < length g.words → note g o ≡ stored g o
unfolding note
note_fits g o h = rw (lt-ltb g.used (length g.words) h)

pub note-full : (g : Book) (o : Op) → length g.words ≤ g.used → note g o ≡ full g
unfolding note
note-full g o h = rw (le-ltb g.used (length g.words) h)

pub logged-note : (g : Book) (o : Op) → logged (note g o) ≡ put packed (logged g) o
unfolding note put
logged-note g o = at (ltb g.used (length g.words))
  where
    at : (b : Bool) → logged (pick_book b (stored g o) (full g)) ≡ pick_log b (logged (stored g o)) (logged (full g))
    at true = refl
    at false = refl

pub logged-notes : (os : List Op) (g : Book) → logged (notes note g os) ≡ puts packed (logged g) os
unfolding notes puts
logged-notes [] g = refl
logged-notes (o ∷ os) g = logged-notes os (note g o) ∙ ap (λ (l : Log). notes (put packed) l os) (logged-note g o)

pub length-note : (g : Book) (o : Op) → length (note g o).words ≡ length g.words
unfolding note
length-note g o = at (ltb g.used (length g.words))
  where
    at : (b : Bool) → length (pick_book b (stored g o) (full g)).words ≡ length g.words
    at true = length-set g.words g.used (packed o)
    at false = refl

pub length-notes : (os : List Op) (g : Book) → length (notes note g os).words ≡ length g.words
unfolding notes
length-notes [] g = refl
length-notes (o ∷ os) g = length-notes os (note g o) ∙ length-note g o

pub fair_note : (g : Book) (o : Op) → Fair g → Fair (note g o)
fair_note g o f = at (ltb g.used (length g.words)) refl
  where
    at : (b : Bool) → ltb g.used (length g.words) ≡ b → Fair (note g o)
    at true e =
        let h = ltb-true g.used (length g.words) e in
        let l = length-set g.words g.used (packed o) in
        rw (note_fits g o h)
        (record {
          adds_few = omega (arith, f.adds_few, adds_in-one o);
          muls_few = omega (arith, f.muls_few, muls_in-one o);
          used_few = omega (arith, f.used_few);
        })
    at false e =
        let h = ltb-false g.used (length g.words) e in
        rw (note-full g o h)
        (record { adds_few = omega (arith, f); muls_few = omega (arith, f); used_few = omega arith })

pub fair_notes : (os : List Op) (g : Book) → Fair g → Fair (notes note g os)
unfolding notes
fair_notes [] g f = f
fair_notes (o ∷ os) g f = fair_notes os (note g o) (fair_note g o f)

pub fair_anew : (g : Book) → Fair g → Fair (anew g)
fair_anew g f = record { adds_few = omega arith; muls_few = omega arith; used_few = f.used_few }

-- what a list that fits adds to each count
pub record Grown (g : Book) (os : List Op) (h : Book) : Type 0 where
  pub used : h.used ≡ g.used + length os
  pub adds_are : h.adds ≡ g.adds + adds os
  pub muls_are : h.muls ≡ g.muls + muls os

pub grown : (os : List Op) (g : Book) → g.used + length os ≤ length g.words → Grown g os (notes note g os)
unfolding notes adds muls
grown [] g h = record { used = omega arith; adds_are = omega arith; muls_are = omega arith }
grown (o ∷ os) g h =
    let e = note_fits g o (omega arith) in
    let l = length-set g.words g.used (packed o) in
    let r : Grown (stored g o) os (notes note (stored g o) os) = grown os (stored g o) (omega arith) in
    rw e (record { used = omega (arith, r.used); adds_are = omega (arith, r.adds_are); muls_are = omega (arith, r.muls_are) })

-- the room's own step gave the words and the number of those used; the counts are as there was room, or not
module _ (g : Book) (o : Op) {ws : List ℕ} {n : ℕ} (e : log ws n ≡ put packed (logged g) o) where
  pub noted-stored : {a b : ℕ} → g.used < length g.words → a ≡ adds_in o → b ≡ muls_in o
      → Noted g o (record { words = ws; used = n; adds = g.adds + a; muls = g.muls + b })
  noted-stored {a} {b} h p q =
      let f : log ws n ≡ logged (stored g o) = e ∙ sym (logged-note g o) ∙ ap logged (note_fits g o h) in
      let w : ws ≡ (stored g o).words = ap (λ (l : Log). l.words) f in
      let u : n ≡ (stored g o).used = ap (λ (l : Log). l.count) f in
      record { is = rw (note_fits g o h, w, u, p, q) }

  pub noted-full : length g.words ≤ g.used → Noted g o (record { words = ws; used = n; adds = g.adds; muls = g.muls })
  noted-full h =
      let f : log ws n ≡ logged (full g) = e ∙ sym (logged-note g o) ∙ ap logged (note-full g o h) in
      let w : ws ≡ g.words = ap (λ (l : Log). l.words) f in
      let u : n ≡ length g.words + 1 = ap (λ (l : Log). l.count) f in
      record { is = rw (note-full g o h, w, u) }
