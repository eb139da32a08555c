-- The list room after some phases: what it holds, and what the running counts say.
--   Holds from os g      the journal g is that of a room `from`, empty at first, after the operations os
--   holds-first          after the first phase
--   holds_more           a phase more, whose counts begin anew
--   holds_short, holds_long   whether the list has passed the room, by the number of operations used
--   holds_used, holds_words   what stands in the room where the list fits
--   holds_behind         operations before those used
--   Counted, counts-first, holds-counts   the counts of a phase are those of its part of the list
-- Assumes nothing.
use Rattle.std.specs.Prelude.{◌≡◌, ◌⊎◌, List, ◌++◌, map, ℕ, ◌+◌, ◌≤◌, ◌<◌, length, take, drop}
use Rattle.std.proofs.Math.Path.{sym, ap}
use Rattle.std.proofs.Common.{◌∙◌, inl, inr, arith, length-append, take_at}
use Rattle.std.proofs.lemmas.List.{length-map}
use Rattle.std.proofs.lemmas.List.Edits.{sets, sets-eq}
use Rattle.loops.specs.Room.{Log, log, notes, notes-append, put, puts, puts_fit, puts-over}
use Rattle.oplist.specs.declared.Op.{Op}
use Rattle.oplist.specs.Word.{packed}
use Rattle.oplist.specs.Count.{adds, muls}
use Rattle.tally.specs.Book.{Book, note, anew, logged, logged-notes, length-notes, Fair, fair_notes, fair_anew, grown}
use Rattle.phases.specs.Fit.{less?}

pub record Holds (from : List ℕ) (os : List Op) (g : Book) : Type 0 where
  pub size : length g.words ≡ length from
  pub is : logged g ≡ puts packed (log from 0) os
  pub fair : Fair g

pub holds-first : (from : List ℕ) (g : Book) → g.words ≡ from → g.used ≡ 0 → Fair g → (os : List Op) → Holds from os (notes note g os)
holds-first from g e u f os = record {
  size = length-notes os g ∙ ap length e;
  is = logged-notes os g ∙ ap (λ (l : Log). puts packed l os) (ap (λ (ws : List ℕ). log ws g.used) e ∙ ap (log from) u);
  fair = fair_notes os g f;
}

module _ {from : List ℕ} {os : List Op} {g : Book} (h : Holds from os g) where
  pub holds_more : (ps : List Op) → Holds from (os ++ ps) (notes note (anew g) ps)
  unfolding puts
  holds_more ps = record {
    size = length-notes ps (anew g) ∙ h.size;
    is = logged-notes ps (anew g) ∙ ap (λ (l : Log). notes (put packed) l ps) h.is ∙ sym (notes-append (put packed) (log from 0) os ps);
    fair = fair_notes ps (anew g) (fair_anew g h.fair);
  }

  used_is : g.used ≡ (puts packed (log from 0) os).count
  used_is = ap (λ (l : Log). l.count) h.is

  fit_is : length os ≤ length from → logged g ≡ log (sets from 0 (map packed os)) (0 + length os)
  fit_is k = h.is ∙ puts_fit packed os from 0 (omega arith)

  pub holds_used : length os ≤ length from → g.used ≡ length os
  holds_used k = let e = ap (λ (l : Log). l.count) (fit_is k) in omega arith

  over-is : length from < length os → g.used ≡ length from + 1
  over-is k = used_is ∙ puts-over packed os from 0 (omega arith) (omega arith)

  pub holds_short : g.used ≤ length from → length os ≤ length from
  holds_short k = at (less? (length from) (length os))
    where
      at : (length from < length os) ⊎ (length os ≤ length from) → length os ≤ length from
      at (inl a) = absurd (omega (arith, over-is a))
      at (inr a) = a

  pub holds_long : length from < g.used → length from < length os
  holds_long k = at (less? (length from) (length os))
    where
      at : (length from < length os) ⊎ (length os ≤ length from) → length from < length os
      at (inl a) = a
      at (inr a) = absurd (omega (arith, holds_used a))

  pub holds_behind : (n : ℕ) → n ≤ length os → n ≤ length from → n ≤ g.used
  holds_behind n k l = at (less? (length from) (length os))
    where
      at : (length from < length os) ⊎ (length os ≤ length from) → n ≤ g.used
      at (inl a) = omega (arith, over-is a)
      at (inr a) = omega (arith, holds_used a)

  pub holds_words : length os ≤ length from → take (length os) g.words ≡ map packed os
  holds_words k =
      let n : length (map packed os) ≡ length os = length-map os packed in
      ap (λ (l : Log). take (length os) l.words) (fit_is k) ∙ ap (take (length os)) (sets-eq (map packed os) from 0 (omega arith))
      ∙ take_at (map packed os) (drop (0 + length (map packed os)) from) (length os) n

-- the counts of a phase that noted ps
pub record Counted (ps : List Op) (a m : ℕ) : Type 0 where
  pub adds_are : a ≡ adds ps
  pub muls_are : m ≡ muls ps

pub counts-first : (g : Book) → g.used ≡ 0 → g.adds ≡ 0 → g.muls ≡ 0 → (os : List Op) → length os ≤ length g.words
    → Counted os (notes note g os).adds (notes note g os).muls
counts-first g u a m os k =
    let r = grown os g (omega arith) in
    record { adds_are = omega (arith, r.adds_are); muls_are = omega (arith, r.muls_are) }

pub holds-counts : {from : List ℕ} {os : List Op} {g : Book} (h : Holds from os g) (ps : List Op) → length (os ++ ps) ≤ length from
    → Counted ps (notes note (anew g) ps).adds (notes note (anew g) ps).muls
holds-counts {from} {os} {g} h ps k =
    let l = length-append os ps in
    let r = grown ps (anew g) (omega (arith, holds_used h (omega arith), h.size)) in
    record { adds_are = omega (arith, r.adds_are); muls_are = omega (arith, r.muls_are) }
