-- Phase four over the lent binary matrix (RFC 6330, 5.4.2.5): each chosen row gets the rows in whose columns it has a one.
--   paired qs ys       steps with these columns and rows
--   fourth             the journal after phase four
--   Chosen             what it needs: the matrix, columns and rows by place, i rows chosen of l
--   Gathering          what one row needs
--   fourth-is          for the steps of phase two, and any matrix that has the same entries there: the definition's list
--   One, one-noted, one_left   what one entry needs; it is a one, or it is not
--   Left               a journal that is a list short of where it goes
--   left-start, left-some, left_end, left-length   the whole list is left; some of it is noted; none is left; the room has its length already
--   Passing, passing_one, passing_next, passing_length, passing_end   a row has what it gets up to a place
--   Choosing, choosing_row, choosing_next, choosing_length, choosing_done   the chosen rows up to a place have what they get
-- Assumes nothing.
use Rattle.std.specs.Prelude.{◌≡◌, refl, Bool, true, false, ℕ, zero, suc, ◌+◌, ◌*◌, ◌-◌, ◌≤◌, ◌<◌, length, get_or, take, drop}
use Rattle.std.proofs.Math.Path.{sym}
use Rattle.std.proofs.Common.{ap, ap₂, subst, ◌∙◌, arith, length-drop, get_or-take, get_or-drop}
use mathlib.Core.List.{List, [], ◌∷◌, ◌++◌}
use Rattle.std.proofs.Math.Seq.{length-take-le}
use borrow.Author.Tests.{eqb-true, eqb-false}
use Rattle.loops.specs.Part.{drop-next}
use Rattle.loops.specs.Entry.{entry_at}
use Rattle.loops.specs.Room.{notes, notes-append}
use Rattle.oplist.specs.declared.Op.{Op}
use Rattle.oplist.specs.declared.Op.TheVariants.{AddAssign}
use Rattle.phases.specs.One.{Step, rows_of, pivots_of, entry}
use Rattle.phases.specs.Rest.{gather, phase_four}
use Rattle.grid.specs.Grid.{bit, Under, gone}
use Rattle.tally.specs.Book.{Book, note, Fair, Noted, anew, fair_notes, length-notes}

abbrev pub paired : List ℕ → List ℕ → List Step
paired [] ys = []
paired (q ∷ qs) [] = []
paired (q ∷ qs) (y ∷ ys) = record { row = y; pivot = q; under = []; left = [] } ∷ paired qs ys

-- chosen are the rows at the first i places; phase two's stand behind them, beside their columns
unfoldable pub fourth : List ℕ → ℕ → ℕ → List ℕ → List ℕ → Book → Book
fourth bits l i c d g = notes note (anew g) (phase_four (entry_at l bits) (take i d) (paired (take (l - i) (drop i c)) (take (l - i) (drop i d))))

pub record Chosen (bits : List ℕ) (l i : ℕ) (c d : List ℕ) (g : Book) : Type 0 where
  pub fair : Fair g
  pub from : i ≤ l
  pub columns : l ≤ length c
  pub rows : l ≤ length d
  pub under : Under l c
  pub inside : (p : ℕ) → p < i → get_or d p 0 * l + l ≤ length bits
  pub binary : (p q : ℕ) → p < i → q < l → entry_at l bits (get_or d p 0) q ≤ 1
  pub few : (p : ℕ) → p < l → get_or d p 0 < 65536

-- what one row needs
pub record Gathering (bits : List ℕ) (l x : ℕ) (cs ys : List ℕ) (g : Book) : Type 0 where
  pub fair : Fair g
  pub same : length cs ≡ length ys
  pub under : Under l cs
  pub inside : x * l + l ≤ length bits
  pub binary : (q : ℕ) → q < l → entry_at l bits x q ≤ 1
  pub small : x < 65536
  pub few : Under 65536 ys

-- and what one entry of it needs
pub record One (bits : List ℕ) (l x q y : ℕ) (g : Book) : Type 0 where
  pub fair : Fair g
  pub column : q < l
  pub inside : x * l + l ≤ length bits
  pub binary : entry_at l bits x q ≤ 1
  pub small : x < 65536
  pub few : y < 65536

-- only the columns and rows of steps count
gather-paired : (A : ℕ → ℕ → ℕ) (x : ℕ) (ts : List Step) → gather A x ts ≡ gather A x (paired (pivots_of ts) (rows_of ts))
gather-paired A x [] = refl
gather-paired A x (t ∷ ts) = ap (entry (A x t.pivot) x t.row) (gather-paired A x ts)

four-paired : (A : ℕ → ℕ → ℕ) (xs : List ℕ) (ts : List Step) → phase_four A xs ts ≡ phase_four A xs (paired (pivots_of ts) (rows_of ts))
four-paired A [] ts = refl
four-paired A (x ∷ xs) ts = ap₂ (λ (a b : List Op). a ++ b) (gather-paired A x ts) (four-paired A xs ts)

-- and only the entries there
gather_alike : (A B : ℕ → ℕ → ℕ) (x : ℕ) (ts : List Step) → ((k : ℕ) → k < length (pivots_of ts) → A x (get_or (pivots_of ts) k 0) ≡ B x (get_or (pivots_of ts) k 0))
    → gather A x ts ≡ gather B x ts
gather_alike A B x [] h = refl
gather_alike A B x (t ∷ ts) h =
    ap₂ (λ (e : ℕ) (os : List Op). entry e x t.row os) (h 0 (omega arith)) (gather_alike A B x ts (λ k l. h (suc k) (omega arith)))

four_alike : (A B : ℕ → ℕ → ℕ) (xs : List ℕ) (ts : List Step)
    → ((p k : ℕ) → p < length xs → k < length (pivots_of ts) → A (get_or xs p 0) (get_or (pivots_of ts) k 0) ≡ B (get_or xs p 0) (get_or (pivots_of ts) k 0))
    → phase_four A xs ts ≡ phase_four B xs ts
four_alike A B [] ts h = refl
four_alike A B (x ∷ xs) ts h =
    ap₂ (λ (a b : List Op). a ++ b) (gather_alike A B x ts (λ k l. h 0 k (omega arith) l)) (four_alike A B xs ts (λ p k l m. h (suc p) k (omega arith) m))

pub fourth-is : (bits : List ℕ) (l i : ℕ) (c d : List ℕ) (g : Book) (A : ℕ → ℕ → ℕ) (xs : List ℕ) (ts : List Step)
    → xs ≡ take i d → pivots_of ts ≡ take (l - i) (drop i c) → rows_of ts ≡ take (l - i) (drop i d)
    → ((p k : ℕ) → p < length xs → k < length (pivots_of ts) → A (get_or xs p 0) (get_or (pivots_of ts) k 0) ≡ entry_at l bits (get_or xs p 0) (get_or (pivots_of ts) k 0))
    → fourth bits l i c d g ≡ notes note (anew g) (phase_four A xs ts)
unfolding fourth
fourth-is bits l i c d g A xs ts e f r h =
    sym (ap (notes note (anew g))
    (four_alike A (entry_at l bits) xs ts h ∙ four-paired (entry_at l bits) xs ts
    ∙ ap₂ (λ (a : List ℕ) (b : List Step). phase_four (entry_at l bits) a b) e (ap₂ paired f r)))

-- with the operations os noted, g would be what it is to become, end
pub record Left (end g : Book) (os : List Op) : Type 0 where
  pub fair : Fair g
  pub is : notes note g os ≡ end

pub left-start : (g : Book) (os : List Op) → Fair g → Left (notes note g os) g os
left-start g os f = record { fair = f; is = refl }

module _ {end g : Book} {os : List Op} (L : Left end g os) where
  pub left-some : (ns : List Op) {ps : List Op} {h : Book} → os ≡ ns ++ ps → h ≡ notes note g ns → Left end h ps
  left-some ns {ps} {h} e n = record {
    fair = subst Fair (sym n) (fair_notes ns g L.fair);
    is = ap (λ (b : Book). notes note b ps) n ∙ sym (notes-append note g ns ps) ∙ sym (ap (notes note g) e) ∙ L.is;
  }

  pub left_end : os ≡ [] → g ≡ end
  unfolding notes
  left_end e = sym (ap (notes note g) e) ∙ L.is

  pub left-length : length g.words ≡ length end.words
  left-length = sym (length-notes os g) ∙ ap (λ (b : Book). length b.words) L.is

-- one entry: as it is a one, or not
module _ {bits : List ℕ} {l x q y : ℕ} {g : Book} (O : One bits l x q y g) where
  abbrev value : ℕ
  value = entry_at l bits x q

  pub one-noted : {h : Book} {b : Bool} → b ≡ bit l bits x q → b ≡ true → Noted g (AddAssign x y) h → h ≡ notes note g (entry value x y [])
  unfolding notes bit
  one-noted {h} e f n = n.is ∙ sym (ap (λ (v : ℕ). notes note g (entry v x y [])) (eqb-true value 1 (sym e ∙ f)))

  pub one_left : {b : Bool} → b ≡ bit l bits x q → b ≡ false → g ≡ notes note g (entry value x y [])
  unfolding notes bit
  one_left e f =
      let z : value ≡ 0 = omega (arith, eqb-false value 1 (sym e ∙ f), O.binary) in
      sym (ap (λ (v : ℕ). notes note g (entry v x y [])) z)

entry-append : (v x y : ℕ) (os : List Op) → entry v x y os ≡ entry v x y [] ++ os
entry-append zero x y os = refl
entry-append (suc zero) x y os = refl
entry-append (suc (suc v)) x y os = refl

-- row x has what it gets from the places before k
abbrev gathered : List ℕ → ℕ → ℕ → List ℕ → List ℕ → ℕ → List Op
gathered bits l x cs ys k = gather (entry_at l bits) x (paired (drop k cs) (drop k ys))

pub record Passing (bits : List ℕ) (l x : ℕ) (cs ys : List ℕ) (g₀ : Book) (k : ℕ) (g : Book) : Type 0 where
  pub within : k ≤ length cs
  pub needs : Gathering bits l x cs ys g₀
  pub left : Left (notes note g₀ (gather (entry_at l bits) x (paired cs ys))) g (gathered bits l x cs ys k)

module _ {bits : List ℕ} {l x : ℕ} {cs ys : List ℕ} {g₀ : Book} {k : ℕ} {g : Book} (P : Passing bits l x cs ys g₀ k g) where
  pub passing_one : k < length cs → One bits l x (get_or cs k 0) (get_or ys k 0) g
  passing_one h = record {
    fair = P.left.fair;
    column = P.needs.under.at k h;
    inside = P.needs.inside;
    binary = P.needs.binary (get_or cs k 0) (P.needs.under.at k h);
    small = P.needs.small;
    few = P.needs.few.at k (omega (arith, P.needs.same));
  }

  pub passing_next : {h : Book} → k < length cs → h ≡ notes note g (entry (entry_at l bits x (get_or cs k 0)) x (get_or ys k 0) []) → Passing bits l x cs ys g₀ (k + 1) h
  passing_next {h} j e = record {
    within = omega arith;
    needs = P.needs;
    left = left-some P.left (entry (entry_at l bits x (get_or cs k 0)) x (get_or ys k 0) [])
        (ap₂ (λ (a b : List ℕ). gather (entry_at l bits) x (paired a b)) (drop-next cs k j) (drop-next ys k (omega (arith, P.needs.same)))
        ∙ entry-append (entry_at l bits x (get_or cs k 0)) x (get_or ys k 0) (gathered bits l x cs ys (k + 1))) e;
  }

  pub passing_length : length g.words ≡ length g₀.words
  passing_length = left-length P.left ∙ length-notes (gather (entry_at l bits) x (paired cs ys)) g₀

  pub passing_end : length cs ≤ k → g ≡ notes note g₀ (gather (entry_at l bits) x (paired cs ys))
  passing_end h = left_end P.left (ap (λ (a : List ℕ). gather (entry_at l bits) x (paired a (drop k ys))) (gone cs k h))

-- the chosen rows before place p have what they get
abbrev steps : ℕ → ℕ → List ℕ → List ℕ → List Step
steps l i c d = paired (take (l - i) (drop i c)) (take (l - i) (drop i d))

abbrev from_place : List ℕ → ℕ → ℕ → List ℕ → List ℕ → ℕ → List Op
from_place bits l i c d p = phase_four (entry_at l bits) (drop p (take i d)) (steps l i c d)

pub record Choosing (bits : List ℕ) (l i : ℕ) (c d : List ℕ) (g₀ : Book) (p : ℕ) (g : Book) : Type 0 where
  pub within : p ≤ i
  pub needs : Chosen bits l i c d g₀
  pub left : Left (notes note (anew g₀) (phase_four (entry_at l bits) (take i d) (steps l i c d))) g (from_place bits l i c d p)

module _ {bits : List ℕ} {l i : ℕ} {c d : List ℕ} {g₀ : Book} {p : ℕ} {g : Book} (P : Choosing bits l i c d g₀ p g) where
  long : (s : List ℕ) → l ≤ length s → length (take (l - i) (drop i s)) ≡ l - i
  long s h = length-take-le (l - i) (drop i s) (omega (arith, length-drop i s))

  part_at : (s : List ℕ) (k : ℕ) → k < l - i → get_or (take (l - i) (drop i s)) k 0 ≡ get_or s (i + k) 0
  part_at s k h = get_or-take (l - i) (drop i s) k 0 h ∙ get_or-drop i s k 0

  length-chosen : length (take i d) ≡ i
  length-chosen = length-take-le i d (omega (arith, P.needs.from, P.needs.rows))

  pub choosing_row : p < length (take i d) → Gathering bits l (get_or (take i d) p 0) (take (l - i) (drop i c)) (take (l - i) (drop i d)) g
  choosing_row k =
      let C = P.needs in
      let j : p < i = omega (arith, length-chosen) in
      let lc = long c C.columns in
      let ld = long d C.rows in
      rw (get_or-take i d p 0)
      (record {
        fair = P.left.fair;
        same = lc ∙ sym ld;
        under = record { at = λ k m. subst (λ (v : ℕ). v < l) (sym (part_at c k (omega (arith, m)))) (C.under.at (i + k) (omega (arith, m, C.columns, C.from))) };
        inside = C.inside p j;
        binary = λ q m. C.binary p q j m;
        small = C.few p (omega (arith, C.from));
        few = record { at = λ k m. subst (λ (v : ℕ). v < 65536) (sym (part_at d k (omega (arith, m)))) (C.few (i + k) (omega (arith, m, C.from))) };
      })

  pub choosing_next : {h : Book} → p < length (take i d) → h ≡ notes note g (gather (entry_at l bits) (get_or (take i d) p 0) (steps l i c d)) → Choosing bits l i c d g₀ (p + 1) h
  choosing_next {h} j e = record {
    within = omega (arith, length-chosen);
    needs = P.needs;
    left = left-some P.left (gather (entry_at l bits) (get_or (take i d) p 0) (steps l i c d))
        (ap (λ (xs : List ℕ). phase_four (entry_at l bits) xs (steps l i c d)) (drop-next (take i d) p j)) e;
  }

  pub choosing_length : length g.words ≡ length g₀.words
  choosing_length = left-length P.left ∙ length-notes (phase_four (entry_at l bits) (take i d) (steps l i c d)) (anew g₀)

  choosing_end : length (take i d) ≤ p → g ≡ fourth bits l i c d g₀
  unfolding fourth
  choosing_end h =
      left_end P.left
      (ap (λ (xs : List ℕ). phase_four (entry_at l bits) xs (steps l i c d)) (gone (take i d) p h))

-- the counts began anew
pub choosing_done : {bits : List ℕ} {l i p : ℕ} {c d : List ℕ} (g₀ : Book) {h g : Book} → h ≡ anew g₀
    → Choosing bits l i c d h p g → length (take i d) ≤ p → g ≡ fourth bits l i c d g₀
unfolding fourth
choosing_done {bits} {l} {i} {p} {c} {d} g₀ e P k = choosing_end P k ∙ ap (fourth bits l i c d) e
