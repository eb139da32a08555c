-- A step's additions, as they are recorded: each row below with a nonzero in the pivot's column gets a multiple of the chosen row.
--   Binary           rows with a 0 or a 1 in a column
--   Listed           a journal is another with a list of operations more
--   listed-one       two outcomes that meet it are equal
--   listed-none, listed_then   no operation; one list after another
--   Clearing         a loop over the rows ys, of which k are done
--   clear_none, clear_next, clear-one, clear_end   it passes a zero, records a multiple, or the row itself, is over
--   bit-one, bit-none   a binary entry by the code's test: it is 1 where the test holds, else 0
--   Multiples        the same loop over the octet rows
--   octet_none, octet_next, octet_end   the same for it
--   get_or-range       the octet rows by place: the number at place j of those from a on is a + j
--   outside          a row that may be chosen is no octet row
--   clears-append    the additions for two lists of rows are those for the first, then those for the second
--   cleared          binary rows, then octet rows: together the column is cleared as phase one says
-- Assumes nothing.
use Rattle.std.specs.Prelude.{◌≡◌, refl, ◌⊎◌, true, false, ℕ, zero, suc, ◌+◌, ◌-◌, ◌*◌, ◌≤◌, ◌<◌, get_or, drop}
use Rattle.std.proofs.Math.Path.{sym, ap, subst}
use Rattle.std.proofs.Common.{ap₂, ◌∙◌, inl, inr, arith, eqb-true}
use mathlib.Core.List.{List, [], ◌∷◌, ◌++◌}
use Rattle.std.proofs.Math.ListN.{length}
use Rattle.std.proofs.lemmas.Bool.{eqb-false}
use Rattle.oplist.specs.Multiple.{multiple}
use Rattle.loops.specs.Part.{drop-next}
use Rattle.loops.specs.Entry.{entry_at, entry_within}
use Rattle.loops.specs.Room.{notes, notes-append}
use Rattle.oplist.specs.declared.Op.{Op}
use Rattle.oplist.specs.declared.Op.TheVariants.{AddAssign}
use Rattle.rule.specs.Lists.{In}
use Rattle.grid.specs.Grid.{bit, gone}
use Rattle.phases.specs.System.{Shape, range, combined, first_rows, octet_rows}
use Rattle.phases.specs.Matrix.{length-range, get_or-range, in_range}
use Rattle.phases.specs.One.{entry, clears}
use Rattle.phases.specs.Combined.{combined_octet}
use Rattle.phases.proofs.Combined.{combined_binary}
use Rattle.phases.specs.Occ.{occ-append, occ-range, in_member, member_in}
use Rattle.phases.specs.Forward.{clears_alike}
use Rattle.phases.proofs.Forward.{entry-multiple}
use Rattle.phases.specs.Fit.{less?}
use Rattle.phases.proofs.Fit.{rows_once}
use Rattle.tally.specs.Book.{Book, note, Noted, Fair, fair_note, length-note}

pub record Binary (l : ℕ) (m : List ℕ) (q : ℕ) (ys : List ℕ) : Type 0 where
  pub at : (k : ℕ) → k < length ys → entry_at l m (get_or ys k 0) q ≤ 1

-- h is g with the operations os more; the room keeps its length and no count wraps
pub record Listed (g : Book) (os : List Op) (h : Book) : Type 0 where
  pub is : h ≡ notes note g os
  pub fair : Fair h
  pub room : length h.words ≡ length g.words

pub listed-one : {g h k : Book} {os : List Op} → Listed g os h → Listed g os k → h ≡ k
listed-one p q = p.is ∙ sym q.is

pub listed-none : {g : Book} → Fair g → Listed g [] g
unfolding notes
listed-none f = record { is = refl; fair = f; room = refl }

pub listed_then : {g h k : Book} {os ps : List Op} → Listed g os h → Listed h ps k → Listed g (os ++ ps) k
listed_then {g} {h} {k} {os} {ps} a b = record {
  is = b.is ∙ ap (λ (b : Book). notes note b ps) a.is ∙ sym (notes-append note g os ps);
  fair = b.fair;
  room = b.room ∙ a.room;
}

pub record Clearing (f : ℕ → ℕ) (x : ℕ) (ys : List ℕ) (g₀ : Book) (k : ℕ) (g : Book) : Type 0 where
  pub within : k ≤ length ys
  pub fair : Fair g
  pub room : length g.words ≡ length g₀.words
  pub left : notes note g (clears f x (drop k ys)) ≡ notes note g₀ (clears f x ys)

module _ {f : ℕ → ℕ} {x : ℕ} {ys : List ℕ} {g₀ g : Book} {k : ℕ} (h : Clearing f x ys g₀ k g) where
  turn : k < length ys → clears f x (drop k ys) ≡ entry (f (get_or ys k 0)) (get_or ys k 0) x (clears f x (drop (k + 1) ys))
  turn l = ap (clears f x) (drop-next ys k l)

  pub clear_none : k < length ys → f (get_or ys k 0) ≡ 0 → Clearing f x ys g₀ (k + 1) g
  clear_none l e = record {
    within = omega arith;
    fair = h.fair;
    room = h.room;
    left = ap (λ (c : ℕ). notes note g (entry c (get_or ys k 0) x (clears f x (drop (k + 1) ys)))) (sym e) ∙ sym (ap (notes note g) (turn l)) ∙ h.left;
  }

  pub clear_next : {g' : Book} {o : Op} → k < length ys → (f (get_or ys k 0) ≡ 0 → ⊥) → o ≡ multiple (f (get_or ys k 0)) (get_or ys k 0) x → Noted g o g' → Clearing f x ys g₀ (k + 1) g'
  unfolding notes
  clear_next {g'} {o} l n e d = record {
    within = omega arith;
    fair = subst Fair (sym d.is) (fair_note g o h.fair);
    room = ap (λ (b : Book). length b.words) d.is ∙ length-note g o ∙ h.room;
    left =
        ap (λ (b : Book). notes note b (clears f x (drop (k + 1) ys))) (d.is ∙ ap (note g) e)
        ∙ sym (ap (notes note g) (turn l ∙ entry-multiple (f (get_or ys k 0)) (get_or ys k 0) x (clears f x (drop (k + 1) ys)) n)) ∙ h.left;
  }

  pub clear-one : {g' : Book} → k < length ys → f (get_or ys k 0) ≡ 1 → Noted g (AddAssign (get_or ys k 0) x) g' → Clearing f x ys g₀ (k + 1) g'
  unfolding multiple
  clear-one l e d = clear_next l (λ n. omega arith) (ap (λ (c : ℕ). multiple c (get_or ys k 0) x) (sym e)) d

  pub clear_end : length ys ≤ k → Listed g₀ (clears f x ys) g
  unfolding notes
  clear_end l = record {
    is = sym (ap (λ (z : List ℕ). notes note g (clears f x z)) (gone ys k l)) ∙ h.left;
    fair = h.fair;
    room = h.room;
  }

-- a binary entry by the code's test
pub bit-one : (l : ℕ) (m : List ℕ) (y q : ℕ) → bit l m y q ≡ true → entry_at l m y q ≡ 1
unfolding bit
bit-one l m y q e = eqb-true (entry_at l m y q) 1 e

pub bit-none : (l : ℕ) (m : List ℕ) (y q : ℕ) → entry_at l m y q ≤ 1 → bit l m y q ≡ false → entry_at l m y q ≡ 0
unfolding bit
bit-none l m y q h e = let d : (entry_at l m y q ≡ 1 → ⊥) = eqb-false (entry_at l m y q) 1 e in omega arith

-- the loop over the octet rows: row s + j is octet row j
octet_here : (l s : ℕ) (octets : List ℕ) (q h j : ℕ) → q < l → j < h → entry_at l octets (get_or (range s h) j 0 - s) q ≡ get_or octets (j * l + q) 0
octet_here l s octets q h j k i =
    let e : get_or (range s h) j 0 - s ≡ j = omega (arith, get_or-range s h j i) in
    ap (λ (x : ℕ). entry_at l octets x q) e ∙ entry_within l octets j q k

pub record Multiples (l s : ℕ) (octets : List ℕ) (q x h : ℕ) (g₀ : Book) (j : ℕ) (g : Book) : Type 0 where
  pub column : q < l
  pub inv : Clearing (λ y. entry_at l octets (y - s) q) x (range s h) g₀ j g

module _ {l s q x h j : ℕ} {octets : List ℕ} {g₀ g : Book} (c : Multiples l s octets q x h g₀ j g) where
  pub octet_none : j < h → get_or octets (j * l + q) 0 ≡ 0 → Multiples l s octets q x h g₀ (j + 1) g
  octet_none i e = record { column = c.column; inv = clear_none c.inv (omega (arith, length-range s h)) (octet_here l s octets q h j c.column i ∙ e) }

  pub octet_next : {g' : Book} {o : Op} → j < h → (get_or octets (j * l + q) 0 ≡ 0 → ⊥) → o ≡ multiple (get_or octets (j * l + q) 0) (s + j) x → Noted g o g'
      → Multiples l s octets q x h g₀ (j + 1) g'
  octet_next i n e d = record {
    column = c.column;
    inv = clear_next c.inv (omega (arith, length-range s h)) (λ z. n (sym (octet_here l s octets q h j c.column i) ∙ z))
        (e ∙ sym (ap₂ (λ (a b : ℕ). multiple a b x) (octet_here l s octets q h j c.column i) (get_or-range s h j i))) d;
  }

  pub octet_end : h ≤ j → Listed g₀ (clears (λ y. entry_at l octets (y - s) q) x (range s h)) g
  octet_end i = clear_end c.inv (omega (arith, length-range s h))

entry-append : (c y x : ℕ) (os ps : List Op) → entry c y x (os ++ ps) ≡ entry c y x os ++ ps
entry-append zero y x os ps = refl
entry-append (suc zero) y x os ps = refl
entry-append (suc (suc c)) y x os ps = refl

pub clears-append : (f : ℕ → ℕ) (x : ℕ) (ys zs : List ℕ) → clears f x (ys ++ zs) ≡ clears f x ys ++ clears f x zs
clears-append f x [] zs = refl
clears-append f x (y ∷ ys) zs = ap (entry (f y) y x) (clears-append f x ys zs) ∙ entry-append (f y) y x (clears f x ys) (clears f x zs)

pub outside : (z : Shape) → z.s + z.h + z.h ≤ z.m → (y : ℕ) → In y (first_rows z) → (y < z.s) ⊎ (z.s + z.h ≤ y)
outside z fits y i = go (less? y z.s) (less? y (z.s + z.h))
  where
    go : (y < z.s) ⊎ (z.s ≤ y) → (y < z.s + z.h) ⊎ (z.s + z.h ≤ y) → (y < z.s) ⊎ (z.s + z.h ≤ y)
    go (inl a) b = inl a
    go (inr a) (inr b) = inr b
    go (inr a) (inl b) =
        absurd (omega (arith, in_member y (first_rows z) i, (occ-range z.s z.h y).inside a b, rows_once z fits y, occ-append y (first_rows z) (octet_rows z)))

module _ (z : Shape) (binary octets : List ℕ) (q x : ℕ) where
  pub cleared : (ys : List ℕ) → ((y : ℕ) → In y ys → (y < z.s) ⊎ (z.s + z.h ≤ y)) → {g h k : Book}
      → Listed g (clears (λ y. entry_at z.n binary y q) x ys) h
      → Listed h (clears (λ y. entry_at z.n octets (y - z.s) q) x (octet_rows z)) k
      → Listed g (clears (λ y. combined z binary octets y q) x (ys ++ octet_rows z)) k
  cleared ys out {g} {h} {k} a b =
      let ea = clears_alike (λ y. entry_at z.n binary y q) (λ y. combined z binary octets y q) x ys (λ y m. sym (combined_binary z binary octets y q (out y (member_in y ys m)))) in
      let eb = clears_alike (λ y. entry_at z.n octets (y - z.s) q) (λ y. combined z binary octets y q) x (octet_rows z)
      (λ y m. let r = in_range z.s z.h y (member_in y (octet_rows z) m) in sym (combined_octet z binary octets y q r.0 r.1)) in
      subst (λ (os : List Op). Listed g os k) (sym (clears-append (λ y. combined z binary octets y q) x ys (octet_rows z)))
      (listed_then (subst (λ (os : List Op). Listed g os h) ea a) (subst (λ (os : List Op). Listed h os k) eb b))
