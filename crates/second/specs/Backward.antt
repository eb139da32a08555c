-- Clearing above, when the matrix is not needed any more: operations are only noted.
--   Above             rows that can be read at place q, and the row that clears them
--   Backable          the store, the order and the journal are as `backward` needs them
--   Cleared           a list of operations was noted
--   cleared_none, cleared_one, cleared_then, cleared_as, cleared_fair   of none, of one, of two lists, of an equal list; the journal stays fair
--   above-next        a row more is cleared
--   part-rows         rows of a part of the order
--   Backing           what is left to be noted from a column on makes the whole
--   back-next, back_end   a column more is cleared; all are
-- Assumes nothing.
use Rattle.std.specs.Prelude.{◌≡◌, refl, List, [], ◌∷◌, ◌++◌, ℕ, suc, ◌+◌, ◌-◌, ◌≤◌, ◌<◌, length, get_or, take, drop}
use Rattle.std.proofs.Common.{sym, ap₂, subst, ◌∙◌, arith, length-drop, get_or-take, get_or-drop, take-take, length-take-le}
use Rattle.std.proofs.Math.Path.{ap}
use Rattle.loops.specs.Room.{notes, notes-append}
use Rattle.oplist.specs.declared.Op.{Op}
use Rattle.oplist.specs.Facts.{Rows, Order}
use Rattle.phases.specs.One.{entry, clears}
use Rattle.phases.specs.Two.{at, backward}
use Rattle.tally.specs.Book.{Book, note, Fair, fair_notes}
use Rattle.second.specs.Store.{Sized}
use Rattle.second.specs.Clear.{clears-take}

pub record Above (m l i q x : ℕ) (w ys : List ℕ) : Type 0 where
  pub store : Sized m l i w
  pub few : m ≤ 65535
  pub from : i ≤ q
  pub upto : q < l
  pub by : x < m
  pub rows : (k : ℕ) → k < length ys → get_or ys k 0 < m

-- what clearing above asks for: a store of few rows, and the order of all of them
pub record Backable (m l i : ℕ) (w d : List ℕ) (g : Book) : Type 0 where
  pub store : Sized m l i w
  pub few : m ≤ 65535
  pub wide : l ≤ m
  pub order : Order m m d
  pub fair : Fair g

pub record Cleared (os : List Op) (g g' : Book) : Type 0 where
  pub is : g' ≡ notes note g os

pub cleared_none : {g : Book} → Cleared [] g g
unfolding notes
cleared_none = record { is = refl }

pub cleared_one : {g g' : Book} {o : Op} → g' ≡ note g o → Cleared (o ∷ []) g g'
unfolding notes
cleared_one e = record { is = e }

pub cleared_then : {g g' g'' : Book} {os ps : List Op} → Cleared os g g' → Cleared ps g' g'' → Cleared (os ++ ps) g g''
cleared_then {g} {os = os} {ps = ps} a b = record { is = b.is ∙ ap (λ (h : Book). notes note h ps) a.is ∙ sym (notes-append note g os ps) }

pub cleared_as : {g g' : Book} {os ps : List Op} → os ≡ ps → Cleared os g g' → Cleared ps g g'
cleared_as {g} {g'} e a = subst (λ (os : List Op). Cleared os g g') e a

pub cleared_fair : {g g' : Book} {os : List Op} → Cleared os g g' → Fair g → Fair g'
cleared_fair {g} {os = os} a f = subst Fair (sym a.is) (fair_notes os g f)

pub above-next : (s : ℕ → ℕ) (x : ℕ) (ys : List ℕ) (k : ℕ) {g₀ g g' : Book} → k < length ys → Cleared (clears s x (take k ys)) g₀ g
    → Cleared (entry (s (get_or ys k 0)) (get_or ys k 0) x []) g g' → Cleared (clears s x (take (k + 1) ys)) g₀ g'
above-next s x ys k h a b = cleared_as (sym (clears-take s x ys k h)) (cleared_then a b)

pub part-rows : (m i n : ℕ) (d : List ℕ) → Rows m d → i + n ≤ length d → (k : ℕ) → k < length (take n (drop i d)) → get_or (take n (drop i d)) k 0 < m
part-rows m i n d R h k l =
    let e : length (take n (drop i d)) ≡ n = length-take-le n (drop i d) (omega (arith, length-drop i d)) in
    let l' : k < n = omega (arith, l, e) in
    subst (λ (x : ℕ). x < m) (sym (get_or-take n (drop i d) k 0 l' ∙ get_or-drop i d k 0)) (R.below (i + k) (omega arith))

-- what is left to be cleared from column e on down, the last column first
pub record Backing (X : List (List ℕ)) (rows : List ℕ) (n k : ℕ) (g₀ g : Book) : Type 0 where
  pub left : notes note g (backward X rows k) ≡ notes note g₀ (backward X rows n)

module _ (X : List (List ℕ)) (d : List ℕ) (l i : ℕ) where
  abbrev rows : List ℕ
  rows = take (l - i) (drop i d)

  pub back-next : {q e : ℕ} {g₀ g g' : Book} → i ≤ q → q < l → q + 1 ≡ e → Backing X rows (l - i) (e - i) g₀ g
      → Cleared (clears (λ (z : ℕ). at X z (q - i)) (get_or d q 0) (take (q - i) (drop i d))) g g' → Backing X rows (l - i) (q - i) g₀ g'
  back-next {q} {e} {g = g} h k s b c =
      record {
        left =
            ap (λ (j : _). notes note j (backward X rows (q - i))) (c.is ∙ ap (notes note g) same)
            ∙ sym (notes-append note g _ (backward X rows (q - i))) ∙ ap (λ (n : ℕ). notes note g (backward X rows n)) (sym more) ∙ b.left;
      }
    where
      more : e - i ≡ suc (q - i)
      more = omega arith

      f : i + (q - i) ≡ q
      f = omega arith

      there : get_or d q 0 ≡ get_or rows (q - i) 0
      there = sym (get_or-take (l - i) (drop i d) (q - i) 0 (omega arith) ∙ get_or-drop i d (q - i) 0 ∙ ap (λ (n : ℕ). get_or d n 0) f)

      same : clears (λ (z : ℕ). at X z (q - i)) (get_or d q 0) (take (q - i) (drop i d)) ≡ clears (λ (z : ℕ). at X z (q - i)) (get_or rows (q - i) 0) (take (q - i) rows)
      same =
          ap₂ (λ (x : ℕ) (ys : List ℕ). clears (λ (z : ℕ). at X z (q - i)) x ys) there
          (sym (take-take (q - i) (l - i) (drop i d) (omega arith)))

  pub back_end : {k : ℕ} {g₀ g : Book} → k ≡ 0 → Backing X rows (l - i) k g₀ g → Cleared (backward X rows (l - i)) g₀ g
  unfolding notes
  back_end {k} {g = g} e b = record { is = ap (λ (n : ℕ). notes note g (backward X rows n)) (sym e) ∙ b.left }
