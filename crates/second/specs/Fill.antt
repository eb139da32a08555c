-- The working matrix filled from the two lists that a caller gives.
--   Filling           the lengths that filling asks for, and columns that are there
--   picked            the entries of row j at some columns, in a list of rows of l
--   entries           the matrix of a binary list and octet rows, which are h from row s on
--   map_as, picked_as   of a map
--   entries-before, entries_octet, entries-after   row y, by where it stands to the octet rows
--   Filled, filled_next, filled_end   rows filled from the top
-- Assumes nothing.
use Rattle.std.specs.Prelude.{◌≡◌, refl, List, [], ◌∷◌, map, ℕ, suc, ◌+◌, ◌*◌, ◌-◌, ◌≤◌, ◌<◌, length, get_or, set, take, drop}
use Rattle.std.proofs.Common.{sym, ap, ap₂, ◌∙◌, arith, below_more, lt-ltb, le-ltb, le-leb, get_or-take, get_or-drop, get_or-set_same, get_or-set_other}
use Rattle.std.proofs.lemmas.Bool.{lt-leb}
use Rattle.loops.specs.Entry.{entry_at, entry_within}
use Rattle.phases.specs.System.{range, combined}
use Rattle.second.specs.Store.{store_of, Sized, Place, length-store_of, store_of-rows}

pub record Filling (m l s h i : ℕ) (w bits octs cols : List ℕ) : Type 0 where
  pub store : Sized m l i w
  pub binary : length bits ≡ m * l
  pub octet : length octs ≡ h * l
  pub last : s + h ≤ m
  pub columns : length cols ≡ l - i
  pub low : (k : ℕ) → k < length cols → get_or cols k 0 < l

abbrev pub picked : ℕ → List ℕ → ℕ → List ℕ → List ℕ
picked l src j cols = map (entry_at l src j) cols

abbrev pub entries : ℕ → ℕ → ℕ → ℕ → List ℕ → List ℕ → ℕ → ℕ → ℕ
entries m l s h bits octs = combined (record { m = m; n = l; s = s; h = h; w = 0 }) bits octs

pub map_as : (f g : ℕ → ℕ) (xs : List ℕ) → ((k : ℕ) → k < length xs → f (get_or xs k 0) ≡ g (get_or xs k 0)) → map f xs ≡ map g xs
map_as f g [] e = refl
map_as f g (x ∷ xs) e = ap₂ (λ (a : ℕ) (l : List ℕ). a ∷ l) (e 0 (omega arith)) (map_as f g xs (λ k h. e (suc k) (omega arith)))

-- the bytes from row j's start to its end
pub picked_as : (h l j : ℕ) (src cols : List ℕ) {p e : ℕ} → Place h l j 0 p → Place h l j l e → ((k : ℕ) → k < length cols → get_or cols k 0 < l)
    → map (λ (q : ℕ). get_or (take (e - p) (drop p src)) q 0) cols ≡ picked l src j cols
picked_as h l j src cols {p} {e} a b low =
    map_as _ _ cols
    (λ k n. let z : p + get_or cols k 0 ≡ j * l + get_or cols k 0 = omega arith in
    get_or-take (e - p) (drop p src) (get_or cols k 0) 0 (omega (arith, low k n)) ∙ get_or-drop p src (get_or cols k 0) 0 ∙ ap (λ (x : ℕ). get_or src x 0) z
    ∙ sym (entry_within l src j (get_or cols k 0) (low k n)))

-- whose row it is
module _ (m l s h : ℕ) (bits octs : List ℕ) (y : ℕ) (cols : List ℕ) where
  pub entries-before : y < s → picked l bits y cols ≡ map (entries m l s h bits octs y) cols
  entries-before k = map_as _ _ cols (λ j n. rw (lt-leb s y k))

  pub entries_octet : s ≤ y → y < s + h → picked l octs (y - s) cols ≡ map (entries m l s h bits octs y) cols
  entries_octet k k' = map_as _ _ cols (λ j n. rw (le-leb s y k, lt-ltb y (s + h) k'))

  pub entries-after : s ≤ y → s + h ≤ y → picked l bits y cols ≡ map (entries m l s h bits octs y) cols
  entries-after k k' = map_as _ _ cols (λ j n. rw (le-leb s y k, le-ltb y (s + h) k'))

pub record Filled (m l i : ℕ) (f : ℕ → List ℕ) (y : ℕ) (w : List ℕ) : Type 0 where
  pub each : (x : ℕ) → x < y → get_or (store_of m l i w) x [] ≡ f x

module _ {m l i : ℕ} {f : ℕ → List ℕ} where
  pub filled_next : {y : ℕ} {w w' : List ℕ} → y < m → Filled m l i f y w → store_of m l i w' ≡ set (store_of m l i w) y (f y) → Filled m l i f (y + 1) w'
  filled_next {y} {w} {w'} h a e = record {
    each =
        below_more _ _
        (λ x k. ap (λ (X : List (List ℕ)). get_or X x []) e ∙ get_or-set_other (store_of m l i w) y x (f y) [] (λ z. omega arith) ∙ a.each x k)
        (ap (λ (X : List (List ℕ)). get_or X y []) e ∙ get_or-set_same (store_of m l i w) y (f y) [] (omega (arith, length-store_of m l i w)));
  }

  pub filled_end : {y : ℕ} {w : List ℕ} → m ≤ y → Filled m l i f y w → store_of m l i w ≡ map f (range 0 m)
  filled_end {y} {w} h a = store_of-rows m l i w f (λ x k. a.each x (omega arith))
