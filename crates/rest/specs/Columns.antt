-- A list by place, put into a cleared room in the order of columns.
--   placed l c xs o      the room o whose first l entries are xs in the order of columns: entry c[p] is xs[p]
--   Blank l o            the first l entries of o are zeros
--   Ordering             what the order needs
--   length-placed        the room keeps its length
--   placed-is            its two parts: the definition's `by-column`, and the rest of the room
--   by-column-take       more entries than columns don't count
--   placed-none, placed_nothing   where nothing is placed, the room is as it was
--   placed-room          what the room's first entries were does not count
--   placed-next          one more place in front: its column's entry is set
--   Placing, placing_start, placing_next, placing_end   the places from one on are in the room: a loop from the last place to the first
--   get_or-placed          what was placed is found, no column being there twice
-- Assumes nothing.
use Rattle.std.specs.Prelude.{◌≡◌, refl, Bool, true, false, cond, ℕ, zero, suc, ◌+◌, ◌-◌, ◌≤◌, ◌<◌, eqb, length, get_or, set, take}
use Rattle.std.proofs.Math.Path.{sym, ap}
use Rattle.std.proofs.Common.{ap₂, ◌∙◌, arith, length-set, drop-set-lt, get_or-set_same, get_or-set_other, get_or-take, get_or-drop, length-take-le, ext_get_or, eqb-true, eq-eqb, ne_eqb}
use mathlib.Core.List.{List, [], ◌∷◌, ◌++◌, map}
use Rattle.std.proofs.Math.ListN.{drop, length-append, length-drop, take-append-drop, get_or-append}
use Rattle.std.proofs.lemmas.List.{set-append_left}
use Rattle.std.proofs.Math.Seq.{drop-length}
use Rattle.std.proofs.lemmas.Bool.{eqb-false}
use Rattle.phases.proofs.Means.{length-by-column, get_or-by-column}
use Rattle.loops.specs.Part.{drop-next}
use Rattle.oplist.specs.Facts.{Rows}
use Rattle.grid.specs.Grid.{Under}
use Rattle.phases.specs.System.{range}
use Rattle.phases.specs.Rest.{beside, by-column}

unfoldable pub placed : ℕ → List ℕ → List ℕ → List ℕ → List ℕ
placed l c xs o = by-column l c xs ++ drop l o

pub record Blank (l : ℕ) (o : List ℕ) : Type 0 where
  pub room : l ≤ length o
  pub zeros : (q : ℕ) → q < l → get_or o q 0 ≡ 0

-- an order can be made: a cleared room for as many columns as there are, and a row for each
pub record Ordering (o c d : List ℕ) : Type 0 where
  pub blank : Blank (length c) o
  pub under : Under (length c) c
  pub rows : length c ≤ length d

module _ (l : ℕ) (c xs : List ℕ) where
  pub length-placed : (o : List ℕ) → l ≤ length o → length (placed l c xs o) ≡ length o
  unfolding placed
  length-placed o h = length-append (by-column l c xs) (drop l o) ∙ omega (arith, length-by-column l c xs, length-drop l o)

  placed-zeros : (o : List ℕ) → Blank l o → ((q : ℕ) → beside q c xs ≡ 0) → placed l c xs o ≡ o
  unfolding placed
  placed-zeros o b z =
      ap (λ (a : List ℕ). a ++ drop l o)
      (ext_get_or 0 (by-column l c xs) (take l o) (length-by-column l c xs ∙ sym (length-take-le l o b.room))
      (λ q h. let k : q < l = omega (arith, h, length-by-column l c xs) in get_or-by-column l c xs q k ∙ z q ∙ sym (get_or-take l o q 0 k ∙ b.zeros q k)))
      ∙ take-append-drop l o

pub placed-none : (l : ℕ) (xs o : List ℕ) → Blank l o → placed l [] xs o ≡ o
placed-none l xs o b = placed-zeros l [] xs o b (λ q. refl)

pub placed_nothing : (l : ℕ) (c o : List ℕ) → Blank l o → placed l c [] o ≡ o
placed_nothing l c o b = placed-zeros l c [] o b (λ q. zero-at q c)
  where
    zero-at : (q : ℕ) (c : List ℕ) → beside q c [] ≡ 0
    zero-at q [] = refl
    zero-at q (p ∷ c) = refl

module _ (l q x : ℕ) (c xs : List ℕ) (h : q < l) where
  by-column-next : by-column l (q ∷ c) (x ∷ xs) ≡ set (by-column l c xs) q x
  by-column-next =
      ext_get_or 0 (by-column l (q ∷ c) (x ∷ xs)) (set (by-column l c xs) q x)
      (length-by-column l (q ∷ c) (x ∷ xs) ∙ sym (length-set (by-column l c xs) q x ∙ length-by-column l c xs))
      (λ p k. let j : p < l = omega (arith, k, length-by-column l (q ∷ c) (x ∷ xs)) in get_or-by-column l (q ∷ c) (x ∷ xs) p j ∙ at p j (eqb p q) refl)
    where
      at : (p : ℕ) → p < l → (b : Bool) → eqb p q ≡ b → cond b x (beside p c xs) ≡ get_or (set (by-column l c xs) q x) p 0
      at p j true e =
          sym (ap (λ (n : ℕ). get_or (set (by-column l c xs) q x) n 0) (eqb-true p q e) ∙ get_or-set_same (by-column l c xs) q x 0 (omega (arith, length-by-column l c xs)))
      at p j false e = sym (get_or-set_other (by-column l c xs) q p x 0 (eqb-false p q e) ∙ get_or-by-column l c xs p j)

  pub placed-next : (o : List ℕ) → placed l (q ∷ c) (x ∷ xs) o ≡ set (placed l c xs o) q x
  unfolding placed
  placed-next o =
      ap (λ (a : List ℕ). a ++ drop l o) by-column-next ∙ sym (set-append_left (by-column l c xs) (drop l o) q x (omega (arith, length-by-column l c xs)))

pub placed-is : (l : ℕ) (c xs o : List ℕ) → placed l c xs o ≡ by-column l c xs ++ drop l o
unfolding placed
placed-is l c xs o = refl

-- more entries than columns don't count
beside-take : (q : ℕ) (c xs : List ℕ) → beside q c (take (length c) xs) ≡ beside q c xs
beside-take q [] xs = refl
beside-take q (p ∷ c) [] = refl
beside-take q (p ∷ c) (x ∷ xs) = ap (cond (eqb q p) x) (beside-take q c xs)

pub by-column-take : (l : ℕ) (c xs : List ℕ) → by-column l c (take (length c) xs) ≡ by-column l c xs
by-column-take l c xs = on (range 0 l)
  where
    on : (qs : List ℕ) → map (λ (q : ℕ). beside q c (take (length c) xs)) qs ≡ map (λ (q : ℕ). beside q c xs) qs
    on [] = refl
    on (q ∷ qs) = ap₂ (λ (a : ℕ) (b : List ℕ). a ∷ b) (beside-take q c xs) (on qs)

-- what the room's first entries were does not count
pub placed-room : (l : ℕ) (c xs o : List ℕ) (y v : ℕ) → y < l → placed l c xs (set o y v) ≡ placed l c xs o
unfolding placed
placed-room l c xs o y v h = ap (λ (a : List ℕ). by-column l c xs ++ a) (drop-set-lt l o y v h)

-- a column that is there once has what stands beside it
beside_at : (c xs : List ℕ) (k : ℕ) → k < length c → k < length xs
    → ((i j : ℕ) → i < length c → j < length c → get_or c i 0 ≡ get_or c j 0 → i ≡ j) → beside (get_or c k 0) c xs ≡ get_or xs k 0
beside_at [] xs k h j a = absurd (omega arith)
beside_at (q ∷ c) [] k h j a = absurd (omega arith)
beside_at (q ∷ c) (x ∷ xs) zero h j a = rw (eq-eqb q q refl)
beside_at (q ∷ c) (x ∷ xs) (suc k) h j a =
    rw (ne_eqb (get_or c k 0) q (λ e. absurd (omega (arith, a (suc k) 0 (omega arith) (omega arith) e))))
    (beside_at c xs k (omega arith) (omega arith) (λ i n l m e. omega (arith, a (suc i) (suc n) (omega arith) (omega arith) e)))

pub get_or-placed : (l p k : ℕ) (c xs o : List ℕ) → Rows l c → p ≤ k → k < length c → k < length xs → get_or (placed l (drop p c) (drop p xs) o) (get_or c k 0) 0 ≡ get_or xs k 0
unfolding placed
get_or-placed l p k c xs o R h j m =
    let e : p + (k - p) ≡ k = omega arith in
    let q : get_or (drop p c) (k - p) 0 ≡ get_or c k 0 = get_or-drop p c (k - p) 0 ∙ ap (λ (n : ℕ). get_or c n 0) e in
    get_or-append (by-column l (drop p c) (drop p xs)) (drop l o) 0 (get_or c k 0) (omega (arith, R.below k j, length-by-column l (drop p c) (drop p xs)))
    ∙ get_or-by-column l (drop p c) (drop p xs) (get_or c k 0) (R.below k j)
    ∙ ap (λ (n : ℕ). beside n (drop p c) (drop p xs)) (sym q)
    ∙ beside_at (drop p c) (drop p xs) (k - p) (omega (arith, length-drop p c)) (omega (arith, length-drop p xs)) apart
    ∙ get_or-drop p xs (k - p) 0 ∙ ap (λ (n : ℕ). get_or xs n 0) e
  where
    apart : (i n : ℕ) → i < length (drop p c) → n < length (drop p c) → get_or (drop p c) i 0 ≡ get_or (drop p c) n 0 → i ≡ n
    apart i n a b e =
        omega
        (arith, R.apart (p + i) (p + n) (omega (arith, length-drop p c)) (omega (arith, length-drop p c)) (sym (get_or-drop p c i 0) ∙ e ∙ get_or-drop p c n 0))

-- the places from p on are in the room
pub record Placing (l : ℕ) (c xs o₀ : List ℕ) (p : ℕ) (o : List ℕ) : Type 0 where
  pub within : p ≤ length c
  pub known : p ≤ length xs
  pub is : o ≡ placed l (drop p c) (drop p xs) o₀
  pub long : length o ≡ length o₀

pub placing_start : (l : ℕ) (c xs o : List ℕ) → Blank l o → length c ≤ length xs → Placing l c xs o (length c) o
placing_start l c xs o b h = record {
  within = omega arith;
  known = h;
  is = sym (ap (λ (a : List ℕ). placed l a (drop (length c) xs) o) (drop-length c) ∙ placed-none l (drop (length c) xs) o b);
  long = refl;
}

module _ {l p : ℕ} {c xs o₀ o : List ℕ} (P : Placing l c xs o₀ p o) where
  pub placing_next : {v : ℕ} → 0 < p → get_or c (p - 1) 0 < l → v ≡ get_or xs (p - 1) 0 → Placing l c xs o₀ (p - 1) (set o (get_or c (p - 1) 0) v)
  placing_next {v} z h e =
      let b : p - 1 + 1 ≡ p = omega arith in
      record {
        within = omega (arith, P.within);
        known = omega (arith, P.known);
        is = ap₂ (λ (a : List ℕ) (x : ℕ). set a (get_or c (p - 1) 0) x) P.is e
            ∙ sym (ap₂ (λ (a y : List ℕ). placed l a y o₀) (drop-next c (p - 1) (omega (arith, P.within))) (drop-next xs (p - 1) (omega (arith, P.known)))
            ∙ placed-next l (get_or c (p - 1) 0) (get_or xs (p - 1) 0) (drop (p - 1 + 1) c) (drop (p - 1 + 1) xs) h o₀
            ∙ ap (λ (n : ℕ). set (placed l (drop n c) (drop n xs) o₀) (get_or c (p - 1) 0) (get_or xs (p - 1) 0)) b);
        long = length-set o (get_or c (p - 1) 0) v ∙ P.long;
      }

  pub placing_end : p ≤ 0 → o ≡ placed l c xs o₀
  placing_end z = let e : p ≡ 0 = omega arith in P.is ∙ ap (λ (n : ℕ). placed l (drop n c) (drop n xs) o₀) e
