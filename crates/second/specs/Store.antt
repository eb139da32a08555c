-- The working matrix in a lent store of m rows of l bytes, of which the places from i on are used.
--   store_of m l i w     its rows by slab row, of each the entries from place i on
--   matrix a w         the same of an area
--   Place m l y q x     x is where place q of row y stands, or would
--   Sized               the store has m rows of l bytes, and i is a place of it, or its end
--   Rooms               there is a row of scratch besides, and the rows are few enough for a word
--   length-store_of, row-store_of, length-row, at-store_of   its rows and entries
--   store_of-put         a part of the store is replaced: that row is
--   store_of-rows        a store whose rows are known
--   act-add, act_scale, act_fma   a row operation, by the row that it makes
--   row-part, row_made  the bytes from a row's place i to its end are that row; what a function makes of them
-- Assumes nothing.
use Rattle.std.specs.Prelude.{◌≡◌, Bool, true, false, List, [], ◌∷◌, ◌++◌, map, ℕ, ◌+◌, ◌*◌, ◌-◌, ◌≤◌, ◌<◌, eqb, ltb, get_or, set, take, drop}
use Rattle.std.proofs.Math.Path.{refl, sym, ap}
use Rattle.std.proofs.Common.{◌∙◌, arith, eqb-true, ltb-true, ltb-false, length-set, drop_at, ext_get_or, get_or-set_same, get_or-set_other}
use Rattle.std.proofs.lemmas.Bool.{eqb-false}
use Rattle.std.proofs.Math.ListN.{length}
use Rattle.std.proofs.lemmas.List.{length-map}
use Rattle.std.proofs.Math.Seq.{take_at, length-take-le}
use Rattle.phases.specs.Matrix.{get_or-map-range, length-range}
use Rattle.loops.specs.Part.{part, put, length_part, get_d_part, length-put, get_or-put-before, get_or-put-after, row_within}
use Rattle.octet.specs.Octet.{add, mul}
use Rattle.octets.specs.Rows.{add_row, scale_row, fma_row}
use Rattle.oplist.specs.declared.Op.TheVariants.{AddAssign, MulAssign, FMA}
use Rattle.phases.specs.System.{range}
use Rattle.phases.specs.Two.{at, sums, act}
use Rattle.second.specs.declared.Area.{Area}

unfoldable pub store_of : ℕ → ℕ → ℕ → List ℕ → List (List ℕ)
store_of m l i w = map (λ (y : ℕ). part (y * l + i) (l - i) w) (range 0 m)

abbrev pub matrix : Area → List ℕ → List (List ℕ)
matrix a w = store_of a.m a.l a.i w

pub record Place (m l y q x : ℕ) : Type 0 where
  pub is : x ≡ y * l + q
  pub upto : x + (l - q) ≤ m * l

pub record Sized (m l i : ℕ) (w : List ℕ) : Type 0 where
  pub size : length w ≡ m * l
  pub from : i ≤ l

pub record Rooms (m l i : ℕ) (w scratch : List ℕ) : Type 0 where
  pub store : Sized m l i w
  pub row : l ≤ length scratch
  pub few : m ≤ 65535

-- rows end in the store, and do not overlap
pub length-store_of : (m l i : ℕ) (w : List ℕ) → length (store_of m l i w) ≡ m
unfolding store_of
length-store_of m l i w = length-map (range 0 m) (λ (y : ℕ). part (y * l + i) (l - i) w) ∙ length-range 0 m

pub row-store_of : (m l i : ℕ) (w : List ℕ) (y : ℕ) → y < m → get_or (store_of m l i w) y [] ≡ part (y * l + i) (l - i) w
unfolding store_of
row-store_of m l i w y h =
    let e : 0 + y ≡ y = omega arith in
    get_or-map-range (λ (x : ℕ). part (x * l + i) (l - i) w) 0 m y [] h ∙ ap (λ (x : ℕ). part (x * l + i) (l - i) w) e

-- a store whose rows are those of f
pub store_of-rows : (m l i : ℕ) (w : List ℕ) (f : ℕ → List ℕ) → ((y : ℕ) → y < m → get_or (store_of m l i w) y [] ≡ f y) → store_of m l i w ≡ map f (range 0 m)
store_of-rows m l i w f h =
    let n : length (map f (range 0 m)) ≡ m = length-map (range 0 m) f ∙ length-range 0 m in
    ext_get_or [] (store_of m l i w) (map f (range 0 m)) (length-store_of m l i w ∙ sym n) (λ y k. row y (omega (arith, k, length-store_of m l i w)))
  where
    row : (y : ℕ) → y < m → get_or (store_of m l i w) y [] ≡ get_or (map f (range 0 m)) y []
    row y k = let e : 0 + y ≡ y = omega arith in h y k ∙ sym (get_or-map-range f 0 m y [] k ∙ ap f e)

-- parts of a list with a part replaced
part_ext : (w v : List ℕ) (b k : ℕ) → b + k ≤ length w → b + k ≤ length v → ((j : ℕ) → j < k → get_or w (b + j) 0 ≡ get_or v (b + j) 0) → part b k w ≡ part b k v
part_ext w v b k h h' e =
    let n = length_part w b k h in
    ext_get_or 0 (part b k w) (part b k v) (n ∙ sym (length_part v b k h'))
    (λ j l. let l' : j < k = omega (arith, l, n) in get_d_part w b k j l' ∙ e j l' ∙ sym (get_d_part v b k j l'))

module _ (w : List ℕ) (a n : ℕ) (r : List ℕ) (h : a + n ≤ length w) (e : length r ≡ n) where
  part-put : part a n (put a n w r) ≡ r
  unfolding part put
  part-put =
      let t : length (take a w) ≡ a = length-take-le a w (omega arith) in
      ap (take n) (drop_at (take a w) _ a t) ∙ take_at r (drop n (drop a w)) n e

  part-put-before : (b k : ℕ) → b + k ≤ a → part b k (put a n w r) ≡ part b k w
  part-put-before b k l =
      part_ext (put a n w r) w b k (omega (arith, length-put w a n r h e)) (omega arith)
      (λ j l'. get_or-put-before w a n r h e (b + j) (omega arith))

  part-put-after : (b k : ℕ) → a + n ≤ b → b + k ≤ length w → part b k (put a n w r) ≡ part b k w
  part-put-after b k l l' =
      part_ext (put a n w r) w b k (omega (arith, length-put w a n r h e)) l' (λ j l''. get_or-put-after w a n r h e (b + j) (omega arith))

module _ (m l i : ℕ) (w : List ℕ) (sized : Sized m l i w) (y : ℕ) (low : y < m) where
  pub length-row : length (get_or (store_of m l i w) y []) ≡ l - i
  length-row = ap length (row-store_of m l i w y low) ∙ length_part w (y * l + i) (l - i) (omega (arith, sized, row_within l m y low))

  pub at-store_of : (q x : ℕ) → i ≤ q → q < l → x ≡ y * l + q → at (store_of m l i w) y (q - i) ≡ get_or w x 0
  at-store_of q x h k e =
      let f : y * l + i + (q - i) ≡ x = omega arith in
      ap (λ (r : List ℕ). get_or r (q - i) 0) (row-store_of m l i w y low)
      ∙ get_d_part w (y * l + i) (l - i) (q - i) (omega arith) ∙ ap (λ (n : ℕ). get_or w n 0) f

  pub store_of-put : (r : List ℕ) → length r ≡ l - i → store_of m l i (put (y * l + i) (l - i) w r) ≡ set (store_of m l i w) y r
  store_of-put r e =
      ext_get_or [] (store_of m l i (put (y * l + i) (l - i) w r)) (set (store_of m l i w) y r)
      (length-store_of m l i _ ∙ sym (length-set (store_of m l i w) y r ∙ length-store_of m l i w))
      (λ x k. let h : x < m = omega (arith, k, length-store_of m l i (put (y * l + i) (l - i) w r)) in row-store_of m l i _ x h ∙ each x h (eqb x y) refl)
    where
      fits : y * l + i + (l - i) ≤ length w
      fits = omega (arith, row_within l m y low)

      each : (x : ℕ) → x < m → (b : Bool) → eqb x y ≡ b → part (x * l + i) (l - i) (put (y * l + i) (l - i) w r) ≡ get_or (set (store_of m l i w) y r) x []
      each x h true p =
          let q = eqb-true x y p in
          ap (λ (n : ℕ). part (n * l + i) (l - i) (put (y * l + i) (l - i) w r)) q ∙ part-put w (y * l + i) (l - i) r fits e
          ∙ sym (ap (λ (n : ℕ). get_or (set (store_of m l i w) y r) n []) q ∙ get_or-set_same (store_of m l i w) y r [] (omega (arith, length-store_of m l i w)))
      each x h false p =
          let n = eqb-false x y p in
          other x h n (ltb x y) refl ∙ sym (get_or-set_other (store_of m l i w) y x r [] n ∙ row-store_of m l i w x h)
        where
          other : (x : ℕ) → x < m → (x ≡ y → ⊥) → (b : Bool) → ltb x y ≡ b → part (x * l + i) (l - i) (put (y * l + i) (l - i) w r) ≡ part (x * l + i) (l - i) w
          other x h n true p =
              let s = row_within l y x (ltb-true x y p) in
              part-put-before w (y * l + i) (l - i) r fits e (x * l + i) (l - i) (omega arith)
          other x h n false p =
              let k : y < x = omega (arith, n, ltb-false x y p) in
              let s = row_within l x y k in
              let s' = row_within l m x h in
              part-put-after w (y * l + i) (l - i) r fits e (x * l + i) (l - i) (omega arith) (omega arith)

sums-add_row : (xs ys : List ℕ) → length xs ≡ length ys → add_row xs ys ≡ sums xs ys
unfolding add_row
sums-add_row [] ys h = refl
sums-add_row (x ∷ xs) [] h = absurd (omega arith)
sums-add_row (x ∷ xs) (y ∷ ys) h = ap (λ (l : List ℕ). add x y ∷ l) (sums-add_row xs ys (omega arith))

-- row y gets what an operation makes of it
module _ (m l i : ℕ) (w : List ℕ) (sized : Sized m l i w) (y : ℕ) (low : y < m) where
  abbrev X : List (List ℕ)
  X = store_of m l i w

  pub act-add : (x : ℕ) → x < m → set X y (add_row (get_or X y []) (get_or X x [])) ≡ act (AddAssign y x) X
  act-add x h = ap (set X y) (sums-add_row _ _ (length-row m l i w sized y low ∙ sym (length-row m l i w sized x h)))

  pub act_scale : (c : ℕ) → set X y (scale_row c (get_or X y [])) ≡ act (MulAssign y c) X
  unfolding scale_row
  act_scale c = refl

  pub act_fma : (x c : ℕ) → x < m → set X y (fma_row (get_or X y []) (get_or X x []) c) ≡ act (FMA y x c) X
  unfolding fma_row scale_row
  act_fma x c h =
      ap (set X y) (sums-add_row _ _ (length-row m l i w sized y low ∙ sym (length-map (get_or X x []) (mul c) ∙ length-row m l i w sized x h)))

-- the part of row y, from where its place i stands to where its end does
module _ (m l i : ℕ) (w : List ℕ) (sized : Sized m l i w) (y : ℕ) (low : y < m) {a b : ℕ} (start : Place m l y i a) (stop : Place m l y l b) where
  span : b - a ≡ l - i
  span = omega arith

  pub row-part : take (b - a) (drop a w) ≡ get_or (store_of m l i w) y []
  unfolding part
  row-part = rw (span, start.is) (sym (row-store_of m l i w y low))

  pub row_made : (f : List ℕ → List ℕ) {r : List ℕ} → r ≡ f (take (b - a) (drop a w)) → length r ≡ l - i
      → store_of m l i (take a w ++ (r ++ drop (b - a) (drop a w))) ≡ set (store_of m l i w) y (f (get_or (store_of m l i w) y []))
  unfolding put
  row_made f {r} e n =
      let q : r ≡ f (get_or (store_of m l i w) y []) = e ∙ ap f row-part in
      rw (span, start.is) (store_of-put m l i w sized y low r n ∙ ap (set (store_of m l i w) y) q)
