-- Parts of a slice, in the shape in which the checker gives them.
--   part a n m    the n entries of m from a on
--   put a n m r   m with the row r in the place of those n
--   length_part, get_d_part   how long a part is, and its entries
--   length-put    the length stays
--   take_put, drop-put   what stands before the row, and after it, stays
--   get_or-put, get_or-put-before, get_or-put-after   an entry of the row's place is the row's; one before it or after it is m's
--   drop-next     what is left from a place on: the entry there, and what is left after it
--   rest_part     what is left from a place on, in the shape of a part
--   row_within    row x of m rows of l entries lies within them
-- Assumes nothing.
use Rattle.std.specs.Prelude.{◌≡◌, List, ◌∷◌, ◌++◌, ℕ, ◌+◌, ◌-◌, ◌*◌, ◌≤◌, ◌<◌, length, take}
use Rattle.std.proofs.Common.{sym, subst, ◌∙◌, append_assoc, suc-mul, mul-le-mul_right, add-one, arith, length-append, length-drop, length-take-le, drop-cons, get_or-drop, get_or-take, take_all}
use Rattle.std.proofs.Math.Path.{ap, ap₂}
use Rattle.std.proofs.Math.ListN.{get_or, drop, get_or-append}
use Rattle.std.proofs.Math.Seq.{take_at, drop_at, get_or-append-add, drop-drop}

unfoldable pub part : ℕ → ℕ → List ℕ → List ℕ
part a n m = take n (drop a m)

unfoldable pub put : ℕ → ℕ → List ℕ → List ℕ → List ℕ
put a n m r = take a m ++ (r ++ drop n (drop a m))

pub length_part : (m : List ℕ) (a n : ℕ) → a + n ≤ length m → length (part a n m) ≡ n
unfolding part
length_part m a n h = length-take-le n (drop a m) (simp length-drop (omega arith))

pub get_d_part : (m : List ℕ) (a n i : ℕ) → i < n → get_or (part a n m) i 0 ≡ get_or m (a + i) 0
unfolding part
get_d_part m a n i h = get_or-take n (drop a m) i 0 h ∙ get_or-drop a m i 0

module _ (m : List ℕ) (a n : ℕ) (r : List ℕ) (h : a + n ≤ length m) (e : length r ≡ n) where
  taken : length (take a m) ≡ a
  taken = length-take-le a m (omega arith)

  pub length-put : length (put a n m r) ≡ length m
  unfolding put
  length-put = simp (length-append, length-drop) (omega (arith, taken))

  pub take_put : take a (put a n m r) ≡ take a m
  unfolding put
  take_put = take_at (take a m) (r ++ drop n (drop a m)) a taken

  pub drop-put : drop (a + n) (put a n m r) ≡ drop (a + n) m
  unfolding put
  drop-put =
      ap (drop (a + n)) (sym (append_assoc (take a m) r (drop n (drop a m))))
      ∙ drop_at (take a m ++ r) (drop n (drop a m)) (a + n) (length-append (take a m) r ∙ ap₂ (λ (x y : ℕ). x + y) taken e) ∙ drop-drop n a m

  pub get_or-put : (i : ℕ) → i < n → get_or (put a n m r) (a + i) 0 ≡ get_or r i 0
  unfolding put
  get_or-put i l =
      ap (λ (x : ℕ). get_or (take a m ++ (r ++ drop n (drop a m))) (x + i) 0) (sym taken)
      ∙ get_or-append-add (take a m) (r ++ drop n (drop a m)) i 0 ∙ get_or-append r (drop n (drop a m)) 0 i (omega arith)

  pub get_or-put-before : (k : ℕ) → k < a → get_or (put a n m r) k 0 ≡ get_or m k 0
  get_or-put-before k l = sym (get_or-take a (put a n m r) k 0 l) ∙ ap (λ (x : List ℕ). get_or x k 0) take_put ∙ get_or-take a m k 0 l

  pub get_or-put-after : (k : ℕ) → a + n ≤ k → get_or (put a n m r) k 0 ≡ get_or m k 0
  get_or-put-after k l =
      let q : a + n + (k - (a + n)) ≡ k = omega arith in
      ap (λ (x : ℕ). get_or (put a n m r) x 0) (sym q) ∙ sym (get_or-drop (a + n) (put a n m r) (k - (a + n)) 0)
      ∙ ap (λ (x : List ℕ). get_or x (k - (a + n)) 0) drop-put ∙ get_or-drop (a + n) m (k - (a + n)) 0 ∙ ap (λ (x : ℕ). get_or m x 0) q

pub drop-next : (xs : List ℕ) (k : ℕ) → k < length xs → drop k xs ≡ get_or xs k 0 ∷ drop (k + 1) xs
drop-next xs k h = rw (add-one, drop-cons xs k 0)

pub rest_part : (xs : List ℕ) (k : ℕ) → take (length xs - k) (drop k xs) ≡ drop k xs
rest_part xs k = take_all (length xs - k) (drop k xs) (rw length-drop (omega arith))

pub row_within : (l m x : ℕ) → x < m → x * l + l ≤ m * l
row_within l m x h = subst (λ (n : ℕ). n ≤ m * l) (suc-mul x l) (mul-le-mul_right l h)
