-- A form, byte by byte, from the words of a list.
--   head_of        the 13 bytes before the operations, in front of others
--   word_bytes, words_bytes   the four bytes of a word, and those of many, in front of others
--   low_bytes, tail_bytes     the lowest bytes of entries; those of an order or none, with the flag
--   laid          the form from these
--   get_or-words_bytes, get_d_past, get_or-low_bytes   its bytes one by one
--   length-words_bytes   each word has four bytes;  low_bytes_same   entries that are bytes are their own lowest bytes
--   word_bytes-made   four bytes that were made are a word's
--   get_or_none, get_d_tail, laid_head, laid_op, laid_tail   the same of the parts of a form
--   length-laid   how many bytes it has
--   ops_bytes_words, laid_form   of a list that passed its checks it is the form
--   laid_done, length-done      the same of a list that is written, and that it fits the room
-- Assumes nothing.
use Rattle.std.specs.Prelude.{ℕ, zero, suc, ◌+◌, ◌-◌, ◌*◌, ◌/◌, ◌%◌, ◌<◌, ◌≤◌, ◌≡◌, Option, Some, None, is_some, unwrap_or}
use Rattle.std.proofs.Math.Path.{refl, sym, ap, ap₂}
use Rattle.std.proofs.Common.{◌∙◌, length-append}
use Rattle.std.proofs.Math.Bool.{true}
use mathlib.Core.List.{List, [], ◌∷◌, ◌++◌}
use native.Mathlib.Omega.{arith}
use Rattle.std.proofs.Math.ListN.{length, get_or, get_or-append}
use Rattle.std.proofs.Math.Seq.{get_or-append-add}
use Rattle.oplist.specs.declared.Op.{Op}
use Rattle.oplist.specs.declared.Op.TheVariants.{AddAssign, MulAssign, FMA}
use Rattle.oplist.specs.Word.{word, Small, packed, meaning, packed-meaning}
use Rattle.oplist.specs.Listed.{with_op, ops_of, length-ops_of}
use Rattle.oplist.specs.Check.{word_fine, list_fine, order_fine, shape_fine}
use Rattle.oplist.specs.Facts.{and_left, and_right, never, Fine, op_fine_fine, list_fine-known, shape_fine-shape, order_fine-order}
use Rattle.stored.specs.Bytes.{digits2, digits4}
use Rattle.stored.specs.Accepted.{Accepts}
use Rattle.stored.specs.Form.{form_size, op_bytes, ops_bytes, order_bytes, order_size, form_of}

abbrev pub head_of : ℕ → ℕ → ℕ → ℕ → List ℕ → List ℕ
head_of follow m l n r = digits4 follow (1 ∷ digits2 m (digits2 l (digits4 n r)))

abbrev pub word_bytes : ℕ → List ℕ → List ℕ
word_bytes w r = w / 1099511627776 % 256 ∷ w / 65536 % 256 ∷ w % 256 ∷ w / 4294967296 % 256 ∷ r

unfoldable pub words_bytes : List ℕ → List ℕ → List ℕ
words_bytes [] r = r
words_bytes (w ∷ ws) r = word_bytes w (words_bytes ws r)

unfoldable pub low_bytes : List ℕ → List ℕ
low_bytes [] = []
low_bytes (x ∷ xs) = x % 256 ∷ low_bytes xs

abbrev pub tail_bytes : Option (List ℕ) → List ℕ
tail_bytes (Some entries) = 1 ∷ low_bytes entries
tail_bytes None = 0 ∷ []

unfoldable pub laid : List ℕ → List ℕ → Option (List ℕ) → List ℕ
laid head ws order = head ++ words_bytes ws (tail_bytes order)

pub get_or-words_bytes : (ws r : List ℕ) (i : ℕ) → i < 4 * length ws → get_or (words_bytes ws r) i 0 ≡ get_or (word_bytes (get_or ws (i / 4) 0) []) (i % 4) 0
unfolding words_bytes
get_or-words_bytes [] r i h = absurd (omega arith)
get_or-words_bytes (w ∷ ws) r zero h = refl
get_or-words_bytes (w ∷ ws) r (suc zero) h = refl
get_or-words_bytes (w ∷ ws) r (suc (suc zero)) h = refl
get_or-words_bytes (w ∷ ws) r (suc (suc (suc zero))) h = refl
get_or-words_bytes (w ∷ ws) r (suc (suc (suc (suc i)))) h =
    let q : suc (suc (suc (suc i))) / 4 ≡ suc (i / 4) = omega arith in
    let p : suc (suc (suc (suc i))) % 4 ≡ i % 4 = omega arith in
    rw (q, p) (get_or-words_bytes ws r i (omega arith))

pub get_d_past : (ws r : List ℕ) (k : ℕ) → get_or (words_bytes ws r) (4 * length ws + k) 0 ≡ get_or r k 0
unfolding words_bytes
get_d_past [] r k = let e : 4 * 0 + k ≡ k = omega arith in rw e
get_d_past (w ∷ ws) r k =
    let e : 4 * suc (length ws) + k ≡ suc (suc (suc (suc (4 * length ws + k)))) = omega arith in
    rw e (get_d_past ws r k)

pub length-words_bytes : (ws r : List ℕ) → length (words_bytes ws r) ≡ 4 * length ws + length r
unfolding words_bytes
length-words_bytes [] r = omega arith
length-words_bytes (w ∷ ws) r = let e = length-words_bytes ws r in omega arith

pub get_or-low_bytes : (xs : List ℕ) (i : ℕ) → get_or (low_bytes xs) i 0 ≡ get_or xs i 0 % 256
unfolding low_bytes
get_or-low_bytes [] i = refl
get_or-low_bytes (x ∷ xs) zero = refl
get_or-low_bytes (x ∷ xs) (suc i) = get_or-low_bytes xs i

pub low_bytes_same : (xs : List ℕ) → ((i : ℕ) → i < length xs → get_or xs i 0 < 256) → low_bytes xs ≡ xs
unfolding low_bytes
low_bytes_same [] h = refl
low_bytes_same (x ∷ xs) h =
    let e : x % 256 ≡ x = omega (arith, h 0 (omega arith)) in
    ap₂ (λ (y : ℕ) (l : List ℕ). y ∷ l) e (low_bytes_same xs (λ i k. h (suc i) (omega arith)))

pub word_bytes-made : (w j : ℕ) {k d s x : ℕ} → k ≡ w / 1099511627776 % 256 → d ≡ w / 65536 % 256 → s ≡ w % 256 → x ≡ w / 4294967296 % 256
    → get_or (k ∷ d ∷ s ∷ x ∷ []) j 0 ≡ get_or (word_bytes w []) j 0
word_bytes-made w j {k} {d} {s} {x} a b c e = let f : k ∷ d ∷ s ∷ x ∷ [] ≡ word_bytes w [] = cc in ap (λ (l : List ℕ). get_or l j 0) f

pub get_or_none : (k : ℕ) → ◌≡◌ {A = ℕ} (get_or (0 ∷ []) k 0) 0
get_or_none zero = refl
get_or_none (suc k) = refl

pub get_d_tail : (xs : List ℕ) (k : ℕ) → (k ≡ 0 → ⊥) → get_or (1 ∷ low_bytes xs) k 0 ≡ get_or xs (k - 1) 0 % 256
get_d_tail xs zero h = absurd (h refl)
get_d_tail xs (suc k) h = let e : suc k - 1 ≡ k = omega arith in rw e (get_or-low_bytes xs k)

module _ (head ws : List ℕ) (order : Option (List ℕ)) (i : ℕ) where
  pub laid_head : i < length head → get_or (laid head ws order) i 0 ≡ get_or head i 0
  unfolding laid
  laid_head h = get_or-append head (words_bytes ws (tail_bytes order)) 0 i h

  past : length head ≤ i → get_or (laid head ws order) i 0 ≡ get_or (words_bytes ws (tail_bytes order)) (i - length head) 0
  unfolding laid
  past h =
      let e : length head + (i - length head) ≡ i = omega arith in
      ap (λ (k : ℕ). get_or (head ++ words_bytes ws (tail_bytes order)) k 0) (sym e) ∙ get_or-append-add head (words_bytes ws (tail_bytes order)) (i - length head) 0

  pub laid_op : length head ≤ i → (i - length head) / 4 < length ws
      → get_or (laid head ws order) i 0 ≡ get_or (word_bytes (get_or ws ((i - length head) / 4) 0) []) ((i - length head) % 4) 0
  laid_op h k = past h ∙ get_or-words_bytes ws (tail_bytes order) (i - length head) (omega arith)

  pub laid_tail : length head ≤ i → length ws ≤ (i - length head) / 4
      → get_or (laid head ws order) i 0 ≡ get_or (tail_bytes order) (i - length head - 4 * length ws) 0
  laid_tail h k =
      let e : 4 * length ws + (i - length head - 4 * length ws) ≡ i - length head = omega arith in
      past h ∙ ap (λ (x : ℕ). get_or (words_bytes ws (tail_bytes order)) x 0) (sym e) ∙ get_d_past ws (tail_bytes order) (i - length head - 4 * length ws)

length-low_bytes : (xs : List ℕ) → length (low_bytes xs) ≡ length xs
unfolding low_bytes
length-low_bytes [] = refl
length-low_bytes (x ∷ xs) = ap suc (length-low_bytes xs)

pub length-laid : (head ws : List ℕ) (m l : ℕ) (order : Option (List ℕ)) → order_fine m l (is_some order) (unwrap_or order []) ≡ true
    → length (laid head ws order) ≡ length head + (4 * length ws + (1 + order_size (is_some order) l))
unfolding laid
length-laid head ws m l order h =
    length-append head (words_bytes ws (tail_bytes order)) ∙ ap (λ (n : ℕ). length head + n) (length-words_bytes ws (tail_bytes order) ∙ ap (λ (n : ℕ). 4 * length ws + n) (tail order h))
  where
    tail : (o : Option (List ℕ)) → order_fine m l (is_some o) (unwrap_or o []) ≡ true → length (tail_bytes o) ≡ 1 + order_size (is_some o) l
    tail (Some entries) e = let a = length-low_bytes entries in let b = (order_fine-order m l entries e).size in omega arith
    tail None e = refl

word_bytes-word : (k x d s : ℕ) (r : List ℕ) → k < 256 → x < 256 → d < 256 → s < 256 → word_bytes (word k x d s) r ≡ k ∷ d ∷ s ∷ x ∷ r
word_bytes-word k x d s r hk hx hd hs =
    let a : word k x d s / 1099511627776 % 256 ≡ k = omega arith in
    let b' : word k x d s / 65536 ≡ k * 16777216 + x * 65536 + d = omega arith in
    let b : word k x d s / 65536 % 256 ≡ d = rw b' (omega arith) in
    let c : word k x d s % 256 ≡ s = omega arith in
    let e' : word k x d s / 4294967296 ≡ k * 256 + x = omega arith in
    let e : word k x d s / 4294967296 % 256 ≡ x = rw e' (omega arith) in
    rw (a, b, c, e)

module _ (m : ℕ) (few : m ≤ 256) where
  op_bytes-word : (o : Op) (r : List ℕ) → Small o → Fine m o → op_bytes o r ≡ word_bytes (packed o) r
  unfolding packed
  op_bytes-word (AddAssign d s) r p f = sym (word_bytes-word 1 0 d s r (omega arith) (omega arith) (omega (arith, f.within.0)) (omega (arith, f.within.1)))
  op_bytes-word (MulAssign d x) r p f = sym (word_bytes-word 2 x d 0 r (omega arith) p.1 (omega (arith, f.within.0)) (omega arith))
  op_bytes-word (FMA d s x) r p f = sym (word_bytes-word 3 x d s r (omega arith) p.2 (omega (arith, f.within.0)) (omega (arith, f.within.1)))

  pub ops_bytes_words : (ws r : List ℕ) → list_fine m ws ≡ true → ops_bytes (ops_of ws) r ≡ words_bytes ws r
  unfolding list_fine ops_of ops_bytes words_bytes
  ops_bytes_words [] r h = refl
  ops_bytes_words (w ∷ ws) r h =
      at (meaning w) refl (and_left (word_fine m (meaning w)) (list_fine m ws) h) (ops_bytes_words ws r (and_right (word_fine m (meaning w)) (list_fine m ws) h))
    where
      at : (v : Option Op) → meaning w ≡ v → word_fine m v ≡ true → ops_bytes (ops_of ws) r ≡ words_bytes ws r
          → ops_bytes (with_op v (ops_of ws)) r ≡ word_bytes w (words_bytes ws r)
      at (Some o) e f ih =
          let p = packed-meaning w o e in
          op_bytes-word o (ops_bytes (ops_of ws) r) p.small (op_fine_fine m o f) ∙ ap₂ word_bytes (sym p.is) ih
      at None e f ih = never f

module _ (m l : ℕ) (ws : List ℕ) (order : Option (List ℕ)) where
  pub laid_form : shape_fine m l (length ws) ≡ true → list_fine m ws ≡ true → order_fine m l (is_some order) (unwrap_or order []) ≡ true
      → laid (head_of (10 + 4 * length ws + order_size (is_some order) l) m l (length ws) []) ws order ≡ form_of m l (ops_of ws) (is_some order) (unwrap_or order [])
  unfolding laid form_of
  laid_form s h k =
      let few = (shape_fine-shape m l (length ws) s).rows in
      let n = length-ops_of ws (list_fine-known m ws h) in
      rw (n, ops_bytes_words m few ws (order_bytes (is_some order) (unwrap_or order [])) h, tail order k)
    where
      tail : (o : Option (List ℕ)) → order_fine m l (is_some o) (unwrap_or o []) ≡ true → tail_bytes o ≡ order_bytes (is_some o) (unwrap_or o [])
      tail (Some entries) e =
          let R = (order_fine-order m l entries e).rows in
          let few = (shape_fine-shape m l (length ws) s).rows in
          ap (λ (x : List ℕ). 1 ∷ x) (low_bytes_same entries (λ i q. omega (arith, R.below i q)))
      tail None e = refl

  module _ (room : ℕ) (A : Accepts m l ws (is_some order) (unwrap_or order []) room) (size : ℕ) (e : size ≡ form_size (length ws) l (is_some order)) (head : List ℕ)
      (h : head ≡ head_of (size - 4) m l (length ws) []) where
    pub laid_done : laid head ws order ≡ form_of m l (ops_of ws) (is_some order) (unwrap_or order [])
    laid_done =
        let follow : size - 4 ≡ 10 + 4 * length ws + order_size (is_some order) l = omega arith in
        ap (λ (x : List ℕ). laid x ws order) (h ∙ ap (λ (n : ℕ). head_of n m l (length ws) []) follow)
        ∙ laid_form A.shape A.list A.orderly

    pub length-done : length (laid head ws order) ≤ room
    length-done =
        let n : length head ≡ 13 = ap length h in
        let q = length-laid head ws m l order A.orderly in
        omega (arith, A.fits)
