-- Numbers as bytes, the highest byte first, and rooms that are filled up with zeros.
--   number2, number4     the number that two or four bytes from a place on say
--   digits2, digits4     the bytes of a number, in front of others
--   Bytes                every entry is a byte
--   padded               a list, and zeros up to a length
--   number2-digits2, number4-digits4   bytes of a number say it
--   digits2-number2, digits4-number4   a number's bytes are those that say it
--   get_or-padded, length-padded   its entries are the list's, and 0 past them; it has that length, if the list is no longer
--   get_or_out             past the end of a list stands 0
--   fill_begin, fill_turn   a loop that fills a room so begins, and makes a turn
-- Assumes nothing.
use Rattle.std.specs.Prelude.{ℕ, zero, suc, ◌+◌, ◌-◌, ◌*◌, ◌/◌, ◌%◌, ◌<◌, ◌≤◌, ◌≡◌, refl, List, [], ◌∷◌, ◌++◌, length, get_or, set, replicate}
use Rattle.std.proofs.Common.{sym, ◌∙◌, div-add-mod', arith, length-append}
use Rattle.std.proofs.Math.Nat.{div-div-eq-div-mul}
use Rattle.std.proofs.lemmas.List.{length-replicate}
use Rattle.std.proofs.Math.ListN.{get_or-eq_default}
use Rattle.loops.specs.Front.{Front, begin, turn}

abbrev pub number2 : List ℕ → ℕ → ℕ
number2 b at = get_or b at 0 * 256 + get_or b (at + 1) 0

abbrev pub number4 : List ℕ → ℕ → ℕ
number4 b at = get_or b at 0 * 16777216 + get_or b (at + 1) 0 * 65536 + get_or b (at + 2) 0 * 256 + get_or b (at + 3) 0

abbrev pub digits2 : ℕ → List ℕ → List ℕ
digits2 x r = x / 256 % 256 ∷ x % 256 ∷ r

abbrev pub digits4 : ℕ → List ℕ → List ℕ
digits4 x r = x / 16777216 % 256 ∷ x / 65536 % 256 ∷ x / 256 % 256 ∷ x % 256 ∷ r

abbrev pub Bytes : List ℕ → Type 0
Bytes b = (i : ℕ) → get_or b i 0 < 256

unfoldable pub padded : List ℕ → ℕ → List ℕ
padded xs n = xs ++ replicate (n - length xs) 0

pub length-padded : (xs : List ℕ) (n : ℕ) → length xs ≤ n → length (padded xs n) ≡ n
unfolding padded
length-padded xs n h = length-append xs (replicate (n - length xs) 0) ∙ rw length-replicate (omega arith)

zeros : (n i : ℕ) → ◌≡◌ {A = ℕ} (get_or (replicate n 0) i 0) 0
zeros zero i = refl
zeros (suc n) zero = refl
zeros (suc n) (suc i) = zeros n i

-- what stands past the end of a list is 0 too
pub get_or-padded : (xs : List ℕ) (n i : ℕ) → get_or (padded xs n) i 0 ≡ get_or xs i 0
unfolding padded
get_or-padded xs n i = at xs (n - length xs) i
  where
    at : (ys : List ℕ) (k j : ℕ) → get_or (ys ++ replicate k 0) j 0 ≡ get_or ys j 0
    at [] k j = zeros k j
    at (y ∷ ys) k zero = refl
    at (y ∷ ys) k (suc j) = at ys k j

pub digits2-number2 : (x y : ℕ) (r : List ℕ) → x < 256 → y < 256 → digits2 (x * 256 + y) r ≡ x ∷ y ∷ r
digits2-number2 x y r hx hy =
    let a : (x * 256 + y) / 256 % 256 ≡ x = omega arith in
    let b : (x * 256 + y) % 256 ≡ y = omega arith in
    rw (a, b)

pub digits4-number4 : (x y z w : ℕ) (r : List ℕ) → x < 256 → y < 256 → z < 256 → w < 256
    → digits4 (x * 16777216 + y * 65536 + z * 256 + w) r ≡ x ∷ y ∷ z ∷ w ∷ r
digits4-number4 x y z w r hx hy hz hw =
    let a : (x * 16777216 + y * 65536 + z * 256 + w) / 16777216 % 256 ≡ x = omega arith in
    let b' : (x * 16777216 + y * 65536 + z * 256 + w) / 65536 ≡ x * 256 + y = omega arith in
    let b : (x * 16777216 + y * 65536 + z * 256 + w) / 65536 % 256 ≡ y = rw b' (omega arith) in
    let c' : (x * 16777216 + y * 65536 + z * 256 + w) / 256 ≡ x * 65536 + y * 256 + z = omega arith in
    let c : (x * 16777216 + y * 65536 + z * 256 + w) / 256 % 256 ≡ z = rw c' (omega arith) in
    let d : (x * 16777216 + y * 65536 + z * 256 + w) % 256 ≡ w = omega arith in
    rw (a, b, c, d)

pub number2-digits2 : (x : ℕ) → x < 65536 → x / 256 % 256 * 256 + x % 256 ≡ x
number2-digits2 x h = omega arith

pub number4-digits4 : (x : ℕ) → x < 4294967296 → x / 16777216 % 256 * 16777216 + x / 65536 % 256 * 65536 + x / 256 % 256 * 256 + x % 256 ≡ x
number4-digits4 x h =
    let a = div-add-mod' x 256 in
    let b = div-add-mod' (x / 256) 256 in
    let c = div-add-mod' (x / 65536) 256 in
    let d : x / 256 / 256 ≡ x / 65536 = div-div-eq-div-mul x 256 256 in
    let e : x / 65536 / 256 ≡ x / 16777216 = div-div-eq-div-mul x 65536 256 in
    let f : x / 16777216 % 256 ≡ x / 16777216 = omega arith in
    omega arith

pub fill_begin : (xs d : List ℕ) → length xs ≤ length d → Front (padded xs (length d)) d d 0
fill_begin xs d h = begin (length-padded xs (length d) h)

pub fill_turn : (xs : List ℕ) {d l : List ℕ} {i v : ℕ} → Front (padded xs (length d)) d l i → i < length l → v ≡ get_or xs i 0
    → Front (padded xs (length d)) d (set l i v) (i + 1)
fill_turn xs {d} {l} {i} f h e = turn f h (e ∙ sym (get_or-padded xs (length d) i))

pub get_or_out : (xs : List ℕ) (i : ℕ) → length xs ≤ i → get_or xs i 0 ≡ 0
get_or_out xs i h = get_or-eq_default xs 0 h
