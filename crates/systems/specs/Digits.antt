-- Hexadecimal digits: two a byte, and four bits each, the highest first.
--   nibble_of c     the value of a digit, or 16
--   are_digits      each byte is a digit
--   bytes_of        the bytes that digits say
--   bits_in         their bits;  bits_of l   the first l of them
--   clear          every entry is 0
--   is_row l        digits of l bits, with zeros after them up to a whole byte
--   is_bytes n      digits of n bytes
--   digits_is       the library's test of every byte;  digits_all   a byte of those that passed it
--   digit_or        the value of a digit, or 0, has the digit's bits
--   bit_shifted     a bit of a digit, by a shift
--   get_or-bytes, length-bytes, bit_at, length_bits   bytes and bits one by one
--   clear-not, clear_next, clear-over   a loop that looks for a bit
--   row_within      a row of bits has enough digits
--   bytes_are       digits of so many bytes
-- Assumes nothing.
use Rattle.std.specs.Prelude.{ℕ, zero, suc, Option, Some, None, ◌+◌, ◌-◌, ◌*◌, ◌/◌, ◌%◌, ◌^◌, ◌≤◌, ◌<◌, Bool, cond, ◌&&◌, List, [], ◌∷◌, leb, ltb, get_or, take, drop}
use Rattle.std.proofs.Math.Path.{◌≡◌, refl}
use Rattle.std.specs.List.{list_all}
use Rattle.std.specs.Option.{MatchOption, unwrap_or}
use Rattle.std.proofs.Common.{sym, ap, ◌∙◌, drop_of_length-le}
use Rattle.std.proofs.Math.Bool.{true, false}
use native.Mathlib.Omega.{arith}
use borrow.Author.Tests.{eq-eqb, ne_eqb, leb-true, eqb-true}
use Rattle.std.proofs.Math.Dec.{eqb}
use Rattle.std.proofs.Math.ListN.{length}
use Rattle.loops.specs.Part.{drop-next}

-- 0 to 9, then a to f
unfoldable pub nibble_of : ℕ → ℕ
nibble_of c = cond (ltb c 48) 16 (cond (leb c 57) (c - 48) (cond (ltb c 97) 16 (cond (leb c 102) (c - 87) 16)))

unfoldable pub are_digits : List ℕ → Bool
are_digits [] = true
are_digits (c ∷ cs) = leb (nibble_of c) 15 && are_digits cs

unfoldable pub bytes_of : List ℕ → List ℕ
bytes_of [] = []
bytes_of (c ∷ []) = []
bytes_of (c ∷ d ∷ cs) = (nibble_of c * 16 + nibble_of d) ∷ bytes_of cs

unfoldable pub bits_in : List ℕ → List ℕ
bits_in [] = []
bits_in (c ∷ cs) = nibble_of c / 8 % 2 ∷ nibble_of c / 4 % 2 ∷ nibble_of c / 2 % 2 ∷ nibble_of c % 2 ∷ bits_in cs

abbrev pub bits_of : ℕ → List ℕ → List ℕ
bits_of l digits = take l (bits_in digits)

unfoldable pub clear : List ℕ → Bool
clear [] = true
clear (x ∷ xs) = eqb x 0 && clear xs

unfoldable pub is_row : ℕ → List ℕ → Bool
is_row l digits = eqb (length digits) ((l + 7) / 8 * 2) && (are_digits digits && clear (drop l (bits_in digits)))

unfoldable pub is_bytes : ℕ → List ℕ → Bool
is_bytes n digits = eqb (length digits) (2 * n) && are_digits digits

pub digits_is : (ds : List ℕ) → are_digits ds ≡ list_all (λ (c : ℕ). leb (nibble_of c) 15) ds
unfolding are_digits
digits_is [] = refl
digits_is (c ∷ cs) = ap (λ (b : Bool). leb (nibble_of c) 15 && b) (digits_is cs)

-- of a byte that is no digit every bit is 0, as of 0
pub digit_or : (r : Option ℕ) (n d : ℕ) → MatchOption r (n ≡ 16) (λ (x : ℕ). (x ≡ n) × (x < 16)) → d ≡ unwrap_or r 0 → d ≡ n % 16
digit_or (Some x) n d h e = omega arith
digit_or None n d h e = omega arith

pub digits_all : (ds : List ℕ) (i : ℕ) → are_digits ds ≡ true → i < length ds → nibble_of (get_or ds i 0) ≤ 15
unfolding are_digits
digits_all [] i e h = absurd (omega arith)
digits_all (c ∷ cs) zero e h = of (leb (nibble_of c) 15) refl e
  where
    of : (b : Bool) → leb (nibble_of c) 15 ≡ b → (b && are_digits cs) ≡ true → nibble_of c ≤ 15
    of true q f = leb-true _ _ q
    of false q f = let z : ◌≡◌ {A = ℕ} 0 1 = cc in absurd (omega arith)
digits_all (c ∷ cs) (suc i) e h = of (leb (nibble_of c) 15) (λ f. digits_all cs i f (omega arith)) e
  where
    of : (b : Bool) → (are_digits cs ≡ true → nibble_of (get_or cs i 0) ≤ 15) → (b && are_digits cs) ≡ true → nibble_of (get_or cs i 0) ≤ 15
    of true ih f = ih f
    of false ih f = let z : ◌≡◌ {A = ℕ} 0 1 = cc in absurd (omega arith)

pub length_bits : (ds : List ℕ) → length (bits_in ds) ≡ 4 * length ds
unfolding bits_in
length_bits [] = refl
length_bits (c ∷ cs) = let e = length_bits cs in omega arith

-- the four bits of digit q
get_d_bits : (ds : List ℕ) (q i : ℕ) → q < length ds → i < 4 → get_or (bits_in ds) (4 * q + i) 0 ≡ get_or (bits_in (get_or ds q 0 ∷ [])) i 0
unfolding bits_in
get_d_bits [] q i h k = absurd (omega arith)
get_d_bits (c ∷ cs) zero i h k = of i k
  where
    of : (i : ℕ) → i < 4 → get_or (bits_in (c ∷ cs)) (4 * 0 + i) 0 ≡ get_or (bits_in (c ∷ [])) i 0
    of zero k = refl
    of (suc zero) k = refl
    of (suc (suc zero)) k = refl
    of (suc (suc (suc zero))) k = refl
    of (suc (suc (suc (suc i)))) k = absurd (omega arith)
get_d_bits (c ∷ cs) (suc q) i h k =
    let e : 4 * suc q + i ≡ suc (suc (suc (suc (4 * q + i)))) = omega arith in
    rw e (get_d_bits cs q i (omega arith) k)

-- bit i is bit i % 4 of digit i / 4
pub bit_at : (ds : List ℕ) (i k : ℕ) → i < 4 * length ds → i % 4 ≡ k → get_or (bits_in ds) i 0 ≡ get_or (bits_in (get_or ds (i / 4) 0 ∷ [])) k 0
bit_at ds i k h e =
    let q : 4 * (i / 4) + i % 4 ≡ i = omega arith in
    ap (λ (n : ℕ). get_or (bits_in ds) n 0) (sym q) ∙ get_d_bits ds (i / 4) (i % 4) (omega arith) (omega arith)
    ∙ ap (λ (n : ℕ). get_or (bits_in (get_or ds (i / 4) 0 ∷ [])) n 0) e

-- d is the digit's value, or 0
pub bit_shifted : (c d k : ℕ) → d ≡ nibble_of c % 16 → k < 4 → d / 2 ^ (3 - k) % 2 ≡ get_or (bits_in (c ∷ [])) k 0
unfolding bits_in
bit_shifted c d zero e h = omega (arith, e)
bit_shifted c d (suc zero) e h = omega (arith, e)
bit_shifted c d (suc (suc zero)) e h = omega (arith, e)
bit_shifted c d (suc (suc (suc zero))) e h = omega (arith, e)
bit_shifted c d (suc (suc (suc (suc k)))) e h = absurd (omega arith)

pub length-bytes : (ds : List ℕ) (n : ℕ) → length ds ≡ 2 * n → length (bytes_of ds) ≡ n
unfolding bytes_of
length-bytes [] n e = omega arith
length-bytes (c ∷ []) n e = absurd (omega arith)
length-bytes (c ∷ d ∷ cs) zero e = absurd (omega arith)
length-bytes (c ∷ d ∷ cs) (suc n) e = ap suc (length-bytes cs n (omega arith))

pub get_or-bytes : (ds : List ℕ) (i : ℕ) → 2 * i + 1 < length ds → get_or (bytes_of ds) i 0 ≡ nibble_of (get_or ds (2 * i) 0) * 16 + nibble_of (get_or ds (2 * i + 1) 0)
unfolding bytes_of
get_or-bytes [] i h = absurd (omega arith)
get_or-bytes (c ∷ []) i h = absurd (omega arith)
get_or-bytes (c ∷ d ∷ cs) zero h = refl
get_or-bytes (c ∷ d ∷ cs) (suc i) h =
    let e : 2 * suc i ≡ suc (suc (2 * i)) = omega arith in
    let f : 2 * suc i + 1 ≡ suc (suc (2 * i + 1)) = omega arith in
    rw (f, e) (get_or-bytes cs i (omega arith))

module _ (xs : List ℕ) (i : ℕ) where
  pub clear-not : i < length xs → (get_or xs i 0 ≡ 0 → ⊥) → clear (drop i xs) ≡ false
  unfolding clear
  clear-not h e = rw (drop-next xs i h, ne_eqb _ _ e)

  pub clear_next : i < length xs → get_or xs i 0 ≡ 0 → clear (drop i xs) ≡ clear (drop (i + 1) xs)
  unfolding clear
  clear_next h e = rw (drop-next xs i h, eq-eqb _ _ e)

  pub clear-over : length xs ≤ i → clear (drop i xs) ≡ true
  unfolding clear
  clear-over h = rw (drop_of_length-le xs h)

module _ (l : ℕ) (ds : List ℕ) where
  pub row_within : is_row l ds ≡ true → l ≤ 4 * length ds
  unfolding is_row
  row_within e = of (eqb (length ds) ((l + 7) / 8 * 2)) refl e
    where
      of : (b : Bool) → eqb (length ds) ((l + 7) / 8 * 2) ≡ b → (b && (are_digits ds && clear (drop l (bits_in ds)))) ≡ true → l ≤ 4 * length ds
      of true q f = let h : length ds ≡ (l + 7) / 8 * 2 = eqb-true _ _ q in omega arith
      of false q f = let z : ◌≡◌ {A = ℕ} 0 1 = cc in absurd (omega arith)

module _ (n : ℕ) (ds : List ℕ) where
  pub bytes_are : is_bytes n ds ≡ true → (are_digits ds ≡ true) × (length ds ≡ 2 * n)
  unfolding is_bytes
  bytes_are e = of (eqb (length ds) (2 * n)) refl e
    where
      of : (b : Bool) → eqb (length ds) (2 * n) ≡ b → (b && are_digits ds) ≡ true → (are_digits ds ≡ true) × (length ds ≡ 2 * n)
      of true q f = (f, eqb-true _ _ q)
      of false q f = let z : ◌≡◌ {A = ℕ} 0 1 = cc in absurd (omega arith)
