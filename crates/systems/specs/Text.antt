-- Lines, words and numbers of a text. Bytes are ASCII.
--   end_of t         how many bytes stand before the first newline
--   lines_in t       the lines, without their newlines;  onto   a byte put in front of the first of them
--   starts_with w l  the line l starts with the word w
--   digits_of v at t   the number that the digits of t, the bytes from `at` on, say after v, and where the line goes on
--   number_of at t   the same with a digit at least
--   newlines t      how many newlines there are
--   line_number_of t i   the number of the line that place i is in
--   end_is, end_found   the end is the first newline's place, as the library has it
--   starts_is, strip_is   the library's tests of a line's first word
--   starts_long     a line is as long as the word that it starts with
--   digits_space, digits_bad, digits_next, digits_over   a loop that reads digits
--   number_out, number-space, number_digits  whether there is a digit
--   lines_at, line_ends, line_long, lines_over   the line at a place, and the lines after it
--   newlines-count  the newlines, counted by the library
--   line-number-one   two results that meet the statement are equal
-- Assumes nothing.
use Prim.Native.Nat.{ℕ, suc, ◌+◌, ◌-◌, ◌*◌, ◌≤◌, ◌<◌}
use Rattle.std.specs.Prelude.{◌≡◌, refl, Bool, true, false, cond, ◌&&◌, Option, Some, None, List, [], ◌∷◌, eqb, leb, ltb, length, get_or, take, drop}
use Rattle.std.specs.List.{count_by, position_or_len, position}
use Rattle.std.specs.Option.{unwrap_or}
use Rattle.std.specs.Cmp.Lexicographic.{pointwise}
use Rattle.std.proofs.lemmas.Bool.Decides.{nat_tests}
use Rattle.std.proofs.lemmas.List.Recursion.{is_count_by, is_position_or_len}
use Rattle.std.proofs.Common.{one-add, sym, ap, ap₂, ◌∙◌, length-drop, drop-drop, length-take-le}
use native.Mathlib.Omega.{arith}
use borrow.Author.Tests.{eq-eqb, ne_eqb, le-leb, lt-ltb, ltb-false}
use Rattle.std.proofs.Math.ListN.{drop_of_length-le}
use Rattle.loops.specs.Part.{drop-next}

unfoldable pub end_of : List ℕ → ℕ
end_of [] = 0
end_of (x ∷ xs) = cond (eqb x 10) 0 (suc (end_of xs))

-- a byte in front of the first line
abbrev pub onto : ℕ → List (List ℕ) → List (List ℕ)
onto x [] = (x ∷ []) ∷ []
onto x (l ∷ ls) = (x ∷ l) ∷ ls

unfoldable pub lines_in : List ℕ → List (List ℕ)
lines_in [] = []
lines_in (x ∷ xs) = cond (eqb x 10) ([] ∷ lines_in xs) (onto x (lines_in xs))

unfoldable pub starts_with : List ℕ → List ℕ → Bool
starts_with [] line = true
starts_with (w ∷ ws) [] = false
starts_with (w ∷ ws) (x ∷ xs) = eqb x w && starts_with ws xs

-- up to a space or the line's end; a number has at most seven digits after its zeros
unfoldable pub digits_of : ℕ → ℕ → List ℕ → Option (ℕ × ℕ)
digits_of v at [] = Some (v, at + 1)
digits_of v at (c ∷ cs) =
    cond (eqb c 32) (Some (v, at + 1))
    (cond (leb 48 c && (leb c 57 && ltb v 1000000)) (digits_of (v * 10 + (c - 48)) (at + 1) cs) None)

unfoldable pub number_of : ℕ → List ℕ → Option (ℕ × ℕ)
number_of at [] = None
number_of at (c ∷ cs) = cond (eqb c 32) None (digits_of 0 at (c ∷ cs))

unfoldable pub newlines : List ℕ → ℕ
newlines [] = 0
newlines (x ∷ xs) = cond (eqb x 10) (suc (newlines xs)) (newlines xs)

-- the first line is 1, and a newline is the last byte of its line
unfoldable pub line_number_of : List ℕ → ℕ → ℕ
line_number_of t i = 1 + newlines (take i t)

pub end_is : (t : List ℕ) → end_of t ≡ position_or_len (λ (x : ℕ). eqb x 10) t
unfolding end_of
end_is t = is_position_or_len end_of (λ (x : ℕ). eqb x 10) refl (λ x xs. rw one-add) t

eqb_turned : (a b : ℕ) → eqb a b ≡ eqb b a
eqb_turned a b = grind (arith, nat_tests)

-- the library's tests of a line's first word
pub starts_is : (w l : List ℕ) → pointwise eqb w (take (length w) l) ≡ starts_with w l
unfolding starts_with
starts_is [] l = refl
starts_is (w ∷ ws) [] = refl
starts_is (w ∷ ws) (x ∷ xs) = ap₂ (λ (a b : Bool). a && b) (eqb_turned w x) (starts_is ws xs)

pub strip_is : (w l : List ℕ) → pointwise eqb (take (length w) l) w ≡ starts_with w l
unfolding starts_with
strip_is [] l = refl
strip_is (w ∷ ws) [] = refl
strip_is (w ∷ ws) (x ∷ xs) = ap (λ (b : Bool). eqb x w && b) (strip_is ws xs)

pub starts_long : (w l : List ℕ) → starts_with w l ≡ true → length w ≤ length l
unfolding starts_with
starts_long [] l e = omega arith
starts_long (w ∷ ws) [] e = let z : ◌≡◌ {A = ℕ} 0 1 = cc in absurd (omega arith)
starts_long (w ∷ ws) (x ∷ xs) e = of (eqb x w) (starts_long ws xs) e
  where
    of : (b : Bool) → (starts_with ws xs ≡ true → length ws ≤ length xs) → (b && starts_with ws xs) ≡ true → suc (length ws) ≤ suc (length xs)
    of true ih f = let h = ih f in omega arith
    of false ih f = let z : ◌≡◌ {A = ℕ} 0 1 = cc in absurd (omega arith)

module _ (v : ℕ) (t : List ℕ) (i : ℕ) where
  pub digits_over : length t ≤ i → digits_of v i (drop i t) ≡ Some (v, i + 1)
  unfolding digits_of
  digits_over h = rw (drop_of_length-le t h)

  module _ (h : i < length t) where
    pub digits_space : get_or t i 0 ≡ 32 → digits_of v i (drop i t) ≡ Some (v, i + 1)
    unfolding digits_of
    digits_space e = rw (drop-next t i h, eq-eqb _ _ e)

    pub digits_bad : (get_or t i 0 ≡ 32 → ⊥) → (48 ≤ get_or t i 0 → get_or t i 0 ≤ 57 → 1000000 ≤ v) → digits_of v i (drop i t) ≡ None
    unfolding digits_of
    digits_bad e a =
        let c = get_or t i 0 in
        let q : (leb 48 c && (leb c 57 && ltb v 1000000)) ≡ false = grind (arith, nat_tests) in
        rw (drop-next t i h, ne_eqb _ _ e, q)

    pub digits_next : (get_or t i 0 ≡ 32 → ⊥) → 48 ≤ get_or t i 0 → get_or t i 0 ≤ 57 → v < 1000000
        → digits_of v i (drop i t) ≡ digits_of (v * 10 + (get_or t i 0 - 48)) (i + 1) (drop (i + 1) t)
    unfolding digits_of
    digits_next e a b d = rw (drop-next t i h, ne_eqb _ _ e, le-leb _ _ a, le-leb _ _ b, lt-ltb _ _ d)

pub number_out : (t : List ℕ) (i : ℕ) → length t ≤ i → number_of i (drop i t) ≡ None
unfolding number_of
number_out t i h = rw (drop_of_length-le t h)

pub number-space : (t : List ℕ) (i : ℕ) → i < length t → get_or t i 0 ≡ 32 → number_of i (drop i t) ≡ None
unfolding number_of
number-space t i h e = rw (drop-next t i h, eq-eqb _ _ e)

pub number_digits : (t : List ℕ) (i : ℕ) → i < length t → (get_or t i 0 ≡ 32 → ⊥) → number_of i (drop i t) ≡ digits_of 0 i (drop i t)
unfolding number_of
number_digits t i h e = rw (drop-next t i h, ne_eqb _ _ e)

end_within : (t : List ℕ) → end_of t ≤ length t
unfolding end_of
end_within [] = omega arith
end_within (x ∷ xs) = of (eqb x 10) (end_within xs)
  where
    of : (b : Bool) → end_of xs ≤ length xs → cond b 0 (suc (end_of xs)) ≤ suc (length xs)
    of true h = omega arith
    of false h = omega arith

-- the library's first newline of a text
pub end_found : (t : List ℕ) → unwrap_or (position (λ (x : ℕ). eqb x 10) t) (length t) ≡ end_of t
end_found t = rw (sym (end_is t)) (of (ltb (end_of t) (length t)) refl)
  where
    of : (b : Bool) → ltb (end_of t) (length t) ≡ b → unwrap_or (cond b (Some (end_of t)) None) (length t) ≡ end_of t
    of true q = refl
    of false q = let w = end_within t in omega (arith, ltb-false _ _ q)

-- of a text that is not empty
lines_first : (t : List ℕ) → 0 < length t → lines_in t ≡ take (end_of t) t ∷ lines_in (drop (suc (end_of t)) t)
unfolding lines_in end_of
lines_first [] h = absurd (omega arith)
lines_first (x ∷ []) h = of (eqb x 10)
  where
    of : (b : Bool) → cond b ([] ∷ []) ((x ∷ []) ∷ []) ≡ take (cond b 0 1) (x ∷ []) ∷ lines_in (drop (suc (cond b 0 1)) (x ∷ []))
    of true = refl
    of false = refl
lines_first (x ∷ y ∷ ys) h = of (eqb x 10) (lines_first (y ∷ ys) (omega arith))
  where
    of : (b : Bool) → lines_in (y ∷ ys) ≡ take (end_of (y ∷ ys)) (y ∷ ys) ∷ lines_in (drop (suc (end_of (y ∷ ys))) (y ∷ ys))
        → cond b ([] ∷ lines_in (y ∷ ys)) (onto x (lines_in (y ∷ ys)))
        ≡ take (cond b 0 (suc (end_of (y ∷ ys)))) (x ∷ y ∷ ys) ∷ lines_in (drop (suc (cond b 0 (suc (end_of (y ∷ ys))))) (x ∷ y ∷ ys))
    of true e = refl
    of false e = ap (onto x) e

-- the line at a place of a text, which ends at `end`
module _ (t : List ℕ) (at end : ℕ) (h : at < length t) (e : end ≡ at + end_of (drop at t)) where
  count : end - at ≡ end_of (drop at t)
  count = omega arith

  pub line_ends : (at ≤ end) × (end ≤ length t)
  line_ends = let w = end_within (drop at t) in let l = length-drop at t in omega arith

  pub line_long : at + length (take (end - at) (drop at t)) ≡ end
  line_long =
      let w = end_within (drop at t) in
      rw count (ap (λ (n : ℕ). at + n) (length-take-le _ (drop at t) w) ∙ sym e)

  pub lines_at : lines_in (drop at t) ≡ take (end - at) (drop at t) ∷ lines_in (drop (end + 1) t)
  lines_at =
      let l = length-drop at t in
      let q : at + suc (end_of (drop at t)) ≡ end + 1 = omega arith in
      rw count (lines_first (drop at t) (omega arith) ∙ ap (λ (r : List ℕ). take (end_of (drop at t)) (drop at t) ∷ lines_in r) (drop-drop _ at t ∙ ap (λ (n : ℕ). drop n t) q))

pub lines_over : (t : List ℕ) (at : ℕ) → length t ≤ at → lines_in (drop at t) ≡ []
unfolding lines_in
lines_over t at h = rw (drop_of_length-le t h)

pub newlines-count : (t : List ℕ) → newlines t ≡ count_by (λ (x : ℕ). eqb x 10) t
unfolding newlines
newlines-count t = is_count_by newlines (λ (x : ℕ). eqb x 10) refl (λ x xs. rw one-add) t

pub line-number-one : (t : List ℕ) (place x y : ℕ) → x ≡ line_number_of t place → y ≡ line_number_of t place → x ≡ y
line-number-one t place x y e f = e ∙ sym f
