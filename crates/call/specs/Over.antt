-- A buffer that is written from the front, with zeros after that.
--   over xs l            xs, then zeros, as long as l
--   blank l              zeros, as long as l
--   length_over          it is as long as l
--   over_same            only the length of l counts
--   take-over            its front is xs, where xs has room
--   after-over, at-over  zeros after xs; an entry of xs, or 0 past its end
--   replicate-blank      zeros, as many as l has entries
--   keep n l             the first n entries of l, then zeros
--   take-keep, after-keep, keep_parts   its front is that of l; zeros after that; so it is those two
-- Assumes nothing.
use Rattle.std.specs.Prelude.{◌≡◌, refl, List, [], ◌∷◌, ℕ, zero, suc, ◌≤◌, ◌+◌, ◌++◌, length, get_or, take, replicate}
use Rattle.std.proofs.Common.{sym, ap, ◌∙◌, arith, length-take-le}

unfoldable pub over : List ℕ → List ℕ → List ℕ
over xs [] = []
over [] (y ∷ l) = 0 ∷ over [] l
over (x ∷ xs) (y ∷ l) = x ∷ over xs l

abbrev pub blank : List ℕ → List ℕ
blank l = over [] l

pub length_over : (xs l : List ℕ) → length (over xs l) ≡ length l
unfolding over
length_over xs [] = refl
length_over [] (y ∷ l) = ap suc (length_over [] l)
length_over (x ∷ xs) (y ∷ l) = ap suc (length_over xs l)

pub over_same : (xs l k : List ℕ) → length l ≡ length k → over xs l ≡ over xs k
unfolding over
over_same xs [] [] e = refl
over_same xs [] (z ∷ k) e = absurd (omega arith)
over_same xs (y ∷ l) [] e = absurd (omega arith)
over_same [] (y ∷ l) (z ∷ k) e = ap (λ (q : List ℕ). 0 ∷ q) (over_same [] l k (omega arith))
over_same (x ∷ xs) (y ∷ l) (z ∷ k) e = ap (λ (q : List ℕ). x ∷ q) (over_same xs l k (omega arith))

pub take-over : (xs l : List ℕ) → length xs ≤ length l → take (length xs) (over xs l) ≡ xs
unfolding over
take-over [] [] h = refl
take-over [] (y ∷ l) h = refl
take-over (x ∷ xs) [] h = absurd (omega arith)
take-over (x ∷ xs) (y ∷ l) h = ap (λ (q : List ℕ). x ∷ q) (take-over xs l (omega arith))

pub after-over : (xs l : List ℕ) (i : ℕ) → length xs ≤ i → get_or (over xs l) i 0 ≡ 0
unfolding over
after-over xs [] i h = refl
after-over [] (y ∷ l) zero h = refl
after-over [] (y ∷ l) (suc i) h = after-over [] l i (omega arith)
after-over (x ∷ xs) (y ∷ l) zero h = absurd (omega arith)
after-over (x ∷ xs) (y ∷ l) (suc i) h = after-over xs l i (omega arith)

pub at-over : (xs l : List ℕ) (i : ℕ) → length xs ≤ length l → get_or (over xs l) i 0 ≡ get_or xs i 0
unfolding over
at-over [] [] i h = refl
at-over [] (y ∷ l) zero h = refl
at-over [] (y ∷ l) (suc i) h = at-over [] l i (omega arith)
at-over (x ∷ xs) [] i h = absurd (omega arith)
at-over (x ∷ xs) (y ∷ l) zero h = refl
at-over (x ∷ xs) (y ∷ l) (suc i) h = at-over xs l i (omega arith)

pub replicate-blank : (l : List ℕ) → replicate (length l) 0 ≡ blank l
unfolding over
replicate-blank [] = refl
replicate-blank (y ∷ l) = ap (λ (q : List ℕ). 0 ∷ q) (replicate-blank l)

abbrev pub keep : ℕ → List ℕ → List ℕ
keep n l = over (take n l) l

pub keep_parts : (n k : ℕ) (l : List ℕ) → length l ≡ n + k → take n l ++ replicate k 0 ≡ keep n l
unfolding over
keep_parts zero k l e = ap (λ (m : ℕ). replicate m 0) (omega arith) ∙ replicate-blank l
keep_parts (suc n) k [] e = absurd (omega arith)
keep_parts (suc n) k (x ∷ l) e = ap (λ (q : List ℕ). x ∷ q) (keep_parts n k l (omega arith))

module _ (n : ℕ) (l : List ℕ) (h : n ≤ length l) where
  taken : length (take n l) ≡ n
  taken = length-take-le n l h

  pub take-keep : take n (keep n l) ≡ take n l
  take-keep = let e : n ≡ length (take n l) = sym taken in ap (λ (k : ℕ). take k (keep n l)) e ∙ take-over (take n l) l (omega arith)

  pub after-keep : (i : ℕ) → n ≤ i → get_or (keep n l) i 0 ≡ 0
  after-keep i k = after-over (take n l) l i (omega (arith, taken))
