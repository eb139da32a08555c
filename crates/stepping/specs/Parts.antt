-- A list of three parts: the middle one, as a slice has it, and the list with another in its place.
--   mid_is, mid_put     the middle part of R ++ (E ++ O), and E' put in its place
--   tail_is             the part of x ∷ ys after x is ys
--   first_rest          a list with a first member, and the part after it
--   rest_part, out_part the two parts of p ∷ (rest ++ out) after p, cut at place k
-- Assumes nothing.
use Rattle.std.specs.Prelude.{◌≡◌, ℕ, suc, ◌-◌, ◌<◌, get_or}
use Rattle.std.proofs.Math.Path.{refl, ap, ap₂}
use Rattle.std.proofs.Common.{sym, ◌∙◌}
use mathlib.Core.List.{List, [], ◌∷◌, ◌++◌}
use native.Mathlib.Omega.{arith}
use Rattle.std.proofs.Math.ListN.{length, take, drop, length-append}
use Rattle.std.proofs.Math.Seq.{take_at, drop_at, take-length}
use Rattle.loops.specs.Part.{part, put}

module _ (R E O : List ℕ) where
  pub mid_is : (a n : ℕ) → a ≡ length R → n ≡ length E → part a n (R ++ (E ++ O)) ≡ E
  unfolding part
  mid_is a n e f = ap (take n) (drop_at R (E ++ O) a (sym e)) ∙ take_at E O n (sym f)

  pub mid_put : (E' : List ℕ) (a n : ℕ) → a ≡ length R → n ≡ length E → put a n (R ++ (E ++ O)) E' ≡ R ++ (E' ++ O)
  unfolding put
  mid_put E' a n e f = ap₂ (λ (x y : List ℕ). x ++ (E' ++ y)) (take_at R (E ++ O) a (sym e)) (ap (drop n) (drop_at R (E ++ O) a (sym e)) ∙ drop_at E O n (sym f))

pub tail_is : (x : ℕ) (ys : List ℕ) (n : ℕ) → n ≡ length (x ∷ ys) → part 1 (n - 1) (x ∷ ys) ≡ ys
unfolding part
tail_is x ys n e = let z : n - 1 ≡ length ys = omega arith in ap (λ (k : ℕ). take k ys) z ∙ take-length ys

pub first_rest : (e : List ℕ) → 0 < length e → e ≡ get_or e 0 0 ∷ part 1 (length e - 1) e
first_rest [] h = absurd (omega arith)
first_rest (x ∷ ys) h = ap (λ (l : List ℕ). x ∷ l) (sym (tail_is x ys (length (x ∷ ys)) refl))

-- of a laid list p ∷ (rest ++ out), with k one more than the rest
module _ (p : ℕ) (rest out : List ℕ) (k : ℕ) (e : k ≡ suc (length rest)) where
  pub rest_part : part 1 (k - 1) (p ∷ (rest ++ out)) ≡ rest
  unfolding part
  rest_part = let z : k - 1 ≡ length rest = omega arith in ap (λ (n : ℕ). take n (rest ++ out)) z ∙ take_at rest out (length rest) refl

  pub out_part : part k (length (p ∷ (rest ++ out)) - k) (p ∷ (rest ++ out)) ≡ out
  unfolding part
  out_part =
      let z : drop k (p ∷ (rest ++ out)) ≡ out = ap (λ (n : ℕ). drop n (p ∷ (rest ++ out))) e ∙ drop_at rest out (length rest) refl in
      let w : length (p ∷ (rest ++ out)) - k ≡ length out = omega (arith, length-append rest out) in
      ap₂ (λ (n : ℕ) (l : List ℕ). take n l) w z ∙ take-length out
