-- One step of phase one keeps what is known before it.
--   Arranged                          what the column rule ensures
--   count-one, count_skip, count-zero the ones of a row in V
-- Assumes nothing.
use Rattle.std.specs.Prelude.{◌≡◌, refl, ◌⊎◌, List, [], ◌∷◌, ◌++◌, Bool, true, false, ℕ, suc, length}
use Rattle.std.proofs.Common.{ap, ◌∙◌, inl, inr, ⊎_elim}
use Rattle.rule.specs.Lists.{In, Nodup, keep, filter}
use Rattle.rule.specs.Sets.{bool_or}
use Rattle.rule.specs.Permitted.{ones, count}

-- what the arrangement of V's columns for row x ensures: pivot in front, the row's other ones last, the rest between
pub record Arranged (row : ℕ → ℕ → Bool) (C : List ℕ) (x pivot : ℕ) (gone C' : List ℕ) : Type 0 where
  pub once : Nodup C'
  pub within : (q : ℕ) → In q C' → In q C
  pub same : (P : ℕ → Bool) → length (filter P C) ≡ length (filter P (pivot ∷ gone ++ C'))
  pub front : row x pivot ≡ true
  pub clear : (q : ℕ) → In q C' → row x q ≡ true → ⊥

pub count-one : (row : ℕ → ℕ → Bool) (c : ℕ) (C : List ℕ) (y : ℕ) → row y c ≡ true → count row (c ∷ C) y ≡ suc (count row C y)
count-one row c C y e = ap (λ (t : Bool). length (keep t c (ones row C y))) e

pub count_skip : (row : ℕ → ℕ → Bool) (c : ℕ) (C : List ℕ) (y : ℕ) → row y c ≡ false → count row (c ∷ C) y ≡ count row C y
count_skip row c C y e = ap (λ (t : Bool). length (keep t c (ones row C y))) e

pub count-zero : (row : ℕ → ℕ → Bool) (C : List ℕ) (y : ℕ) → ((q : ℕ) → In q C → row y q ≡ true → ⊥) → count row C y ≡ 0
count-zero row [] y h = refl
count-zero row (c ∷ C) y h =
    ⊎_elim (λ e. absurd (h c (inl refl) e)) (λ e. count_skip row c C y e ∙ count-zero row C y (λ q m. h q (inr m))) (bool_or (row y c))
