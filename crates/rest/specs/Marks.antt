-- Which rows are chosen, as one mark a row; and the operations that write a marked row.
--   flag               1 for true, 0 for false
--   flag_of xs x        1 for a row x of xs, else 0
--   kept_by ms os       those of the operations os that write a row whose mark in ms is 1
--   figures_mark       one row more is marked
--   Marking, marking_next   the rows up to a place are marked, and one more
--   kept_by-append      of lists joined
--   kept_by-is          by the marks of the chosen rows, the definition's `kept`
-- Assumes nothing.
use Rattle.std.specs.Prelude.{◌≡◌, refl, Bool, true, false, ◌||◌, List, [], ◌∷◌, ◌++◌, ℕ, ◌+◌, ◌<◌, eqb, length, get_or, set, take}
use Rattle.std.proofs.Common.{sym, ap, ◌∙◌, add-one, arith, take-suc, length-set, get_or-set_same, get_or-set_other, eqb-true}
use Rattle.std.proofs.lemmas.Bool.{eqb-false}
use Rattle.oplist.specs.declared.Op.{Op}
use Rattle.oplist.specs.Ops.{dest, Each}
use Rattle.phases.specs.Rest.{has, keep_op, kept}
use Rattle.grid.specs.Grid.{Figures}

abbrev pub flag : Bool → ℕ
flag true = 1
flag false = 0

abbrev pub flag_of : List ℕ → ℕ → ℕ
flag_of xs x = flag (has x xs)

unfoldable pub kept_by : List ℕ → List Op → List Op
kept_by ms [] = []
kept_by ms (o ∷ os) = keep_op (eqb (get_or ms (dest o) 0) 1) o (kept_by ms os)

pub figures_mark : (n x : ℕ) (xs ms : List ℕ) → Figures (flag_of xs) n ms → x < n → Figures (flag_of (x ∷ xs)) n (set ms x 1)
figures_mark n x xs ms f h = record { long = length-set ms x 1 ∙ f.long; each = λ q k. at q k (eqb q x) refl }
  where
    at : (q : ℕ) → q < n → (b : Bool) → eqb q x ≡ b → get_or (set ms x 1) q 0 ≡ flag (b || has q xs)
    at q k true e = ap (λ (p : ℕ). get_or (set ms x 1) p 0) (eqb-true q x e) ∙ get_or-set_same ms x 1 0 (omega (arith, f.long))
    at q k false e = get_or-set_other ms x q 1 0 (eqb-false q x e) ∙ f.each q k

pub kept_by-append : (ms : List ℕ) (a b : List Op) → kept_by ms (a ++ b) ≡ kept_by ms a ++ kept_by ms b
unfolding kept_by
kept_by-append ms [] b = refl
kept_by-append ms (o ∷ a) b = at (eqb (get_or ms (dest o) 0) 1) (kept_by-append ms a b)
  where
    at : (t : Bool) → kept_by ms (a ++ b) ≡ kept_by ms a ++ kept_by ms b → keep_op t o (kept_by ms (a ++ b)) ≡ keep_op t o (kept_by ms a) ++ kept_by ms b
    at true e = ap (λ (l : List Op). o ∷ l) e
    at false e = e

flag-test : (b : Bool) → eqb (flag b) 1 ≡ b
flag-test true = refl
flag-test false = refl

pub kept_by-is : (xs : List ℕ) (n : ℕ) (ms : List ℕ) → Figures (flag_of xs) n ms → (os : List Op) → Each (λ o. dest o < n) os → kept_by ms os ≡ kept xs os
unfolding kept_by
kept_by-is xs n ms f [] h = refl
kept_by-is xs n ms f (o ∷ os) h =
    rw (f.each (dest o) h.0, flag-test (has (dest o) xs)) (ap (keep_op (has (dest o) xs) o) (kept_by-is xs n ms f os h.1))

has-snoc : (q x : ℕ) (xs : List ℕ) → has q (xs ++ (x ∷ [])) ≡ eqb q x || has q xs
has-snoc q x [] = refl
has-snoc q x (y ∷ ys) = rw (has-snoc q x ys) (swap (eqb q y) (eqb q x))
  where
    swap : (a b : Bool) → a || (b || has q ys) ≡ b || (a || has q ys)
    swap true true = refl
    swap true false = refl
    swap false b = refl

-- the first k rows of xs are marked, of n rows
pub record Marking (xs : List ℕ) (n k : ℕ) (ms : List ℕ) : Type 0 where
  pub marks : Figures (flag_of (take k xs)) n ms

module _ {xs : List ℕ} {n k : ℕ} {ms : List ℕ} (M : Marking xs n k ms) where
  pub marking_next : k < length xs → get_or xs k 0 < n → Marking xs n (k + 1) (set ms (get_or xs k 0) 1)
  marking_next z h =
      let x : ℕ = get_or xs k 0 in
      let f = figures_mark n x (take k xs) ms M.marks h in
      let t : take (k + 1) xs ≡ take k xs ++ (x ∷ []) = ap (λ (i : ℕ). take i xs) (add-one k) ∙ take-suc xs k 0 z in
      record {
        marks = record {
          long = f.long;
          each = λ q l. f.each q l ∙ sym (ap flag (ap (has q) t ∙ has-snoc q x (take k xs)));
        };
      }
