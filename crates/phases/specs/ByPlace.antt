-- What the definition says by place, and what the laws say by step, are the same.
--   rows_join, pivots_join, length-rows_of, length_pivots_of   the rows and columns of steps
--   backward-is       clearing above, column by column
--   beside_more       columns beyond the values have none
-- Assumes nothing.
use Rattle.std.specs.Prelude.{◌≡◌, refl, cond, List, [], ◌∷◌, ◌++◌, ℕ, zero, suc, ◌+◌, ◌<◌, ◌≤◌, eqb, length, get_or, take}
use Rattle.std.proofs.Common.{sym, ap, ap₂, ◌∙◌, append_assoc, append-nil, not-suc-le-zero, arith, take-suc}
use Rattle.std.proofs.Math.Seq.{take-length}
use Rattle.oplist.specs.declared.Op.{Op}
use Rattle.phases.specs.One.{Step, clears, rows_of, pivots_of}
use Rattle.phases.specs.Two.{at, backward}
use Rattle.phases.specs.Rest.{beside}
use Rattle.phases.specs.Occ.{occ, Member}
use Rattle.phases.specs.Gauss.{above}
use Rattle.phases.specs.Forward.{clears_alike}

abbrev no_step : Step
no_step = record { row = 0; pivot = 0; under = []; left = [] }

pub rows_join : (ts us : List Step) → rows_of (ts ++ us) ≡ rows_of ts ++ rows_of us
rows_join [] us = refl
rows_join (t ∷ ts) us = ap (λ (l : List ℕ). t.row ∷ l) (rows_join ts us)

pub pivots_join : (ts us : List Step) → pivots_of (ts ++ us) ≡ pivots_of ts ++ pivots_of us
pivots_join [] us = refl
pivots_join (t ∷ ts) us = ap (λ (l : List ℕ). t.pivot ∷ l) (pivots_join ts us)

pub length-rows_of : (us : List Step) → length (rows_of us) ≡ length us
length-rows_of [] = refl
length-rows_of (u ∷ us) = ap suc (length-rows_of us)

pub length_pivots_of : (us : List Step) → length (pivots_of us) ≡ length us
length_pivots_of [] = refl
length_pivots_of (u ∷ us) = ap suc (length_pivots_of us)

take-rows : (k : ℕ) (us : List Step) → rows_of (take k us) ≡ take k (rows_of us)
take-rows zero us = refl
take-rows (suc k) [] = refl
take-rows (suc k) (u ∷ us) = ap (λ (l : List ℕ). u.row ∷ l) (take-rows k us)

get_or-row : (us : List Step) (k : ℕ) → (get_or us k no_step).row ≡ get_or (rows_of us) k 0
get_or-row [] k = refl
get_or-row (u ∷ us) zero = refl
get_or-row (u ∷ us) (suc k) = get_or-row us k

get_or_pivot : (us : List Step) (k : ℕ) → (get_or us k no_step).pivot ≡ get_or (pivots_of us) k 0
get_or_pivot [] k = refl
get_or_pivot (u ∷ us) zero = refl
get_or_pivot (u ∷ us) (suc k) = get_or_pivot us k

-- clearing above
above-snoc : (D : ℕ → ℕ → ℕ) (before : List ℕ) (us : List Step) (t : Step)
    → above D before (us ++ (t ∷ [])) ≡ clears (λ y. D y t.pivot) t.row (before ++ rows_of us) ++ above D before us
above-snoc D before [] t =
    ap (λ (l : List ℕ). clears (λ y. D y t.pivot) t.row l) (sym (append-nil before)) ∙ sym (append-nil (clears (λ y. D y t.pivot) t.row (before ++ [])))
above-snoc D before (s ∷ us) t =
    ap (λ (l : List Op). l ++ clears (λ y. D y s.pivot) s.row before) (above-snoc D (before ++ (s.row ∷ [])) us t)
    ∙ append_assoc (clears (λ y. D y t.pivot) t.row ((before ++ (s.row ∷ [])) ++ rows_of us)) (above D (before ++ (s.row ∷ [])) us)
    (clears (λ y. D y s.pivot) s.row before)
    ∙ ap (λ (l : List ℕ). clears (λ y. D y t.pivot) t.row l ++ above D before (s ∷ us)) (append_assoc before (s.row ∷ []) (rows_of us))

take_member : (k : ℕ) (l : List ℕ) (y : ℕ) → Member (take k l) y → Member l y
take_member zero l y i = absurd (not-suc-le-zero i)
take_member (suc k) [] y i = i
take_member (suc k) (x ∷ l) y i = go (occ y (take k l)) refl (λ j. take_member k l y j)
  where
    go : (n : ℕ) → occ y (take k l) ≡ n → (Member (take k l) y → Member l y) → Member (x ∷ l) y
    go zero e rec = omega arith
    go (suc n) e rec = omega (arith, rec (omega arith))

module _ (D : ℕ → ℕ → ℕ) (X : List (List ℕ)) (us : List Step)
    (same : (y k : ℕ) → Member (rows_of us) y → k < length us → at X y k ≡ D y (get_or (pivots_of us) k 0)) where
  backward_to : (k : ℕ) → k ≤ length us → backward X (rows_of us) k ≡ above D [] (take k us)
  backward_to zero h = refl
  backward_to (suc k) h =
      ap₂ (λ (a b : List Op). a ++ b)
      (clears_alike (λ y. at X y k) (λ y. D y (get_or us k no_step).pivot) (get_or (rows_of us) k 0) (take k (rows_of us))
      (λ y i. same y k (take_member k (rows_of us) y i) (omega arith) ∙ ap (D y) (sym (get_or_pivot us k)))
      ∙ ap₂ (λ (x : ℕ) (l : List ℕ). clears (λ y. D y (get_or us k no_step).pivot) x l) (sym (get_or-row us k)) (sym (take-rows k us)))
      (backward_to k (omega arith))
      ∙ sym (above-snoc D [] (take k us) (get_or us k no_step))
      ∙ ap (above D []) (sym (take-suc us k no_step (omega arith)))

  pub backward-is : backward X (rows_of us) (length us) ≡ above D [] us
  backward-is = backward_to (length us) (omega arith) ∙ ap (above D []) (take-length us)

-- columns beyond the values
pub beside_more : (q : ℕ) (c more xs : List ℕ) → length xs ≡ length c → beside q (c ++ more) xs ≡ beside q c xs
beside_more q [] [] [] e = refl
beside_more q [] (d ∷ more) [] e = refl
beside_more q [] more (x ∷ xs) e = absurd (omega (arith, e))
beside_more q (d ∷ c) more [] e = absurd (omega (arith, e))
beside_more q (d ∷ c) more (x ∷ xs) e = ap (λ (w : ℕ). cond (eqb q d) x w) (beside_more q c more xs (omega arith))
