-- Rows and columns in another order.
--   Perm n c d               c and d are permutations below n that undo one another
--   sum_perm, dot_perm       a sum, and a row times a column, with the terms in another order
--   Arranged                 W is the matrix after a list, its row i the slab row rd i, its column j the matrix's column c j
-- Assumes nothing.
use Rattle.std.specs.Prelude.{◌≡◌, refl, List, ℕ, ◌<◌, eqb}
use Rattle.std.proofs.Common.{sym, ap, ◌∙◌}
use Rattle.octet.specs.Octet.{mul}
use Rattle.oplist.specs.declared.Op.{Op}
use Rattle.oplist.specs.Ops.{Each, Within}
use Rattle.algebra.specs.Sums.{pick, pick_eq, pick_ne, sum, dot, sum_ext, sum_one, sum_swap}
use Rattle.algebra.specs.Rows.{Good, runs}

pub record Perm (n : ℕ) (c d : ℕ → ℕ) : Type 0 where
  pub into : (j : ℕ) → j < n → c j < n
  pub from : (j : ℕ) → j < n → d j < n
  pub there : (j : ℕ) → j < n → d (c j) ≡ j
  pub back : (j : ℕ) → j < n → c (d j) ≡ j

pub sum_perm : (n : ℕ) (c d : ℕ → ℕ) → Perm n c d → (f : ℕ → ℕ) → sum n (λ j. f (c j)) ≡ sum n f
sum_perm n c d P f =
    sum_ext n (λ j. f (c j)) (λ j. sum n (λ k. pick (eqb k (c j)) (f k) 0))
    (λ j l. sym (sum_one n (λ k. pick (eqb k (c j)) (f k) 0) (c j) (P.into j l) (λ k q ne. pick_ne k (c j) (f k) 0 ne)
    ∙ pick_eq (c j) (c j) (f (c j)) 0 refl))
    ∙ sum_swap n n (λ j k. pick (eqb k (c j)) (f k) 0)
    ∙ sum_ext n (λ k. sum n (λ j. pick (eqb k (c j)) (f k) 0)) f
    (λ k l. sum_one n (λ j. pick (eqb k (c j)) (f k) 0) (d k) (P.from k l)
    (λ j q ne. pick_ne k (c j) (f k) 0 (λ e. ne (sym (P.there j q) ∙ ap d (sym e))))
    ∙ pick_eq k (c (d k)) (f k) 0 (sym (P.back k l)))

-- y holds x put back
pub dot_perm : (n : ℕ) (c d : ℕ → ℕ) → Perm n c d → (a x y : ℕ → ℕ) → ((j : ℕ) → j < n → y (c j) ≡ x j)
    → dot n (λ j. a (c j)) x ≡ dot n a y
dot_perm n c d P a x y h =
    sum_ext n (λ j. mul (a (c j)) (x j)) (λ j. mul (a (c j)) (y (c j))) (λ j l. ap (λ (z : ℕ). mul (a (c j)) z) (sym (h j l)))
    ∙ sum_perm n c d P (λ k. mul (a k) (y k))

pub record Arranged (m n : ℕ) (os : List Op) (A W : ℕ → ℕ → ℕ) (rd rd' c c' : ℕ → ℕ) : Type 0 where
  pub good : Each Good os
  pub within : Each (Within m) os
  pub rows : Perm m rd rd'
  pub cols : Perm n c c'
  pub holds : (i j : ℕ) → i < m → j < n → W i j ≡ runs os A (rd i) (c j)
