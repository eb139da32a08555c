-- What a solved call means. m rows, n columns; D is one column of received symbols, x one column of intermediate symbols.
--   Unnamed            the order does not name the row
--   Makes m n A x D    the matrix times x is D
--   Reduces            a list that can be undone turns the matrix into the identity, in the order's rows, and zero rows
--   dot-unit, dot-none a unit row, and a row of zeros, times a column
--   kernel_forth       a list keeps what is sent to zeros
-- Assumes nothing.
use Rattle.std.specs.Prelude.{◌≡◌, refl, ◌≢◌, List, ℕ, ◌<◌}
use Rattle.std.proofs.Common.{sym, ap, ◌∙◌}
use Rattle.octet.specs.Octet.{mul}
use Rattle.octet.specs.Field.{one-mul, zero-mul, Octets}
use Rattle.oplist.specs.declared.Op.{Op}
use Rattle.oplist.specs.Ops.{Each}
use Rattle.algebra.specs.Sums.{pick_eq, pick_ne, delta, dot, sum_one, sum-zero}
use Rattle.algebra.specs.Rows.{Good, Within, runs, times, run-times, run_local, run-zero}

abbrev pub Unnamed : ℕ → (ℕ → ℕ) → ℕ → Type 0
Unnamed n order r = (j : ℕ) → j < n → order j ≢ r

abbrev pub Makes : ℕ → ℕ → (ℕ → ℕ → ℕ) → (ℕ → ℕ) → (ℕ → ℕ) → Type 0
Makes m n A x D = (r : ℕ) → r < m → times n A x r ≡ D r

pub record Reduces (m n : ℕ) (os : List Op) (A : ℕ → ℕ → ℕ) (order : ℕ → ℕ) : Type 0 where
  pub good : Each Good os
  pub within : Each (Within m) os
  pub place : (j : ℕ) → j < n → order j < m
  pub unit : (j k : ℕ) → j < n → k < n → runs os A (order j) k ≡ delta j k
  pub clear : (r : ℕ) → r < m → Unnamed n order r → (k : ℕ) → k < n → runs os A r k ≡ 0

pub dot-unit : (n : ℕ) (a x : ℕ → ℕ) (j : ℕ) → j < n → Octets x → ((k : ℕ) → k < n → a k ≡ delta j k) → dot n a x ≡ x j
dot-unit n a x j l hx e =
    sum_one n (λ k. mul (a k) (x k)) j l
    (λ k q ne. ap (λ (z : ℕ). mul z (x k)) (e k q ∙ pick_ne j k 1 0 (λ p. ne (sym p))) ∙ zero-mul (x k))
    ∙ ap (λ (z : ℕ). mul z (x j)) (e j l ∙ pick_eq j j 1 0 refl)
    ∙ one-mul (x j) (hx j)

pub dot-none : (n : ℕ) (a x : ℕ → ℕ) → ((k : ℕ) → k < n → a k ≡ 0) → dot n a x ≡ 0
dot-none n a x e =
    sum-zero n (λ k. mul (a k) (x k)) (λ k q. ap (λ (z : ℕ). mul z (x k)) (e k q) ∙ zero-mul (x k))

module _ (m n : ℕ) (os : List Op) (A : ℕ → ℕ → ℕ) (g : Each Good os) (b : Each (Within m) os) where
  pub kernel_forth : (x : ℕ → ℕ) → Makes m n A x (λ _. 0) → Makes m n (runs os A) x (λ _. 0)
  kernel_forth x h r l =
      ap (λ (u : ℕ → ℕ). u r) (sym (run-times n os A x))
      ∙ run_local m os (times n A x) (λ _. 0) b h r l
      ∙ ap (λ (u : ℕ → ℕ). u r) (run-zero os)
