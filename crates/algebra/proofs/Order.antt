-- Rows and columns in another order.
--   arranged_reduces         where W is the identity above zero rows, the list reduces the matrix, and entry c i of the order is rd i
--   arranged_kernel          what W sends to zeros, put back in the matrix's order, the matrix sends to zeros
-- Assumes nothing.
use Rattle.std.specs.Prelude.{◌≡◌, refl, ◌≢◌, Bool, true, false, List, ℕ, ◌<◌, ◌≤◌, eqb, ltb}
use Rattle.std.proofs.Common.{sym, ap, ◌∙◌, subst, arith, eq-eqb, ne_eqb, eqb-true, ltb-true, ltb-false}
use Rattle.std.proofs.lemmas.Bool.{eqb-false}
use Rattle.octet.specs.Octet.{mul}
use Rattle.oplist.specs.declared.Op.{Op}
use Rattle.algebra.specs.Sums.{pick, delta, dot, sum_ext}
use Rattle.algebra.specs.Rows.{runs}
use Rattle.algebra.specs.Solve.{Unnamed, Makes, Reduces}
use Rattle.algebra.proofs.Solve.{kernel_back}
use Rattle.algebra.specs.Order.{Arranged, Perm, dot_perm}

opposite : {n : ℕ} {c d : ℕ → ℕ} → Perm n c d → Perm n d c
opposite P = record { into = P.from; from = P.into; there = P.back; back = P.there }

perm_apart : (n : ℕ) (c d : ℕ → ℕ) → Perm n c d → (i j : ℕ) → i < n → j < n → i ≢ j → c i ≢ c j
perm_apart n c d P i j hi hj ne e = ne (sym (P.there i hi) ∙ ap d e ∙ P.there j hj)

eqb_perm : (m : ℕ) (f g : ℕ → ℕ) → Perm m f g → (i j : ℕ) → i < m → j < m → eqb (f i) (f j) ≡ eqb i j
eqb_perm m f g P i j hi hj = at (eqb i j) refl
  where
    at : (t : Bool) → eqb i j ≡ t → eqb (f i) (f j) ≡ t
    at true e = eq-eqb (f i) (f j) (ap f (eqb-true i j e))
    at false e = ne_eqb (f i) (f j) (perm_apart m f g P i j hi hj (eqb-false i j e))

module _ (m n : ℕ) (os : List Op) (A W : ℕ → ℕ → ℕ) (rd rd' c c' : ℕ → ℕ) (H : Arranged m n os A W rd rd' c c') where
  pub arranged_reduces : (order : ℕ → ℕ) → n ≤ m → ((i : ℕ) → i < n → order (c i) ≡ rd i)
      → ((i j : ℕ) → i < n → j < n → W i j ≡ delta i j) → ((i j : ℕ) → n ≤ i → i < m → j < n → W i j ≡ 0)
      → Reduces m n os A order
  arranged_reduces order nm ho hu hz = record {
    good = H.good;
    within = H.within;
    place = λ j l. subst (λ (r : ℕ). r < m) (sym (at j l)) (H.rows.into (c' j) (le (H.cols.from j l)));
    unit = λ j k l q.
        ap (λ (r : ℕ). runs os A r k) (at j l)
        ∙ ap (λ (z : ℕ). runs os A (rd (c' j)) z) (sym (H.cols.back k q))
        ∙ sym (H.holds (c' j) (c' k) (le (H.cols.from j l)) (H.cols.from k q))
        ∙ hu (c' j) (c' k) (H.cols.from j l) (H.cols.from k q)
        ∙ ap (λ (t : Bool). pick t 1 0) (eqb_perm n c' c (opposite H.cols) j k l q);
    clear = λ r l un k q.
        ap (λ (z : ℕ). runs os A z k) (sym (H.rows.back r l))
        ∙ ap (λ (z : ℕ). runs os A (rd (rd' r)) z) (sym (H.cols.back k q))
        ∙ sym (H.holds (rd' r) (c' k) (H.rows.from r l) (H.cols.from k q))
        ∙ hz (rd' r) (c' k) (below r l un (ltb (rd' r) n) refl) (H.rows.from r l) (H.cols.from k q);
  }
    where
      le : {i : ℕ} → i < n → i < m
      le {i} h = omega arith

      at : (j : ℕ) → j < n → order j ≡ rd (c' j)
      at j l = ap order (sym (H.cols.back j l)) ∙ ho (c' j) (H.cols.from j l)

      below : (r : ℕ) → r < m → Unnamed n order r → (t : Bool) → ltb (rd' r) n ≡ t → n ≤ rd' r
      below r l un true e =
          let h : rd' r < n = ltb-true (rd' r) n e in
          absurd (un (c (rd' r)) (H.cols.into (rd' r) h) (ho (rd' r) h ∙ H.rows.back r l))
      below r l un false e = ltb-false (rd' r) n e

  pub arranged_kernel : (x y : ℕ → ℕ) → ((j : ℕ) → j < n → y (c j) ≡ x j)
      → ((i : ℕ) → i < m → dot n (W i) x ≡ 0) → Makes m n A y (λ _. 0)
  arranged_kernel x y e h =
      kernel_back m n os A H.good H.within y
      (λ r l. ap (λ (z : ℕ). dot n (runs os A z) y) (sym (H.rows.back r l))
      ∙ sym (dot_perm n c c' H.cols (runs os A (rd (rd' r))) x y e)
      ∙ sym (sum_ext n (λ j. mul (W (rd' r) j) (x j)) (λ j. mul (runs os A (rd (rd' r)) (c j)) (x j))
      (λ j q. ap (λ (z : ℕ). mul z (x j)) (H.holds (rd' r) j (H.rows.from r l) q)))
      ∙ h (rd' r) (H.rows.from r l))
