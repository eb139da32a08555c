-- The vector of a Singular answer: where column p has no pivot, it is 1 at p, 0 at later columns, and the rest by substitution.
--   right         what stands right of the diagonal in a row, with zeros for the rest
--   Stuck         the first p rows are an upper triangle with ones on the diagonal, and the rows from p on have no nonzero up to column p
--   Substituted   the vector of a stuck matrix
--   sent          a stuck matrix sends its vector to zeros
-- Assumes nothing.
use Rattle.std.specs.Prelude.{◌≡◌, refl, ◌≢◌, Bool, true, false, ℕ, ◌<◌, ◌≤◌, eqb, ltb}
use Rattle.std.proofs.Common.{sym, ap, ap₂, ◌∙◌, arith, eqb-true, ltb-true, ltb-false}
use Rattle.std.proofs.lemmas.Bool.{eqb-false}
use Rattle.octet.specs.Octet.{add, mul}
use Rattle.octet.specs.Field.{add_self, add-zero, zero-mul, zero-add, mul-zero, Octets}
use Rattle.algebra.specs.Sums.{pick, delta, dot, sum_ext, sum-zero, dot-add}
use Rattle.algebra.specs.Solve.{dot-unit}

-- what stands right of the diagonal in row i
abbrev pub right : (ℕ → ℕ → ℕ) → ℕ → ℕ → ℕ
right W i j = pick (ltb i j) (W i j) 0

pub record Stuck (m n p : ℕ) (W : ℕ → ℕ → ℕ) : Type 0 where
  pub column : p < n
  pub one : (i : ℕ) → i < p → W i i ≡ 1
  pub below : (i j : ℕ) → i < p → j < i → W i j ≡ 0
  pub none : (i j : ℕ) → p ≤ i → i < m → j ≤ p → W i j ≡ 0

pub record Substituted (n p : ℕ) (W : ℕ → ℕ → ℕ) (x : ℕ → ℕ) : Type 0 where
  pub octets : Octets x
  pub one : x p ≡ 1
  pub later : (j : ℕ) → p < j → x j ≡ 0
  pub rest : (i : ℕ) → i < p → x i ≡ dot n (right W i) x

pub sent : (m n p : ℕ) (W : ℕ → ℕ → ℕ) (x : ℕ → ℕ) → Stuck m n p W → Substituted n p W x
    → (i : ℕ) → i < m → dot n (W i) x ≡ 0
sent m n p W x K S i l = at (ltb i p) refl
  where
    upper : i < p → dot n (W i) x ≡ 0
    upper h =
        sum_ext n (λ j. mul (W i j) (x j)) (λ j. mul (add (delta i j) (right W i j)) (x j))
        (λ j q. ap (λ (z : ℕ). mul z (x j)) (split j (eqb i j) refl (ltb i j) refl))
        ∙ dot-add n (delta i) (right W i) x
        ∙ ap₂ (λ (a b : ℕ). add a b) (dot-unit n (delta i) x i (omega (arith, K.column)) S.octets (λ k q. refl)) (sym (S.rest i h))
        ∙ add_self (x i)
      where
        split : (j : ℕ) (b : Bool) → eqb i j ≡ b → (c : Bool) → ltb i j ≡ c → W i j ≡ add (pick b 1 0) (pick c (W i j) 0)
        split j true e true f = let u : i ≡ j = eqb-true i j e in let v : i < j = ltb-true i j f in absurd (omega arith)
        split j true e false f = ap (λ (z : ℕ). W i z) (sym (eqb-true i j e)) ∙ K.one i h ∙ sym (add-zero 1)
        split j false e true f = sym (zero-add (W i j))
        split j false e false f =
            let u : i ≢ j = eqb-false i j e in
            let v : j ≤ i = ltb-false i j f in
            K.below i j h (omega arith) ∙ sym (add-zero 0)

    lower : p ≤ i → dot n (W i) x ≡ 0
    lower h = sum-zero n (λ j. mul (W i j) (x j)) (λ j q. term j (ltb p j) refl)
      where
        term : (j : ℕ) (b : Bool) → ltb p j ≡ b → mul (W i j) (x j) ≡ 0
        term j true e = ap (λ (z : ℕ). mul (W i j) z) (S.later j (ltb-true p j e)) ∙ mul-zero (W i j)
        term j false e = ap (λ (z : ℕ). mul z (x j)) (K.none i j h l (ltb-false p j e)) ∙ zero-mul (x j)

    at : (b : Bool) → ltb i p ≡ b → dot n (W i) x ≡ 0
    at true e = upper (ltb-true i p e)
    at false e = lower (ltb-false i p e)
