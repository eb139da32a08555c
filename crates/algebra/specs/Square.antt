-- As many rows as columns: the order names every row, so that such a system always agrees.
--   Apart n f    f tells the numbers below n apart
--   too_many     n + 1 numbers do not go apart into n places
--   distinct     the rows of the order of a reducing list are distinct
--   named-all    with m = n no row is unnamed
-- Assumes nothing.
use Rattle.std.specs.Prelude.{◌≡◌, refl, ◌≢◌, Bool, true, false, List, ℕ, zero, suc, ◌<◌, eqb}
use Rattle.std.proofs.Common.{sym, ap, ◌∙◌, not-suc-le-zero, arith, eqb-true}
use Rattle.std.proofs.lemmas.Bool.{eqb-false}
use Rattle.algebra.specs.Sums.{pick, pick_eq, pick_ne, delta}
use Rattle.oplist.specs.declared.Op.{Op}
use Rattle.algebra.specs.Rows.{runs}
use Rattle.algebra.specs.Solve.{Unnamed, Reduces}

abbrev pub Apart : ℕ → (ℕ → ℕ) → Type 0
Apart n f = (i j : ℕ) → i < n → j < n → f i ≡ f j → i ≡ j

pub too_many : (n : ℕ) (f : ℕ → ℕ) → ((i : ℕ) → i < suc n → f i < n) → Apart (suc n) f → ⊥
too_many zero f into apart = not-suc-le-zero (into 0 (omega arith))
too_many (suc n) f into apart =
    too_many n (λ i. pick (eqb (f i) n) (f (suc n)) (f i)) (λ i l. low i l (eqb (f i) n) refl)
    (λ i j p q e. same i j p q (eqb (f i) n) refl (eqb (f j) n) refl e)
  where
    low : (i : ℕ) → i < suc n → (b : Bool) → eqb (f i) n ≡ b → pick b (f (suc n)) (f i) < n
    low i l true e =
        let u : f i ≡ n = eqb-true (f i) n e in
        let v : f (suc n) < suc n = into (suc n) (omega arith) in
        let k : f (suc n) ≢ n = λ z. (let y : suc n ≡ i = apart (suc n) i (omega arith) (omega arith) (z ∙ sym u) in omega arith) in
        omega arith
    low i l false e =
        let u : f i ≢ n = eqb-false (f i) n e in
        let v : f i < suc n = into i (omega arith) in
        omega arith

    same : (i j : ℕ) → i < suc n → j < suc n → (a : Bool) → eqb (f i) n ≡ a → (b : Bool) → eqb (f j) n ≡ b
        → pick a (f (suc n)) (f i) ≡ pick b (f (suc n)) (f j) → i ≡ j
    same i j p q true x true y e = apart i j (omega arith) (omega arith) (eqb-true (f i) n x ∙ sym (eqb-true (f j) n y))
    same i j p q true x false y e = let z : suc n ≡ j = apart (suc n) j (omega arith) (omega arith) e in absurd (omega arith)
    same i j p q false x true y e = let z : i ≡ suc n = apart i (suc n) (omega arith) (omega arith) e in absurd (omega arith)
    same i j p q false x false y e = apart i j (omega arith) (omega arith) e

module _ (m n : ℕ) (os : List Op) (A : ℕ → ℕ → ℕ) (order : ℕ → ℕ) (R : Reduces m n os A order) where
  pub distinct : Apart n order
  distinct j k p q e = at (eqb j k) refl
    where
      at : (b : Bool) → eqb j k ≡ b → j ≡ k
      at true x = eqb-true j k x
      at false x =
          let z : delta j k ≡ delta k k = sym (R.unit j k p q) ∙ ap (λ (r : ℕ). runs os A r k) e ∙ R.unit k k q q in
          let y : ◌≡◌ {A = ℕ} 0 1 = sym (pick_ne j k 1 0 (eqb-false j k x)) ∙ z ∙ pick_eq k k 1 0 refl in
          absurd (omega arith)

  pub named-all : m ≡ n → (r : ℕ) → r < m → Unnamed n order r → ⊥
  named-all e r l un = too_many n f into apart
    where
      f : ℕ → ℕ
      f i = pick (eqb i n) r (order i)

      into : (i : ℕ) → i < suc n → f i < n
      into i h = at (eqb i n) refl
        where
          at : (b : Bool) → eqb i n ≡ b → pick b r (order i) < n
          at true x = omega arith
          at false x = let u : i ≢ n = eqb-false i n x in let v : order i < m = R.place i (omega arith) in omega arith

      apart : Apart (suc n) f
      apart i j p q = at (eqb i n) refl (eqb j n) refl
        where
          at : (a : Bool) → eqb i n ≡ a → (b : Bool) → eqb j n ≡ b → pick a r (order i) ≡ pick b r (order j) → i ≡ j
          at true x true y z = eqb-true i n x ∙ sym (eqb-true j n y)
          at true x false y z = let u : j ≢ n = eqb-false j n y in absurd (un j (omega arith) (sym z))
          at false x true y z = let u : i ≢ n = eqb-false i n x in absurd (un i (omega arith) z)
          at false x false y z =
              let u : i ≢ n = eqb-false i n x in
              let v : j ≢ n = eqb-false j n y in
              distinct i j (omega arith) (omega arith) z
