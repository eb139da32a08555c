-- An entry of a matrix that is lent as one list, row after row.
--   entry_at n m x q   the entry of row x in column q of the matrix m of n columns; 0 beyond the last column
--   entry_within      in a column of the matrix it is the list's entry at x * n + q
--   entry_beyond, entry_past   it is 0 beyond the last column, and past the last row
--   entry-any         what holds of 0 and of each entry of the list holds of it
--   entry-take, entry-drop   the rows before row s alone have it where x is before s; the rows from row s on have it, in row x - s, where x is not
-- Assumes nothing.
use Rattle.std.specs.Prelude.{◌≡◌, Bool, List, ℕ, ◌+◌, ◌-◌, ◌*◌, ◌≤◌, ◌<◌, length, take, drop}
use Rattle.std.proofs.Math.Path.{refl, ap}
use Rattle.std.proofs.Common.{◌∙◌, get_or-drop}
use Rattle.std.proofs.Math.Bool.{true, false, cond}
use Rattle.std.proofs.Math.Nat.{add-mul}
use native.Mathlib.Omega.{arith}
use borrow.Author.Tests.{lt-ltb, le-ltb, ltb-true}
use Rattle.std.proofs.Math.Dec.{ltb}
use Rattle.std.proofs.Math.ListN.{get_or, get_or-eq_default}
use Rattle.std.proofs.Math.Seq.{get_or-take}
use Rattle.loops.specs.Part.{row_within}

unfoldable pub entry_at : ℕ → List ℕ → ℕ → ℕ → ℕ
entry_at n m x q = cond (ltb q n) (get_or m (x * n + q) 0) 0

module _ (n : ℕ) (m : List ℕ) (x q : ℕ) where
  pub entry_within : q < n → entry_at n m x q ≡ get_or m (x * n + q) 0
  unfolding entry_at
  entry_within h = rw (lt-ltb q n h)

  pub entry_beyond : n ≤ q → entry_at n m x q ≡ 0
  unfolding entry_at
  entry_beyond h = rw (le-ltb q n h)

  pub entry-any : (P : ℕ → Type 0) → P 0 → ((i : ℕ) → P (get_or m i 0)) → P (entry_at n m x q)
  unfolding entry_at
  entry-any P z h = go (ltb q n)
    where
      go : (b : Bool) → P (cond b (get_or m (x * n + q) 0) 0)
      go true = h (x * n + q)
      go false = z

  pub entry_past : length m ≤ x * n → entry_at n m x q ≡ 0
  unfolding entry_at
  entry_past h = go (ltb q n)
    where
      go : (b : Bool) → cond b (get_or m (x * n + q) 0) 0 ≡ 0
      go true = get_or-eq_default m 0 (omega arith)
      go false = refl

  pub entry-take : (s : ℕ) → x < s → entry_at n (take (s * n) m) x q ≡ entry_at n m x q
  unfolding entry_at
  entry-take s h = go (ltb q n) refl
    where
      go : (b : Bool) → ltb q n ≡ b → cond b (get_or (take (s * n) m) (x * n + q) 0) 0 ≡ cond b (get_or m (x * n + q) 0) 0
      go true e = get_or-take (s * n) m (x * n + q) 0 (omega (arith, row_within n s x h, ltb-true q n e))
      go false e = refl

  pub entry-drop : (s : ℕ) → s ≤ x → entry_at n (drop (s * n) m) (x - s) q ≡ entry_at n m x q
  unfolding entry_at
  entry-drop s h =
      let y : s + (x - s) ≡ x = omega arith in
      let k : s * n + ((x - s) * n + q) ≡ x * n + q = omega (arith, add-mul s (x - s) n, ap (λ (a : ℕ). a * n) y) in
      ap (λ (v : ℕ). cond (ltb q n) v 0) (get_or-drop (s * n) m ((x - s) * n + q) 0 ∙ ap (λ (i : ℕ). get_or m i 0) k)
