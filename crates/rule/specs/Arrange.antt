-- The column rule: the same columns, a one of the chosen row in front, no one of it between.
--   num, bit                how many members pass a test; 1 or 0
--   num-cons, bit-true, bit-false   one member more; the 1 and the 0
-- Assumes nothing.
use Rattle.std.specs.Prelude.{◌≡◌, List, ◌∷◌, Bool, true, false, ℕ, ◌+◌, ◌-◌, length}
use Rattle.std.proofs.Common.{ap, arith}
use Rattle.rule.specs.Lists.{keep, filter}

-- how many members are P, and lists that agree on every P
abbrev pub num : (ℕ → Bool) → List ℕ → ℕ
num P l = length (filter P l)

abbrev pub bit : Bool → ℕ
bit true = 1
bit false = 0

pub num-cons : (P : ℕ → Bool) (a : ℕ) (l : List ℕ) → num P (a ∷ l) ≡ bit (P a) + num P l
num-cons P a l = go (P a)
  where
    go : (t : Bool) → length (keep t a (filter P l)) ≡ bit t + num P l
    go true = omega arith
    go false = omega arith

pub bit-true : {b : Bool} → b ≡ true → bit b ≡ 1
bit-true e = ap bit e

pub bit-false : {b : Bool} → b ≡ false → bit b ≡ 0
bit-false e = ap bit e
