-- Claims about numbers that antt tests by computing.
--   Claim          two numbers and how they are claimed to compare
--   holds c        the claim as a fact;  Hold cs   all of them
--   test c         the claim as a test;  tests cs  all of them
--   tests_hold     claims that pass the test hold
-- Assumes nothing.
use Rattle.std.specs.Prelude.{◌≡◌, Bool, true, List, [], ◌∷◌, ℕ, ◌≤◌, ◌<◌, T, leb, ltb, eqb}
use Rattle.std.proofs.Common.{leb→le, ltb→lt, eqb→eq}
use Rattle.loops.specs.Table.{both, both_left, both_right}

pub data Claim : Type 0 where
  less : ℕ → ℕ → Claim
  upto : ℕ → ℕ → Claim
  same : ℕ → ℕ → Claim

abbrev pub holds : Claim → Type 0
holds (less a b) = a < b
holds (upto a b) = a ≤ b
holds (same a b) = a ≡ b

abbrev pub test : Claim → Bool
test (less a b) = ltb a b
test (upto a b) = leb a b
test (same a b) = eqb a b

abbrev pub Hold : List Claim → Type 0
Hold [] = Unit
Hold (c ∷ cs) = holds c × Hold cs

abbrev pub tests : List Claim → Bool
tests [] = true
tests (c ∷ cs) = both (test c) (tests cs)

test-holds : (c : Claim) → T (test c) → holds c
test-holds (less a b) t = ltb→lt a b t
test-holds (upto a b) t = leb→le a b t
test-holds (same a b) t = eqb→eq a b t

pub tests_hold : (cs : List Claim) → T (tests cs) → Hold cs
tests_hold [] t = tt
tests_hold (c ∷ cs) t = (test-holds c (both_left (test c) (tests cs) t), tests_hold cs (both_right (test c) (tests cs) t))
