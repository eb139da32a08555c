-- Two places of a list exchanged, and what that makes of the rows and of the columns.
--   swapped i j d, length-swapped   d with its entries at places i and j exchanged, and as long
--   swapped-is        what the library's `swap` leaves
--   is x              the test that finds x
--   brought           the row x, exchanged with the first, stands before those that stay eligible
--   exchanged         the first column that passes, exchanged with the column a that stands before them
--   unfound           where none passes, nothing is exchanged
-- Assumes nothing.
use Rattle.std.specs.Prelude.{◌≡◌, Bool, eqb}
use Rattle.std.specs.List.{swap}
use Rattle.std.proofs.lemmas.Grind.{get_or_default_zero}
use Rattle.std.proofs.Math.Path.{refl}
use Rattle.std.proofs.Common.{sym, ap, ◌∙◌, inl, inr, arith, length-set, eqb-true}
use mathlib.Core.List.{List, [], ◌∷◌, ◌++◌}
use Rattle.std.proofs.Math.Bool.{true, false, cond}
use Prim.Native.Nat.{ℕ, suc, ◌≤◌, ◌<◌}
use Rattle.std.proofs.Math.ListN.{length, get_or, set}
use Rattle.std.proofs.lemmas.Bool.{eqb-false}
use Rattle.rule.specs.Lists.{In}
use Rattle.rule.specs.Rule.{replace, without, found, put}
use Rattle.columns.specs.First.{first_at}

unfoldable pub swapped : ℕ → ℕ → List ℕ → List ℕ
swapped i j d = set (set d i (get_or d j 0)) j (get_or d i 0)

pub length-swapped : (i j : ℕ) (d : List ℕ) → length (swapped i j d) ≡ length d
unfolding swapped
length-swapped i j d = length-set (set d i (get_or d j 0)) j (get_or d i 0) ∙ length-set d i (get_or d j 0)

pub swapped-is : (d : List ℕ) (i j : ℕ) → i < length d → j < length d → swap d i j ≡ swapped i j d
unfolding swapped
swapped-is [] i j h k = refl
swapped-is (a ∷ d) i j h k = rw (get_or_default_zero (a ∷ d) i a h, get_or_default_zero (a ∷ d) j a k) refl

-- the test that finds row x
abbrev pub is : ℕ → ℕ → Bool
is x y = eqb y x

replaced : (x a : ℕ) (l : List ℕ) → In x l → get_or l (first_at (is x) l) 0 ∷ set l (first_at (is x) l) a ≡ x ∷ replace x a l
unfolding first_at
replaced x a [] m = absurd m
replaced x a (y ∷ l) m = go (eqb y x) refl m (replaced x a l)
  where
    go : (b : Bool) → eqb y x ≡ b → In x (y ∷ l) → (In x l → get_or l (first_at (is x) l) 0 ∷ set l (first_at (is x) l) a ≡ x ∷ replace x a l)
        → get_or (y ∷ l) (cond b 0 (suc (first_at (is x) l))) 0 ∷ set (y ∷ l) (cond b 0 (suc (first_at (is x) l))) a ≡ x ∷ cond b (a ∷ l) (y ∷ replace x a l)
    go true e m i = ap (λ (z : ℕ). z ∷ a ∷ l) (eqb-true y x e)
    go false e (inl q) i = absurd (eqb-false y x e (sym q))
    go false e (inr m) i = let r : get_or l (first_at (is x) l) 0 ∷ set l (first_at (is x) l) a ≡ x ∷ replace x a l = i m in cc

pub brought : (x : ℕ) (l : List ℕ) → In x l → swapped 0 (first_at (is x) l) l ≡ x ∷ without x l
unfolding first_at swapped
brought x [] m = absurd m
brought x (a ∷ l) m = go (eqb a x) refl m
  where
    go : (b : Bool) → eqb a x ≡ b → In x (a ∷ l) → swapped 0 (cond b 0 (suc (first_at (is x) l))) (a ∷ l) ≡ x ∷ cond b l (replace x a l)
    go true e m = ap (λ (z : ℕ). z ∷ l) (eqb-true a x e)
    go false e (inl q) = absurd (eqb-false a x e (sym q))
    go false e (inr m) = replaced x a l m

module _ (p : ℕ → Bool) (a : ℕ) where
  -- the first of M that passes is exchanged with a, and what follows M stays
  pub exchanged : (M T : List ℕ) → first_at p M < length M
      → get_or (M ++ T) (first_at p M) 0 ∷ set (M ++ T) (first_at p M) a ≡ found p a M ∷ (put p a M ++ T)
  unfolding first_at
  exchanged [] T h = absurd (omega arith)
  exchanged (m ∷ M) T h = go (p m) h (exchanged M T)
    where
      go : (b : Bool) → cond b 0 (suc (first_at p M)) < suc (length M)
          → (first_at p M < length M → get_or (M ++ T) (first_at p M) 0 ∷ set (M ++ T) (first_at p M) a ≡ found p a M ∷ (put p a M ++ T))
          → get_or (m ∷ (M ++ T)) (cond b 0 (suc (first_at p M))) 0 ∷ set (m ∷ (M ++ T)) (cond b 0 (suc (first_at p M))) a
          ≡ cond b m (found p a M) ∷ (cond b (a ∷ M) (m ∷ put p a M) ++ T)
      go true h i = refl
      go false h i =
          let r : get_or (M ++ T) (first_at p M) 0 ∷ set (M ++ T) (first_at p M) a ≡ found p a M ∷ (put p a M ++ T) = i (omega arith) in cc

  pub unfound : (M : List ℕ) → length M ≤ first_at p M → found p a M ∷ put p a M ≡ a ∷ M
  unfolding first_at
  unfound [] h = refl
  unfound (m ∷ M) h = go (p m) h (unfound M)
    where
      go : (b : Bool) → suc (length M) ≤ cond b 0 (suc (first_at p M)) → (length M ≤ first_at p M → found p a M ∷ put p a M ≡ a ∷ M)
          → cond b m (found p a M) ∷ cond b (a ∷ M) (m ∷ put p a M) ≡ a ∷ m ∷ M
      go true h i = absurd (omega arith)
      go false h i = let r : found p a M ∷ put p a M ≡ a ∷ M = i (omega arith) in cc
