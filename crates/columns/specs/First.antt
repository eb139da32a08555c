-- The first member of a list that passes a test, by its place: what a search from the front finds.
--   first_at p l       the place of the first member of l that passes p, the length of l if none does
--   first-position    it is the library's `position_or_len`
--   first_found, first_some, first_missing   it is the place that `position` finds, and beyond the list where `position` finds none
--   first-filter, first-none, head-filter         the members that pass begin with it
--   first_in          it is within the list if a member passes
-- Assumes nothing.
use Rattle.std.specs.Prelude.{◌≡◌, Bool, drop, ltb, position, Some, None, IsSome}
use Rattle.std.specs.List.{position_or_len}
use Rattle.std.proofs.lemmas.List.Recursion.{is_position_or_len}
use Rattle.std.proofs.Math.Path.{refl}
use Rattle.std.proofs.Common.{sym, ap, ◌∙◌, inl, inr}
use borrow.Author.Tests.{ltb-true, ltb-false, lt-ltb}
use mathlib.Core.List.{List, [], ◌∷◌}
use Rattle.std.proofs.Math.Bool.{true, false, cond}
use Prim.Native.Nat.{ℕ, suc, ◌≤◌, ◌<◌}
use native.Mathlib.Omega.{arith}
use Rattle.std.proofs.Math.ListN.{length, get_or}
use Rattle.rule.specs.Lists.{In, filter, keep, head}
use Rattle.rule.specs.Sets.{tf}

unfoldable pub first_at : (ℕ → Bool) → List ℕ → ℕ
first_at p [] = 0
first_at p (a ∷ l) = cond (p a) 0 (suc (first_at p l))

module _ (p : ℕ → Bool) where
  pub first-position : (l : List ℕ) → first_at p l ≡ position_or_len p l
  unfolding first_at
  first-position l = is_position_or_len (first_at p) p refl (λ x xs. ap (cond (p x) 0) (omega arith)) l

  pub first_found : (l : List ℕ) (k : ℕ) → Some k ≡ position p l → (k ≡ first_at p l) × (k < length l)
  first_found l k e = go (ltb (position_or_len p l) (length l)) refl e
    where
      go : (b : Bool) → ltb (position_or_len p l) (length l) ≡ b → Some k ≡ cond b (Some (position_or_len p l)) None → (k ≡ first_at p l) × (k < length l)
      go true t e = let i : k ≡ position_or_len p l = cc in (i ∙ sym (first-position l), omega (arith, ltb-true (position_or_len p l) (length l) t))
      go false t e = absurd (cc)

  pub first_some : (l : List ℕ) → first_at p l < length l → IsSome (position p l)
  first_some l h =
      let t : ltb (position_or_len p l) (length l) ≡ true = lt-ltb (position_or_len p l) (length l) (omega (arith, first-position l)) in rw t

  pub first_missing : (l : List ℕ) → None ≡ position p l → length l ≤ first_at p l
  first_missing l e = go (ltb (position_or_len p l) (length l)) refl e
    where
      go : (b : Bool) → ltb (position_or_len p l) (length l) ≡ b → None ≡ cond b (Some (position_or_len p l)) None → length l ≤ first_at p l
      go true t e = absurd (cc)
      go false t e = omega (arith, ltb-false (position_or_len p l) (length l) t, first-position l)

  pub first-filter : (l : List ℕ) → first_at p l < length l → filter p l ≡ get_or l (first_at p l) 0 ∷ filter p (drop (suc (first_at p l)) l)
  unfolding first_at
  first-filter [] h = absurd (omega arith)
  first-filter (a ∷ l) h = go (p a) h (first-filter l)
    where
      go : (b : Bool) → cond b 0 (suc (first_at p l)) < suc (length l)
          → (first_at p l < length l → filter p l ≡ get_or l (first_at p l) 0 ∷ filter p (drop (suc (first_at p l)) l))
          → keep b a (filter p l) ≡ get_or (a ∷ l) (cond b 0 (suc (first_at p l))) 0 ∷ filter p (drop (suc (cond b 0 (suc (first_at p l)))) (a ∷ l))
      go true h i = refl
      go false h i = i (omega arith)

  pub first-none : (l : List ℕ) → length l ≤ first_at p l → filter p l ≡ []
  unfolding first_at
  first-none [] h = refl
  first-none (a ∷ l) h = go (p a) h (first-none l)
    where
      go : (b : Bool) → suc (length l) ≤ cond b 0 (suc (first_at p l)) → (length l ≤ first_at p l → filter p l ≡ []) → keep b a (filter p l) ≡ []
      go true h i = absurd (omega arith)
      go false h i = i (omega arith)

  pub head-filter : (l : List ℕ) → head (drop (first_at p l) l) ≡ head (filter p l)
  unfolding first_at
  head-filter [] = refl
  head-filter (a ∷ l) = go (p a) (head-filter l)
    where
      go : (b : Bool) → head (drop (first_at p l) l) ≡ head (filter p l) → head (drop (cond b 0 (suc (first_at p l))) (a ∷ l)) ≡ head (keep b a (filter p l))
      go true i = refl
      go false i = i

  pub first_in : (l : List ℕ) (x : ℕ) → In x l → p x ≡ true → first_at p l < length l
  unfolding first_at
  first_in [] x m e = absurd m
  first_in (a ∷ l) x m e = go (p a) refl m (first_in l x)
    where
      go : (b : Bool) → p a ≡ b → In x (a ∷ l) → (In x l → p x ≡ true → first_at p l < length l) → cond b 0 (suc (first_at p l)) < suc (length l)
      go true f m i = omega arith
      go false f (inl q) i = absurd (tf e (ap p q ∙ f))
      go false f (inr m) i = omega (arith, i m e)
