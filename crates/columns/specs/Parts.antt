-- What a step takes of the rows and of the columns that were arranged for it.
--   in_without, length_without     the rows that stay eligible were eligible, and are one fewer
--   length_rest, length_gone       how many columns are left of V, and how many leave it besides the pivot
--   pivot_at, rest_part, gone_part the arranged columns w cut at place k: first the pivot, then what is left, from k on what is gone
-- Assumes nothing.
use Rattle.std.specs.Prelude.{◌≡◌, refl, ◌⊎◌, Bool, true, false, cond, List, [], ◌∷◌, ℕ, suc, ◌+◌, ◌-◌, ◌<◌, ◌≤◌, length, get_or, take, drop, eqb}
use Rattle.std.proofs.Common.{ap, ap₂, ◌∙◌, inl, inr, ⊎_elim, arith, length-drop, length-append, take_at, drop_at, length-take-le}
use Rattle.std.proofs.Math.Seq.{take-length}
use Rattle.rule.specs.Lists.{In}
use Rattle.rule.specs.Permitted.{count}
use Rattle.rule.specs.Sets.{length-filter}
use Rattle.rule.specs.Rule.{replace, without, found, put, lacks, swept, filled, rev, arrange}
use Rattle.columns.specs.Sweep.{laid, length-put}

in_replace : (x a z : ℕ) (l : List ℕ) → In z (replace x a l) → (z ≡ a) ⊎ In z l
in_replace x a z [] m = absurd m
in_replace x a z (y ∷ l) m = go (eqb y x) m (in_replace x a z l)
  where
    go : (b : Bool) → In z (cond b (a ∷ l) (y ∷ replace x a l)) → (In z (replace x a l) → (z ≡ a) ⊎ In z l) → (z ≡ a) ⊎ In z (y ∷ l)
    go true (inl e) i = inl e
    go true (inr m) i = inr (inr m)
    go false (inl e) i = inr (inl e)
    go false (inr m) i = ⊎_elim (λ e. inl e) (λ k. inr (inr k)) (i m)

pub in_without : (x z : ℕ) (l : List ℕ) → In z (without x l) → In z l
in_without x z [] m = m
in_without x z (a ∷ l) m = go (eqb a x) m
  where
    go : (b : Bool) → In z (cond b l (replace x a l)) → In z (a ∷ l)
    go true m = inr m
    go false m = in_replace x a z l m

length-replace : (x a : ℕ) (l : List ℕ) → length (replace x a l) ≡ length l
length-replace x a [] = refl
length-replace x a (y ∷ l) = go (eqb y x) (length-replace x a l)
  where
    go : (b : Bool) → length (replace x a l) ≡ length l → length (cond b (a ∷ l) (y ∷ replace x a l)) ≡ suc (length l)
    go true i = refl
    go false i = ap suc i

pub length_without : (x : ℕ) (l : List ℕ) → 0 < length l → length (without x l) + 1 ≡ length l
length_without x [] h = absurd (omega arith)
length_without x (a ∷ l) h = go (eqb a x)
  where
    go : (b : Bool) → length (cond b l (replace x a l)) + 1 ≡ suc (length l)
    go true = omega arith
    go false = omega (arith, length-replace x a l)

length-rev : (l : List ℕ) → length (rev l) ≡ length l
length-rev [] = refl
length-rev (a ∷ l) = omega (arith, length-append (rev l) (a ∷ []), length-rev l)

module _ (p : ℕ → Bool) where
  length-swept : (M R : List ℕ) → length (swept p M R) ≡ length M
  length-swept [] R = refl
  length-swept (m ∷ M) R = go (p m) (length-swept M (put (lacks p) m R)) (length-swept M R)
    where
      go : (b : Bool) → length (swept p M (put (lacks p) m R)) ≡ length M → length (swept p M R) ≡ length M
          → length (cond b (found (lacks p) m R ∷ swept p M (put (lacks p) m R)) (m ∷ swept p M R)) ≡ suc (length M)
      go true i j = ap suc i
      go false i j = ap suc j

  length-filled : (M R : List ℕ) → length (filled p M R) ≡ length R
  length-filled [] R = refl
  length-filled (m ∷ M) R = go (p m) (length-filled M (put (lacks p) m R)) (length-filled M R)
    where
      go : (b : Bool) → length (filled p M (put (lacks p) m R)) ≡ length (put (lacks p) m R) → length (filled p M R) ≡ length R
          → length (cond b (filled p M (put (lacks p) m R)) (filled p M R)) ≡ length R
      go true i j = i ∙ length-put (lacks p) m R
      go false i j = j

module _ (row : ℕ → ℕ → Bool) (v : List ℕ) (x r : ℕ) (e : r ≡ count row v x) (h : 0 < r) where
  lengths : (length (arrange row v x).rest + r ≡ length v) × (length (arrange row v x).gone + 1 ≡ r)
  lengths = go v e
    where
      go : (u : List ℕ) → r ≡ count row u x → (length (arrange row u x).rest + r ≡ length u) × (length (arrange row u x).gone + 1 ≡ r)
      go [] q = absurd (omega arith)
      go (a ∷ C) q =
          let k : ℕ = length C - (count row (a ∷ C) x - 1) in
          let M₀ : List ℕ = cond (row x a) (take k C) (put (row x) a (take k C)) in
          let n : count row (a ∷ C) x ≤ suc (length C) = length-filter (row x) (a ∷ C) in
          let m : length (cond (row x a) (take (length C - (count row (a ∷ C) x - 1)) C) (put (row x) a (take (length C - (count row (a ∷ C) x - 1)) C)))
          ≡ length C - (count row (a ∷ C) x - 1) = middle (row x a) (take k C) ∙ length-take-le k C (omega arith) in (
            omega (arith, length-swept (row x) M₀ (rev (drop k C)), m),
            omega (arith, length-rev (filled (row x) M₀ (rev (drop k C))), length-filled (row x) M₀ (rev (drop k C)), length-rev (drop k C), length-drop k C),
          )
        where
          middle : (b : Bool) (M : List ℕ) → length (cond b M (put (row x) a M)) ≡ length M
          middle true M = refl
          middle false M = length-put (row x) a M

  pub length_rest : length (arrange row v x).rest + r ≡ length v
  length_rest = lengths.0

  pub length_gone : length (arrange row v x).gone + 1 ≡ r
  length_gone = lengths.1

  module _ (w : List ℕ) (is : w ≡ laid (arrange row v x)) where
    pub pivot_at : get_or w 0 0 ≡ (arrange row v x).pivot
    pivot_at = ap (λ (l : List ℕ). get_or l 0 0) is

    module _ (k : ℕ) (cut : k ≡ length v - (r - 1)) where
      pub rest_part : take (k - 1) (drop 1 w) ≡ (arrange row v x).rest
      rest_part = ap (λ (l : List ℕ). take (k - 1) (drop 1 l)) is ∙ take_at (arrange row v x).rest (arrange row v x).gone (k - 1) (omega (arith, lengths.0))

      from_cut : drop k w ≡ (arrange row v x).gone
      from_cut =
          let f : k ≡ suc (k - 1) = omega (arith, lengths.0) in
          ap₂ (λ (i : ℕ) (l : List ℕ). drop i l) f is ∙ drop_at (arrange row v x).rest (arrange row v x).gone (k - 1) (omega (arith, lengths.0))

      pub gone_part : (n : ℕ) → n ≡ length v → take (n - k) (drop k w) ≡ (arrange row v x).gone
      gone_part n q =
          let f : n - k ≡ length (arrange row v x).gone = omega (arith, lengths.0, lengths.1) in
          ap₂ (λ (i : ℕ) (l : List ℕ). take i l) f from_cut ∙ take-length (arrange row v x).gone
