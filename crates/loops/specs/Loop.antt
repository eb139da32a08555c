-- Counted loops.
--   up lo n f s       s after n turns from lo on
--   for_to lo hi f s   s after f lo, f (lo + 1), .., f (hi - 1), in this order
--   for_none, for_next   from lo to lo there is no turn; up to k + 1 there is the turn of k after those up to k
--   At                where such a loop stands at its test: the invariant of every counted loop
--   at-start, at_next, at_end   the loop begins, makes a turn, is over
--   left_early        a loop that is left in a state which no later turn would change
-- Assumes nothing.
use Prim.Native.Nat.{ℕ, zero, suc, ◌+◌, ◌-◌, ◌≤◌, ◌<◌}
use native.Mathlib.Omega.{arith}
use Rattle.std.specs.Prelude.{◌≡◌}
use Rattle.std.proofs.Common.{sym, ap, ◌∙◌}

module _ {S : Type 0} where
  -- n turns from lo on
  unfoldable pub up : ℕ → ℕ → (ℕ → S → S) → S → S
  up lo zero f s = s
  up lo (suc n) f s = f (lo + n) (up lo n f s)

  unfoldable pub for_to : ℕ → ℕ → (ℕ → S → S) → S → S
  for_to lo hi f s = up lo (hi - lo) f s

  pub for_none : (lo : ℕ) (f : ℕ → S → S) (s : S) → for_to lo lo f s ≡ s
  unfolding for_to up
  for_none lo f s = let e : lo - lo ≡ 0 = omega arith in rw e

  pub for_next : (lo k : ℕ) (f : ℕ → S → S) (s : S) → lo ≤ k → for_to lo (k + 1) f s ≡ f k (for_to lo k f s)
  unfolding for_to up
  for_next lo k f s h =
      let e : k + 1 - lo ≡ suc (k - lo) = omega arith in
      let d : lo + (k - lo) ≡ k = omega arith in
      rw (e, d)

  -- k is next, and s is what the turns so far made of s₀
  pub record At (lo hi : ℕ) (f : ℕ → S → S) (s₀ : S) (k : ℕ) (s : S) : Type 0 where
    pub low : lo ≤ k
    pub high : k ≤ hi
    pub is : s ≡ for_to lo k f s₀

  pub at-start : (lo hi : ℕ) (f : ℕ → S → S) (s : S) → lo ≤ hi → At lo hi f s lo s
  at-start lo hi f s h = record { low = omega arith; high = h; is = sym (for_none lo f s) }

  pub at_next : {lo hi k : ℕ} {f : ℕ → S → S} {s₀ s s' : S} → At lo hi f s₀ k s → k < hi → s' ≡ f k s → At lo hi f s₀ (k + 1) s'
  at_next {lo} {hi} {k} {f} {s₀} i h e =
      record { low = omega arith; high = omega arith; is = e ∙ ap (f k) i.is ∙ sym (for_next lo k f s₀ i.low) }

  pub at_end : {lo hi k : ℕ} {f : ℕ → S → S} {s₀ s : S} → At lo hi f s₀ k s → hi ≤ k → s ≡ for_to lo hi f s₀
  at_end {lo} {hi} {k} {f} {s₀} i h =
      let e : k ≡ hi = omega arith in
      i.is ∙ ap (λ (n : ℕ). for_to lo n f s₀) e

  -- from a state that no turn changes, more turns do nothing
  stays : (lo k n : ℕ) (f : ℕ → S → S) (s₀ t : S) → lo ≤ k → for_to lo k f s₀ ≡ t → ((i : ℕ) → f i t ≡ t) → for_to lo (k + n) f s₀ ≡ t
  stays lo k zero f s₀ t h e p = let z : k + 0 ≡ k = omega arith in rw z e
  stays lo k (suc n) f s₀ t h e p =
      let z : k + suc n ≡ (k + n) + 1 = omega arith in
      rw (z, for_next lo (k + n) f s₀ (omega arith), stays lo k n f s₀ t h e p) (p (k + n))

  pub left_early : {lo hi k : ℕ} {f : ℕ → S → S} {s₀ s : S} (t : S) → At lo hi f s₀ k s → k < hi → f k s ≡ t → ((i : ℕ) → f i t ≡ t) → for_to lo hi f s₀ ≡ t
  left_early {lo} {hi} {k} {f} {s₀} {s} t i h e p =
      let z : hi ≡ (k + 1) + (hi - (k + 1)) = omega arith in
      let l : lo ≤ k = i.low in
      let g : for_to lo (k + 1) f s₀ ≡ t = for_next lo k f s₀ l ∙ ap (f k) (sym i.is) ∙ e in
      ap (λ (n : ℕ). for_to lo n f s₀) z ∙ stays lo (k + 1) (hi - (k + 1)) f s₀ t (omega arith) g p
