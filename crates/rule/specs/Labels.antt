-- The labels: two columns of V with one label are connected in the grounded graph, and the ends of a pair have one label.
--   or_cases, or_false, or_l, or_r, and_both, and_cases   truth values
--   Same                          two columns have one label
--   Sound, Full                   the two halves of what labels say
--   sound_shrinks, two   how they are kept
-- Assumes nothing.
use Rattle.std.specs.Prelude.{◌≡◌, refl, ◌⊎◌, List, [], ◌∷◌, Bool, true, false, ◌&&◌, ◌||◌, ℕ, ◌<◌, length}
use Rattle.std.proofs.Common.{inl, inr, arith}
use Rattle.rule.specs.Lists.{In}
use Rattle.rule.specs.Sets.{tf}
use Rattle.rule.specs.Permitted.{ones}
use Rattle.rule.specs.Rule.{Marks}
use Rattle.rule.specs.Ground.{Way, way_shrinks, Shrinks}

pub or_cases : (a b : Bool) → (a || b) ≡ true → (a ≡ true) ⊎ (b ≡ true)
or_cases true b e = inl refl
or_cases false b e = inr e

pub or_false : (a b : Bool) → (a || b) ≡ false → (a ≡ false) × (b ≡ false)
or_false true b e = absurd (tf refl e)
or_false false b e = (refl, e)

pub or_l : (a b : Bool) → a ≡ true → (a || b) ≡ true
or_l a b e = rw e

pub or_r : (a b : Bool) → b ≡ true → (a || b) ≡ true
or_r true b e = refl
or_r false b e = e

pub and_both : (a b : Bool) → a ≡ true → b ≡ true → (a && b) ≡ true
and_both true b e f = f
and_both false b e f = e

pub and_cases : (a b : Bool) → (a && b) ≡ true → (a ≡ true) × (b ≡ true)
and_cases true b e = (refl, e)
and_cases false b e = absurd (tf e refl)

abbrev pub Same : (ℕ → ℕ) → ℕ → ℕ → Type 0
Same lab a b = (lab a ≡ lab b) × (lab a ≡ 0 → ⊥)

-- sound: one label means connected
pub record Sound (row : ℕ → ℕ → Bool) (C E : List ℕ) (m : Marks) : Type 0 where
  pub started : 0 < m.next
  pub fresh : (c : ℕ) → m.lab c < m.next
  pub connected : (a b : ℕ) → In a C → In b C → Same m.lab a b → Way row C E a b

abbrev pub Full : (ℕ → ℕ → Bool) → List ℕ → List ℕ → Marks → Type 0
Full row C E m = (x p q : ℕ) → In x E → ones row C x ≡ p ∷ q ∷ [] → Same m.lab p q

pub sound_shrinks : (row : ℕ → ℕ → Bool) (C E C' E' : List ℕ) (m : Marks) → Shrinks row C E C' E' → Sound row C E m → Sound row C' E' m
sound_shrinks row C E C' E' m s h = record {
  started = h.started;
  fresh = h.fresh;
  connected = λ a b ma mb e. way_shrinks row C E C' E' s (h.connected a b (s.columns a ma) (s.columns b mb) e);
}

pub two : (l : List ℕ) → length l ≡ 2 → (a : ℕ) × (b : ℕ) × (l ≡ a ∷ b ∷ [])
two [] e = absurd (omega arith)
two (a ∷ []) e = absurd (omega arith)
two (a ∷ b ∷ []) e = (a, b, refl)
two (a ∷ b ∷ c ∷ l) e = absurd (omega arith)
