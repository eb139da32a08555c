-- Steps that record operations.
--   Out           the state that a step leaves, and the operations it records, in order
--   done, says    a step that records nothing, and one that records one operation
--   and_then       a step after another, its operations after those of the other
--   pick          one of two, by a test
--   for_out        a counted loop of such steps
--   Run, run      a state beside the journal in which operations are noted, and a step over both
--   at            a state and a journal, side by side
--   run_for       a loop over both does what the loop of steps does
-- Assumes nothing.
use Prim.Native.Nat.{ℕ, zero, suc, ◌-◌}
use Rattle.std.specs.Prelude.{◌≡◌, Bool, true, false, List, [], ◌∷◌, ◌++◌}
use Rattle.std.proofs.Math.Path.{refl}
use Rattle.loops.specs.Loop.{for_to, up}
use Rattle.loops.specs.Room.{notes, notes-append}

pub record Out (O S : Type 0) : Type 0 where
  pub st : S
  pub ops : List O

pub record Run (J S : Type 0) : Type 0 where
  pub st : S
  pub log : J

module _ {O S : Type 0} where
  abbrev pub done : S → Out O S
  done s = record { st = s; ops = [] }

  abbrev pub says : S → O → Out O S
  says s o = record { st = s; ops = o ∷ [] }

  abbrev pub and_then : Out O S → (S → Out O S) → Out O S
  and_then o f = record { st = (f o.st).st; ops = o.ops ++ (f o.st).ops }

  abbrev pub pick : Bool → Out O S → Out O S → Out O S
  pick true a b = a
  pick false a b = b

  -- f lo, f (lo + 1), .., f (hi - 1), one after the other
  unfoldable pub for_out : ℕ → ℕ → (ℕ → S → Out O S) → S → Out O S
  for_out lo hi f s = for_to lo hi (λ (k : ℕ) (o : Out O S). and_then o (f k)) (done s)

abbrev pub at : {J S : Type 0} → S → J → Run J S
at s g = record { st = s; log = g }

module _ {O J S : Type 0} (note : J → O → J) where
  abbrev pub run : (S → Out O S) → Run J S → Run J S
  run f r = record { st = (f r.st).st; log = notes note r.log (f r.st).ops }

  run_up : (lo n : ℕ) (f : ℕ → S → Out O S) (s : S) (g : J)
      → up lo n (λ (k : ℕ). run (f k)) (at s g) ≡ run (λ (t : S). up lo n (λ (k : ℕ) (o : Out O S). and_then o (f k)) (done t)) (at s g)
  unfolding up notes
  run_up lo zero f s g = refl
  run_up lo (suc n) f s g = rw (run_up lo n f s g, notes-append)

  pub run_for : (lo hi : ℕ) (f : ℕ → S → Out O S) (s : S) (g : J)
      → for_to lo hi (λ (k : ℕ). run (f k)) (at s g) ≡ run (for_out lo hi f) (at s g)
  unfolding for_to for_out
  run_for lo hi f s g = run_up lo (hi - lo) f s g
