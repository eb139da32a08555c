-- The tests of a call, as the code makes them.
--   Sofar            the entries before k are 0 or 1 or not: what the test knows at its turn
--   sofar_start, sofar_next, sofar_bad, sofar_end   it begins, passes such an entry, passes another, is over
--   entered-front, entered-back   the test of both decides
-- Assumes nothing.
use Rattle.std.specs.Prelude.{◌≡◌, refl, Bool, ◌&&◌, ℕ, ◌+◌, ◌*◌, ◌-◌, ◌≤◌, ◌<◌, leb, length, get_or, take, drop}
use Rattle.std.proofs.Math.Path.{sym, ap}
use Rattle.std.proofs.Common.{◌∙◌, le-leb, drop_of_length-le}
use Rattle.std.proofs.Math.Bool.{true, false}
use mathlib.Core.List.{List}
use native.Mathlib.Omega.{arith}
use Rattle.std.proofs.lemmas.Bool.{lt-leb}
use Rattle.std.proofs.Math.ListN.{length-drop}
use Rattle.std.proofs.Math.Seq.{take_all}
use Rattle.loops.specs.Part.{drop-next}
use Rattle.call.specs.Call.{bitwise, entered}

pub record Sofar (xs : List ℕ) (fine : Bool) (k : ℕ) : Type 0 where
  pub within : k ≤ length xs
  pub is : bitwise xs ≡ (fine && bitwise (drop k xs))

pub sofar_start : (xs : List ℕ) → Sofar xs true 0
sofar_start xs = record { within = omega arith; is = refl }

and_false : (b : Bool) → (b && false) ≡ false
and_false true = refl
and_false false = refl

and_true : (b : Bool) → (b && true) ≡ b
and_true true = refl
and_true false = refl

module _ {xs : List ℕ} {fine : Bool} {k : ℕ} (s : Sofar xs fine k) where
  bitwise-next : k < length xs → bitwise xs ≡ (fine && (leb (get_or xs k 0) 1 && bitwise (drop (k + 1) xs)))
  unfolding bitwise
  bitwise-next h = s.is ∙ ap (λ (l : List ℕ). fine && bitwise l) (drop-next xs k h)

  pub sofar_next : k < length xs → get_or xs k 0 ≤ 1 → Sofar xs fine (k + 1)
  sofar_next h e = record { within = omega arith; is = rw (le-leb _ _ e) at (bitwise-next h) }

  pub sofar_bad : k < length xs → 1 < get_or xs k 0 → Sofar xs false (k + 1)
  sofar_bad h e = record { within = omega arith; is = (rw (lt-leb _ _ e) at (bitwise-next h)) ∙ and_false fine }

  pub sofar_end : length xs ≤ k → fine ≡ bitwise xs
  unfolding bitwise
  sofar_end h = sym (s.is ∙ ap (λ (l : List ℕ). fine && bitwise l) (drop_of_length-le xs h) ∙ and_true fine)

module _ (l s h : ℕ) (bits : List ℕ) where
  pub entered-front : {b : Bool} → b ≡ bitwise (take (s * l) bits) → b ≡ false → false ≡ entered l s h bits
  unfolding entered
  entered-front {b} e f =
      let g : bitwise (take (s * l) bits) ≡ false = sym e ∙ f in
      rw g

  pub entered-back : {b d : Bool} → b ≡ bitwise (take (s * l) bits) → b ≡ true → d ≡ bitwise (take (length bits - (s + h) * l) (drop ((s + h) * l) bits)) → d ≡ entered l s h bits
  unfolding entered
  entered-back {b} {d} e f i =
      let g : bitwise (take (s * l) bits) ≡ true = sym e ∙ f in
      let q = take_all (length bits - (s + h) * l) (drop ((s + h) * l) bits) (rw length-drop (omega arith)) in
      rw g (i ∙ ap bitwise q)
