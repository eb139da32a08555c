-- What a choice gives the step that follows.
--   Chosen            the row is eligible, and has as many ones in V as the least that an eligible row has
--   chosen_least      a row that the rule chooses is such a row
-- Assumes nothing.
use Rattle.std.specs.Prelude.{◌≡◌, List, Bool, ℕ, ◌≤◌, ◌<◌}
use Rattle.std.proofs.Math.Option.{some}
use Rattle.std.proofs.Common.{arith}
use Rattle.rule.specs.Lists.{In, least_pos}
use Rattle.rule.specs.Permitted.{count, Permitted}
use Rattle.rule.specs.Sets.{least_pos_le, least_pos-at}
use Rattle.rule.specs.Rule.{Marks, choose}
use Rattle.rule.specs.Chosen.{Good}
use Rattle.rule.proofs.Chosen.{chosen_permitted}

-- what is permitted has as many ones as the least
permitted_least : (row : ℕ → ℕ → Bool) (deg : ℕ → ℕ) (C E : List ℕ) (x : ℕ) → Permitted row deg C E x → count row C x ≡ least_pos (count row C) E
permitted_least row deg C E x p =
    let c : 0 < count row C x = omega (arith, p.least.positive, p.exactly) in
    let a : (0 < least_pos (count row C) E) × (least_pos (count row C) E ≤ count row C x) = least_pos_le (count row C) E x p.eligible c in
    let t : (y : ℕ) × In y E × (count row C y ≡ least_pos (count row C) E) = least_pos-at (count row C) E a.0 in
    omega (arith, a.1, p.exactly, t.2, p.least.least t.0 t.1 (omega (arith, t.2, a.0)))

pub record Chosen (row : ℕ → ℕ → Bool) (C E : List ℕ) (x : ℕ) : Type 0 where
  pub eligible : In x E
  pub positive : 0 < count row C x
  pub least : count row C x ≡ least_pos (count row C) E

pub chosen_least : (row : ℕ → ℕ → Bool) (deg : ℕ → ℕ) (C E s : List ℕ) (m : Marks) → Good row C E s m → (x : ℕ) → choose row deg C E s m.lab m.next ≡ some x
    → Chosen row C E x
chosen_least row deg C E s m g x e =
    let p : Permitted row deg C E x = chosen_permitted row deg C E s m g x e in
    record { eligible = p.eligible; positive = omega (arith, p.least.positive, p.exactly); least = permitted_least row deg C E x p }
