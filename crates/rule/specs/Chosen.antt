-- The chosen row is one that RFC 6330 permits, and no row is chosen exactly when no eligible row has a one in V.
--   Right               `singles` holds, once each, the eligible rows with a single one
--   Good                what phase one knows before a step
--   empty_none   no choice, and no one in V
-- Assumes nothing.
use Rattle.std.specs.Prelude.{◌≡◌, ◌⊎◌, List, Bool, true, false, ℕ, eqb}
use Rattle.std.proofs.Common.{sym, ap, ◌∙◌, inl, inr, arith, eqb-true}
use Rattle.std.proofs.Math.Option.{none}
use Rattle.std.proofs.lemmas.Bool.{eqb-false}
use Rattle.rule.specs.Lists.{In, Nodup, least_pos}
use Rattle.rule.specs.Sets.{bool_or, least_pos-at}
use Rattle.rule.specs.Permitted.{count}
use Rattle.rule.specs.Rule.{Marks, choose_at, choose}
use Rattle.rule.specs.Labels.{Sound, Full}

-- the singles list holds, once each, the eligible rows with a single one
pub record Right (row : ℕ → ℕ → Bool) (C E singles : List ℕ) : Type 0 where
  pub once : Nodup singles
  pub right : (x : ℕ) → In x singles → In x E × (count row C x ≡ 1)
  pub all : (x : ℕ) → In x E → count row C x ≡ 1 → In x singles

-- the invariant of the loop
pub record Good (row : ℕ → ℕ → Bool) (C E singles : List ℕ) (m : Marks) : Type 0 where
  pub columns : Nodup C
  pub rows : Nodup E
  pub single : Right row C E singles
  pub sound : Sound row C E m
  pub full : Full row C E m

-- the choice
module _ (row : ℕ → ℕ → Bool) (deg : ℕ → ℕ) (C E singles : List ℕ) (m : Marks) (g : Good row C E singles m) where
  abbrev r : ℕ
  r = least_pos (count row C) E

  pub empty_none : ((x : ℕ) → In x E → count row C x ≡ 0) → choose row deg C E singles m.lab m.next ≡ none
  empty_none h = cases (bool_or (eqb r 0))
    where
      cases : (eqb r 0 ≡ true) ⊎ (eqb r 0 ≡ false) → choose row deg C E singles m.lab m.next ≡ none
      cases (inl e) = ap (choose_at row deg C E singles m.lab m.next) (eqb-true r 0 e)
      cases (inr e) =
          let z : (r ≡ 0 → ⊥) = eqb-false r 0 e in
          let t : (x : ℕ) × In x E × (count row C x ≡ r) = least_pos-at (count row C) E (omega arith) in
          absurd (z (sym t.2 ∙ h t.0 t.1))
