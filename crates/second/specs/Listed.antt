-- A list of words applied to the store.
--   acts-with        the operation of a word, and then others
--   Applying         where the loop over words stands
--   applying_next, applying_end   it makes a turn, is over
--   applying_within     the next word keeps to the rows
-- Assumes nothing.
use Rattle.std.specs.Prelude.{◌≡◌, refl, ℕ, ◌+◌, ◌≤◌, ◌<◌, length, get_or, drop, Option, Some, None}
use Rattle.std.proofs.Common.{sym, subst, ◌∙◌, drop_of_length-le}
use Rattle.std.proofs.Math.Path.{ap}
use mathlib.Core.List.{List, []}
use Rattle.oplist.specs.declared.Op.{Op}
use Rattle.oplist.specs.Ops.{Within, Each}
use Rattle.oplist.specs.Word.{meaning}
use Rattle.oplist.specs.Listed.{ops_of, with_op, ops_of-drop}
use Rattle.phases.specs.Two.{acts}
use Rattle.second.specs.Store.{store_of}

acts-with : (v : Option Op) (os : List Op) (X : List (List ℕ)) → acts os (acts (with_op v []) X) ≡ acts (with_op v os) X
acts-with (Some o) os X = refl
acts-with None os X = refl

each_first : (P : Op → Type 0) (v : Option Op) (os : List Op) → Each P (with_op v os) → Each P (with_op v [])
each_first P (Some o) os h = (h.0, tt)
each_first P None os h = tt

each-rest : (P : Op → Type 0) (v : Option Op) (os : List Op) → Each P (with_op v os) → Each P os
each-rest P (Some o) os h = h.1
each-rest P None os h = h

pub record Applying (m l i : ℕ) (ws w₀ : List ℕ) (k : ℕ) (w : List ℕ) : Type 0 where
  pub within : Each (Within m) (ops_of (drop k ws))
  pub is : acts (ops_of (drop k ws)) (store_of m l i w) ≡ acts (ops_of ws) (store_of m l i w₀)

module _ {m l i : ℕ} {ws w₀ : List ℕ} where
  module _ {k : ℕ} {w : List ℕ} (a : Applying m l i ws w₀ k w) where
    pub applying_within : k < length ws → Each (Within m) (with_op (meaning (get_or ws k 0)) [])
    applying_within h =
        each_first (Within m) (meaning (get_or ws k 0)) (ops_of (drop (k + 1) ws)) (subst (Each (Within m)) (ops_of-drop ws k h) a.within)

    pub applying_next : {w' : List ℕ} → k < length ws → store_of m l i w' ≡ acts (with_op (meaning (get_or ws k 0)) []) (store_of m l i w)
        → Applying m l i ws w₀ (k + 1) w'
    applying_next h e = record {
      within = each-rest (Within m) (meaning (get_or ws k 0)) (ops_of (drop (k + 1) ws)) (subst (Each (Within m)) (ops_of-drop ws k h) a.within);
      is =
          ap (acts (ops_of (drop (k + 1) ws))) e ∙ acts-with (meaning (get_or ws k 0)) (ops_of (drop (k + 1) ws)) (store_of m l i w)
          ∙ ap (λ (os : List Op). acts os (store_of m l i w)) (sym (ops_of-drop ws k h)) ∙ a.is;
    }

    pub applying_end : length ws ≤ k → store_of m l i w ≡ acts (ops_of ws) (store_of m l i w₀)
    unfolding ops_of
    applying_end h = ap (λ (vs : List ℕ). acts (ops_of vs) (store_of m l i w)) (sym (drop_of_length-le ws h)) ∙ a.is
