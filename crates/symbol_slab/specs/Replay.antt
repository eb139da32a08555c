-- What replay and undo answer, and the slab that they leave. m is the number of rows, l that of symbols, t that of bytes a row; `b` says whether
-- there is an order.
--   Answer, Check      what a call answers, and what its checks say
--   number             the number of an answer
--   row_of              the row in which a symbol is then read
--   read_by             the answer of a replay that is done: symbols are read by the order, or in place where there is none
--   slab_shaped         the bounds on the numbers, and the slab's size
--   checked            the checks, in the order in which they refuse
--   Outcome, outcome   an answer beside a slab
--   pick_check, pick_outcome     one of two, by a test
--   replayed, undone   answer and slab
--   replayed_by, undone_by       the same, by what the checks say
--   replay_number, undo_number   the number of the answer, by what is refused first
--   Replayed, Undone   what `replay` and `undo` promise of their answer r and the slab u that they leave
--   replay_met, undo_met       the answer and the slab keep the promise
--   replay_kept, undo_kept     so do those of each refusal, which leaves the slab as it was
-- Assumes nothing.
use Rattle.std.specs.Prelude.{◌≡◌, Bool, ◌&&◌, ℕ, ◌*◌, leb, eqb, length, get_or, Result, Ok, Err}
use Rattle.std.proofs.Math.Path.{refl, ap}
use Rattle.std.proofs.Common.{◌∙◌}
use Rattle.std.proofs.Math.Bool.{true, false}
use mathlib.Core.List.{List}
use Rattle.bounds.specs.Bounds.{most_bytes}
use Rattle.oplist.specs.Listed.{ops_of}
use Rattle.oplist.specs.Check.{shape_fine, list_fine, order_fine, undoable}
use Rattle.algebra.specs.Rows.{undo}
use Rattle.algebra.specs.Flat.{acts}
use Rattle.symbol_slab.specs.declared.Place.{Place}
use Rattle.symbol_slab.specs.declared.Place.TheVariants.{ByOrder, InPlace}
use Rattle.symbol_slab.specs.declared.Refusal.{Refusal}
use Rattle.symbol_slab.specs.declared.Refusal.TheVariants.{BadShape, BadList, NotUndoable}

-- the place where symbols are then read, or why the call was refused
abbrev pub Answer : Type 0
Answer = Result Place Refusal

-- that the checks passed, or why the call is refused
abbrev pub Check : Type 0
Check = Result (Unit {0}) Refusal

-- 0: done; 2: a bound or a length; 8: a list or an order; 9: a row multiplied by zero
abbrev pub number : Answer → ℕ
number (Ok p) = 0
number (Err BadShape) = 2
number (Err BadList) = 8
number (Err NotUndoable) = 9

-- symbol q is read through the order, or at its own place
abbrev pub row_of : Answer → List ℕ → ℕ → ℕ
row_of (Ok ByOrder) xs q = get_or xs q 0
row_of (Ok InPlace) xs q = q
row_of (Err e) xs q = q

-- after replay, by whether there is an order
abbrev pub read_by : Bool → Answer
read_by true = Ok ByOrder
read_by false = Ok InPlace

-- n operations, and a slab of that many bytes
unfoldable pub slab_shaped : ℕ → ℕ → ℕ → ℕ → ℕ → Bool
slab_shaped m l t n size = shape_fine m l n && (leb 1 t && (leb t most_bytes && eqb size (m * t)))

abbrev pub pick_check : Bool → Check → Check → Check
pick_check true a b = a
pick_check false a b = b

unfoldable pub checked : ℕ → ℕ → ℕ → List ℕ → Bool → List ℕ → ℕ → Check
checked m l t ws b xs size =
    pick_check (slab_shaped m l t (length ws) size) (pick_check (list_fine m ws && order_fine m l b xs) (Ok tt) (Err BadList)) (Err BadShape)

pub record Outcome : Type 0 where
  pub answer : Answer
  pub slab : List ℕ

abbrev pub outcome : Answer → List ℕ → Outcome
outcome a s = record { answer = a; slab = s }

abbrev pub pick_outcome : Bool → Outcome → Outcome → Outcome
pick_outcome true a b = a
pick_outcome false a b = b

abbrev pub replayed_by : Check → ℕ → List ℕ → Bool → List ℕ → Outcome
replayed_by (Ok u) t ws b s = outcome (read_by b) (acts t (ops_of ws) s)
replayed_by (Err e) t ws b s = outcome (Err e) s

unfoldable pub replayed : ℕ → ℕ → ℕ → List ℕ → Bool → List ℕ → List ℕ → Outcome
replayed m l t ws b xs s = replayed_by (checked m l t ws b xs (length s)) t ws b s

abbrev pub undone_by : Check → ℕ → List ℕ → List ℕ → Outcome
undone_by (Ok u) t ws s = pick_outcome (undoable (ops_of ws)) (outcome (Ok InPlace) (acts t (undo (ops_of ws)) s)) (outcome (Err NotUndoable) s)
undone_by (Err e) t ws s = outcome (Err e) s

unfoldable pub undone : ℕ → ℕ → ℕ → List ℕ → Bool → List ℕ → List ℕ → Outcome
undone m l t ws b xs s = undone_by (checked m l t ws b xs (length s)) t ws s

abbrev pick : Bool → ℕ → ℕ → ℕ
pick true a b = a
pick false a b = b

-- 2 before 8
unfoldable pub replay_number : ℕ → ℕ → ℕ → List ℕ → Bool → List ℕ → ℕ → ℕ
replay_number m l t ws b xs size = pick (slab_shaped m l t (length ws) size) (pick (list_fine m ws && order_fine m l b xs) 0 8) 2

-- 2 before 8 before 9
unfoldable pub undo_number : ℕ → ℕ → ℕ → List ℕ → Bool → List ℕ → ℕ → ℕ
undo_number m l t ws b xs size = pick (slab_shaped m l t (length ws) size) (pick (list_fine m ws && order_fine m l b xs) (pick (undoable (ops_of ws)) 0 9) 8) 2

pub record Replayed (m l t : ℕ) (ws : List ℕ) (b : Bool) (xs s : List ℕ) (r : Answer) (u : List ℕ) : Type 0 where
  pub is : outcome r u ≡ replayed m l t ws b xs s
  pub number_is : number r ≡ replay_number m l t ws b xs (length s)

pub record Undone (m l t : ℕ) (ws : List ℕ) (b : Bool) (xs s : List ℕ) (r : Answer) (u : List ℕ) : Type 0 where
  pub is : outcome r u ≡ undone m l t ws b xs s
  pub number_is : number r ≡ undo_number m l t ws b xs (length s)

module _ {m l t : ℕ} {ws : List ℕ} {b : Bool} {xs s : List ℕ} {r : Answer} {u : List ℕ} where
  pub replay_met : outcome r u ≡ replayed m l t ws b xs s → Replayed m l t ws b xs s r u
  unfolding replayed replay_number checked
  replay_met e =
      record {
        is = e;
        number_is = ap (λ (o : Outcome). number o.answer) e ∙ at (slab_shaped m l t (length ws) (length s)) (list_fine m ws && order_fine m l b xs) b;
      }
    where
      at : (p q c : Bool) → number (replayed_by (pick_check p (pick_check q (Ok tt) (Err BadList)) (Err BadShape)) t ws c s).answer ≡ pick p (pick q 0 8) 2
      at true true true = refl
      at true true false = refl
      at true false c = refl
      at false q c = refl

  -- by cases of the refusal, so that each is looked at by itself
  pub replay_kept : (e : Refusal) → outcome r u ≡ outcome (Err e) s → Err e ≡ checked m l t ws b xs (length s) → Replayed m l t ws b xs s r u
  unfolding replayed
  replay_kept e f g = replay_met (f ∙ (at e ∙ ap (λ (c : Check). replayed_by c t ws b s) g))
    where
      at : (e : Refusal) → outcome (Err e) s ≡ replayed_by (Err e) t ws b s
      at BadShape = refl
      at BadList = refl
      at NotUndoable = refl

  pub undo_met : outcome r u ≡ undone m l t ws b xs s → Undone m l t ws b xs s r u
  unfolding undone undo_number checked
  undo_met e =
      record {
        is = e;
        number_is = ap (λ (o : Outcome). number o.answer) e ∙ at (slab_shaped m l t (length ws) (length s)) (list_fine m ws && order_fine m l b xs);
      }
    where
      which : (c : Bool) (v : List ℕ) → number (pick_outcome c (outcome (Ok InPlace) v) (outcome (Err NotUndoable) s)).answer ≡ pick c 0 9
      which true v = refl
      which false v = refl

      at : (p q : Bool) → number (undone_by (pick_check p (pick_check q (Ok tt) (Err BadList)) (Err BadShape)) t ws s).answer ≡ pick p (pick q (pick (undoable (ops_of ws)) 0 9) 8) 2
      at true true = which (undoable (ops_of ws)) (acts t (undo (ops_of ws)) s)
      at true false = refl
      at false q = refl

  pub undo_kept : (e : Refusal) → outcome r u ≡ outcome (Err e) s → Err e ≡ checked m l t ws b xs (length s) → Undone m l t ws b xs s r u
  unfolding undone
  undo_kept e f g = undo_met (f ∙ (at e ∙ ap (λ (c : Check). undone_by c t ws s) g))
    where
      at : (e : Refusal) → outcome (Err e) s ≡ undone_by (Err e) t ws s
      at BadShape = refl
      at BadList = refl
      at NotUndoable = refl
