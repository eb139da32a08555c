-- Laws of replay and undo. m is the number of rows, l that of symbols, t that of bytes a row; ws are the words of the list; b says whether xs is its order.
--   replay_one, undo-one         two outcomes that meet the statement are equal
--   replay_blind, undo_blind     the answer is the same for any two slabs of one size
--   replay_refused, undo-refused a refusal leaves the slab as it was
--   undo_replay, replay_undo     of a list that undo accepts, undo after replay and replay after undo restore every byte
--   replay_recovers              after a list that reduces the matrix, the symbols, each read where the answer says, are those that made the slab
-- Assumes nothing.
use Rattle.std.specs.Prelude.{◌≡◌, ◌≢◌, Bool, ℕ, Ok, Err}
use Rattle.std.proofs.Math.Path.{refl, sym}
use Rattle.std.proofs.Common.{◌∙◌, arith}
use Rattle.std.proofs.Math.Bool.{true, false}
use mathlib.Core.List.{List}
use Rattle.std.proofs.Math.ListN.{length}
use Rattle.oplist.specs.Listed.{ops_of}
use Rattle.oplist.specs.Check.{undoable}
use Rattle.algebra.specs.Rows.{undo}
use Rattle.algebra.proofs.Rows.{within_undo}
use Rattle.algebra.specs.Flat.{Bytes, acts}
use Rattle.algebra.proofs.Flat.{length-acts, undo-acts, acts-undo}
use Rattle.algebra.specs.Solve.{Reduces}
use Rattle.algebra.specs.Slab.{Source, through}
use Rattle.algebra.proofs.Slab.{solved}
use Rattle.symbol_slab.specs.declared.Place.TheVariants.{InPlace}
use Rattle.symbol_slab.specs.declared.Refusal.{Refusal}
use Rattle.symbol_slab.specs.declared.Refusal.TheVariants.{BadShape, BadList, NotUndoable}
use Rattle.symbol_slab.specs.Replay.{Answer, Check, number, row_of, read_by, checked, outcome, pick_outcome, replayed_by, replayed, undone_by, undone, Replayed, Undone}
use Rattle.symbol_slab.specs.Passed.{passed, all_within, all_good}

refused : (r : Refusal) → number (Err r) ≢ 0
refused BadShape e = omega arith
refused BadList e = omega arith
refused NotUndoable e = omega arith

module _ (m l t : ℕ) (ws : List ℕ) (b : Bool) (xs : List ℕ) where
  pub replay_one : {s u v : List ℕ} {q r : Answer} → Replayed m l t ws b xs s q u → Replayed m l t ws b xs s r v → outcome q u ≡ outcome r v
  replay_one e f = e.is ∙ sym f.is

  pub undo-one : {s u v : List ℕ} {q r : Answer} → Undone m l t ws b xs s q u → Undone m l t ws b xs s r v → outcome q u ≡ outcome r v
  undo-one e f = e.is ∙ sym f.is

  pub replay_blind : (s r : List ℕ) → length s ≡ length r → (replayed m l t ws b xs s).answer ≡ (replayed m l t ws b xs r).answer
  unfolding replayed
  replay_blind s r e = rw e (at (checked m l t ws b xs (length r)))
    where
      at : (c : Check) → (replayed_by c t ws b s).answer ≡ (replayed_by c t ws b r).answer
      at (Ok p) = refl
      at (Err r) = refl

  pub undo_blind : (s r : List ℕ) → length s ≡ length r → (undone m l t ws b xs s).answer ≡ (undone m l t ws b xs r).answer
  unfolding undone
  undo_blind s r e = rw e (at (checked m l t ws b xs (length r)))
    where
      which : (d : Bool) (u v : List ℕ) → (pick_outcome d (outcome (Ok InPlace) u) (outcome (Err NotUndoable) s)).answer ≡ (pick_outcome d (outcome (Ok InPlace) v) (outcome (Err NotUndoable) r)).answer
      which true u v = refl
      which false u v = refl

      at : (c : Check) → (undone_by c t ws s).answer ≡ (undone_by c t ws r).answer
      at (Ok p) = which (undoable (ops_of ws)) (acts t (undo (ops_of ws)) s) (acts t (undo (ops_of ws)) r)
      at (Err e) = refl

  module _ (s : List ℕ) where
    done : (c : Bool) → number (read_by c) ≡ 0
    done true = refl
    done false = refl

    -- a call that was not refused passed the checks
    replay_passed : number (replayed m l t ws b xs s).answer ≡ 0 → checked m l t ws b xs (length s) ≡ Ok tt
    unfolding replayed
    replay_passed e = at (checked m l t ws b xs (length s)) e
      where
        at : (c : Check) → number (replayed_by c t ws b s).answer ≡ 0 → c ≡ Ok tt
        at (Ok p) f = refl
        at (Err r) f = absurd (refused r f)

    record Accepted : Type 0 where
      pass : checked m l t ws b xs (length s) ≡ Ok tt
      can : undoable (ops_of ws) ≡ true

    undo_accepted : number (undone m l t ws b xs s).answer ≡ 0 → Accepted
    unfolding undone
    undo_accepted e = at (checked m l t ws b xs (length s)) (undoable (ops_of ws)) refl refl e
      where
        at : (c : Check) (d : Bool) → checked m l t ws b xs (length s) ≡ c → undoable (ops_of ws) ≡ d → number (undone_by c t ws s).answer ≡ 0 → Accepted
        at (Ok p) true f g h = record { pass = f; can = g }
        at (Ok p) false f g h = let z : number (pick_outcome false (outcome (Ok InPlace) (acts t (undo (ops_of ws)) s)) (outcome (Err NotUndoable) s)).answer ≡ 0 = rw g at h in absurd (omega arith)
        at (Err r) d f g h = absurd (refused r h)

    pub replay_refused : number (replayed m l t ws b xs s).answer ≢ 0 → (replayed m l t ws b xs s).slab ≡ s
    unfolding replayed
    replay_refused e = at (checked m l t ws b xs (length s)) e
      where
        at : (c : Check) → number (replayed_by c t ws b s).answer ≢ 0 → (replayed_by c t ws b s).slab ≡ s
        at (Ok p) f = absurd (f (done b))
        at (Err BadShape) f = refl
        at (Err BadList) f = refl
        at (Err NotUndoable) f = refl

    pub undo-refused : number (undone m l t ws b xs s).answer ≢ 0 → (undone m l t ws b xs s).slab ≡ s
    unfolding undone
    undo-refused e = at (checked m l t ws b xs (length s)) e
      where
        which : (d : Bool) (u : List ℕ) → number (pick_outcome d (outcome (Ok InPlace) u) (outcome (Err NotUndoable) s)).answer ≢ 0 → (pick_outcome d (outcome (Ok InPlace) u) (outcome (Err NotUndoable) s)).slab ≡ s
        which true u f = absurd (f refl)
        which false u f = refl

        at : (c : Check) → number (undone_by c t ws s).answer ≢ 0 → (undone_by c t ws s).slab ≡ s
        at (Ok p) f = which (undoable (ops_of ws)) (acts t (undo (ops_of ws)) s) f
        at (Err BadShape) f = refl
        at (Err BadList) f = refl
        at (Err NotUndoable) f = refl

  module _ (s : List ℕ) (bytes : Bytes s) where
    pub undo_replay : number (undone m l t ws b xs s).answer ≡ 0 → undone m l t ws b xs (replayed m l t ws b xs s).slab ≡ outcome (Ok InPlace) s
    unfolding replayed undone
    undo_replay e =
        let a = undo_accepted s e in
        let p = passed m l t ws b xs (length s) a.pass in
        let n : length (acts t (ops_of ws) s) ≡ length s = length-acts m t (ops_of ws) s p.whole (all_within p) ∙ sym p.whole in
        rw (a.pass, n, a.pass, a.can, undo-acts m t p.some (ops_of ws) s p.whole bytes (all_good p a.can) (all_within p))

    pub replay_undo : number (undone m l t ws b xs s).answer ≡ 0 → replayed m l t ws b xs (undone m l t ws b xs s).slab ≡ outcome (read_by b) s
    unfolding replayed undone
    replay_undo e =
        let a = undo_accepted s e in
        let p = passed m l t ws b xs (length s) a.pass in
        let n : length (acts t (undo (ops_of ws)) s) ≡ length s
        = length-acts m t (undo (ops_of ws)) s p.whole (within_undo m (ops_of ws) (all_within p)) ∙ sym p.whole in
        rw (a.pass, a.can, n, a.pass, acts-undo m t p.some (ops_of ws) s p.whole bytes (all_good p a.can) (all_within p))

    pub replay_recovers : (A : ℕ → ℕ → ℕ) (C : List ℕ) → Reduces m l (ops_of ws) A (row_of (read_by b) xs) → Source m l t A C s
        → number (replayed m l t ws b xs s).answer ≡ 0
        → through l t (row_of (replayed m l t ws b xs s).answer xs) (replayed m l t ws b xs s).slab ≡ C
    unfolding replayed
    replay_recovers A C R S e =
        let a = replay_passed s e in
        let p = passed m l t ws b xs (length s) a in
        rw a (solved m l t (ops_of ws) A (row_of (read_by b) xs) R p.some s p.whole bytes C S)
