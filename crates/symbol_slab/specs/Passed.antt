-- What a call that passed the checks has.
--   Passed             the checks, each by itself
--   passed             a call that passed has them
--   fits_word          the slab's size is within a machine word
--   all_placed         the rows of each operation lie in the slab
--   all_within         the rows of each operation are below m
--   all_good           the operations can be undone, if no row is multiplied by zero
--   good_placed        the same of a list that can be undone, without a check
-- Assumes nothing.
use Rattle.std.specs.Prelude.{◌≡◌, refl, ◌≢◌, ◌⊎◌, Bool, true, false, ◌&&◌, List, [], ◌∷◌, ℕ, ◌+◌, ◌*◌, ◌^◌, ◌<◌, ◌≤◌, leb, ltb, length, Ok, Err}
use Rattle.std.proofs.Common.{inl, inr, mul-le-mul_right, arith, leb-true, eqb-true, ltb-true, ltb-false}
use Rattle.oplist.specs.declared.Op.{Op}
use Rattle.oplist.specs.declared.Op.TheVariants.{AddAssign, MulAssign, FMA}
use Rattle.oplist.specs.Ops.{Each, Nonzero, each_map}
use Rattle.oplist.specs.Word.{Small}
use Rattle.oplist.specs.Listed.{ops_of, small_ops_of}
use Rattle.oplist.specs.Check.{shape_fine, list_fine, order_fine, undoable}
use Rattle.oplist.specs.Facts.{and_left, and_right, Shape, shape_fine-shape, Fine, list_fine-each, undoable-each}
use Rattle.algebra.specs.Rows.{Good, Within}
use Rattle.algebra.specs.Flat.{fits}
use Rattle.symbol_slab.specs.declared.Refusal.TheVariants.{BadShape, BadList}
use Rattle.symbol_slab.specs.Placed.{TwoRows, Placed}
use Rattle.symbol_slab.specs.Turns.{AllPlaced}
use Rattle.bounds.specs.Bounds.{most_bytes}
use Rattle.symbol_slab.specs.Replay.{slab_shaped, pick_check, checked}

pub record Passed (m l t : ℕ) (ws : List ℕ) (b : Bool) (xs : List ℕ) (size : ℕ) : Type 0 where
  pub shape : Shape m l (length ws)
  pub some : 1 ≤ t
  pub narrow : t ≤ most_bytes
  pub whole : size ≡ m * t
  pub fine : list_fine m ws ≡ true
  pub ordered : order_fine m l b xs ≡ true

pub passed : (m l t : ℕ) (ws : List ℕ) (b : Bool) (xs : List ℕ) (size : ℕ) → checked m l t ws b xs size ≡ Ok tt → Passed m l t ws b xs size
unfolding checked slab_shaped
passed m l t ws b xs size e = at (slab_shaped m l t (length ws) size) (list_fine m ws && order_fine m l b xs) refl refl e
  where
    at : (p q : Bool) → slab_shaped m l t (length ws) size ≡ p → (list_fine m ws && order_fine m l b xs) ≡ q
        → pick_check p (pick_check q (Ok tt) (Err BadList)) (Err BadShape) ≡ Ok tt → Passed m l t ws b xs size
    at true true f g h =
        let u = and_right (shape_fine m l (length ws)) _ f in
        let v = and_right (leb 1 t) _ u in
        record {
          shape = shape_fine-shape m l (length ws) (and_left (shape_fine m l (length ws)) _ f);
          some = leb-true 1 t (and_left (leb 1 t) _ u);
          narrow = leb-true t most_bytes (and_left (leb t most_bytes) _ v);
          whole = eqb-true size (m * t) (and_right (leb t most_bytes) _ v);
          fine = and_left (list_fine m ws) (order_fine m l b xs) g;
          ordered = and_right (list_fine m ws) (order_fine m l b xs) g;
        }
    at true false f g h = let z : ◌≡◌ {A = ℕ} 0 1 = cc in absurd (omega arith)
    at false q f g h = let z : ◌≡◌ {A = ℕ} 0 1 = cc in absurd (omega arith)

pub fits_word : (m l n t : ℕ) → shape_fine m l n ≡ true → t ≤ most_bytes → m * t < 2 ^ 64
fits_word m l n t e h = omega (arith, shape_fine-shape m l n e, mul-le-mul_right t (shape_fine-shape m l n e).rows)

-- two rows that differ do not overlap
two-rows : (m t d s : ℕ) → d < m → s < m → s ≢ d → TwoRows (d * t) (s * t) t (m * t)
two-rows m t d s hd hs ne = record { dest_in = fits m t d hd; src_in = fits m t s hs; apart = at (ltb d s) refl }
  where
    at : (b : Bool) → ltb d s ≡ b → (d * t + t ≤ s * t) ⊎ (s * t + t ≤ d * t)
    at true e = inl (fits s t d (ltb-true d s e))
    at false e = let h : s ≤ d = ltb-false d s e in inr (fits d t s (omega arith))

placed : (m t : ℕ) (o : Op) → Fine m o → Placed t o (m * t)
placed m t (AddAssign d s) f = two-rows m t d s f.within.0 f.within.1 f.apart
placed m t (MulAssign d c) f = fits m t d f.within.0
placed m t (FMA d s c) f = two-rows m t d s f.within.0 f.within.1 f.apart

good : (m : ℕ) (o : Op) → Fine m o × Nonzero o × Small o → Good o
good m (AddAssign d s) h = h.0.apart
good m (MulAssign d c) h = (h.2.1, h.1)
good m (FMA d s c) h = h.0.apart

each_three : (P Q R : Op → Type 0) (os : List Op) → Each P os → Each Q os → Each R os → Each (λ (o : Op). P o × Q o × R o) os
each_three P Q R [] p q r = tt
each_three P Q R (o ∷ os) p q r = ((p.0, q.0, r.0), each_three P Q R os p.1 q.1 r.1)

-- a list that can be undone, within m rows, as a solved call leaves it
pub good_placed : (m t : ℕ) (os : List Op) → Each Good os → Each (Within m) os → AllPlaced t os (m * t)
good_placed m t [] g b = tt
good_placed m t (o ∷ os) g b = (at o g.0 b.0, good_placed m t os g.1 b.1)
  where
    at : (q : Op) → Good q → Within m q → Placed t q (m * t)
    at (AddAssign d s) h k = two-rows m t d s k.0 k.1 h
    at (MulAssign d c) h k = fits m t d k.0
    at (FMA d s c) h k = two-rows m t d s k.0 k.1 h

module _ {m l t : ℕ} {ws : List ℕ} {b : Bool} {xs : List ℕ} {size : ℕ} (p : Passed m l t ws b xs size) where
  pub all_placed : AllPlaced t (ops_of ws) size
  all_placed = rw p.whole (each_map (Fine m) (λ (o : Op). Placed t o (m * t)) (placed m t) (ops_of ws) (list_fine-each m ws p.fine))

  pub all_within : Each (Within m) (ops_of ws)
  all_within = each_map (Fine m) (Within m) (λ o f. f.within) (ops_of ws) (list_fine-each m ws p.fine)

  pub all_good : undoable (ops_of ws) ≡ true → Each Good (ops_of ws)
  all_good e =
      each_map (λ (o : Op). Fine m o × Nonzero o × Small o) Good (good m) (ops_of ws)
      (each_three (Fine m) Nonzero Small (ops_of ws) (list_fine-each m ws p.fine) (undoable-each (ops_of ws) e) (small_ops_of ws))
