-- What a check that passed says, and that it passes where that holds.
--   never                           were false true, anything would follow
--   and_left, and_right, and_both   of two tests
--   Shape                           the bounds on rows, columns and operations
--   shape_fine-shape, shape-shape_fine   the check of a shape is just that
--   Fine                            rows of an operation below m, dest not src
--   op_fine_fine, fine_op_fine        the check of an operation is just that
--   list_fine-known, list_fine-each   a list that passed has known words, whose operations are fine
--   each-list_fine                   known words of fine operations pass
--   Rows                            entries below m, none twice
--   rows_fine-rows, rows-rows_fine    the check of entries is just that
--   Order                           l entries below m, none twice
--   order_fine-order, order-order_fine   the check of an order is just that
--   undoable-each, each-undoable       the check for undo is just that no MulAssign is by zero
-- Assumes nothing.
use Rattle.std.specs.Prelude.{ℕ, zero, suc, ◌<◌, ◌≤◌, ◌≡◌, refl, ◌≢◌, Bool, true, false, not, ◌&&◌, ◌||◌, List, [], ◌∷◌, leb, ltb, eqb, length, get_or, Option, Some, None}
use Rattle.std.proofs.Math.Path.{sym, ap}
use Rattle.std.proofs.Common.{◌∙◌, arith, leb-true, ltb-true, eqb-true, le-leb, lt-ltb, eq-eqb, ne_eqb}
use Rattle.std.proofs.lemmas.Bool.{eqb-false, not-true}
use Rattle.oplist.specs.declared.Op.{Op}
use Rattle.oplist.specs.declared.Op.TheVariants.{AddAssign, MulAssign, FMA}
use Rattle.oplist.specs.Ops.{Within, Apart, Nonzero, Each}
use Rattle.oplist.specs.Word.{meaning}
use Rattle.oplist.specs.Listed.{is_known, with_op, known, ops_of}
use Rattle.bounds.specs.Bounds.{most_rows, most_ops}
use Rattle.oplist.specs.Check.{shape_fine, two_rows, op_fine, word_fine, list_fine, has, rows_fine, order_fine, op_undoable, undoable}

pub never : {A : Type 0} → false ≡ true → A
never e = let z : ◌≡◌ {A = ℕ} 0 1 = cc in absurd (omega arith)

pub and_left : (a b : Bool) → (a && b) ≡ true → a ≡ true
and_left true b e = refl
and_left false b e = e

pub and_right : (a b : Bool) → (a && b) ≡ true → b ≡ true
and_right true b e = e
and_right false b e = never e

pub and_both : {a b : Bool} → a ≡ true → b ≡ true → (a && b) ≡ true
and_both e f = rw e f

-- shapes

pub record Shape (m l n : ℕ) : Type 0 where
  pub some : 1 ≤ l
  pub narrow : l ≤ m
  pub rows : m ≤ most_rows
  pub ops : n ≤ most_ops

pub shape_fine-shape : (m l n : ℕ) → shape_fine m l n ≡ true → Shape m l n
unfolding shape_fine
shape_fine-shape m l n e =
    let a = and_right (leb 1 l) _ e in
    let b = and_right (leb l m) _ a in
    record {
      some = leb-true 1 l (and_left (leb 1 l) _ e);
      narrow = leb-true l m (and_left (leb l m) _ a);
      rows = leb-true m most_rows (and_left (leb m most_rows) _ b);
      ops = leb-true n most_ops (and_right (leb m most_rows) _ b);
    }

pub shape-shape_fine : (m l n : ℕ) → Shape m l n → shape_fine m l n ≡ true
unfolding shape_fine
shape-shape_fine m l n s = rw (le-leb 1 l s.some, le-leb l m s.narrow, le-leb m most_rows s.rows, le-leb n most_ops s.ops)

-- operations

pub record Fine (m : ℕ) (o : Op) : Type 0 where
  pub within : Within m o
  pub apart : Apart o

record Two (m d s : ℕ) : Type 0 where
  low : d < m
  low_src : s < m
  other : s ≢ d

two : (m d s : ℕ) → two_rows m d s ≡ true → Two m d s
two m d s e =
    let r = and_right (ltb d m) (ltb s m && not (eqb d s)) e in
    let n = not-true (eqb d s) (and_right (ltb s m) (not (eqb d s)) r) in
    record {
      low = ltb-true d m (and_left (ltb d m) (ltb s m && not (eqb d s)) e);
      low_src = ltb-true s m (and_left (ltb s m) (not (eqb d s)) r);
      other = λ q. eqb-false d s n (sym q);
    }

two_passes : (m d s : ℕ) → d < m → s < m → s ≢ d → two_rows m d s ≡ true
two_passes m d s h k n = rw (lt-ltb d m h, lt-ltb s m k, ne_eqb d s (λ q. n (sym q)))

pub op_fine_fine : (m : ℕ) (o : Op) → op_fine m o ≡ true → Fine m o
unfolding op_fine
op_fine_fine m (AddAssign d s) e = let t = two m d s e in record { within = (t.low, t.low_src); apart = t.other }
op_fine_fine m (MulAssign d x) e = let h = ltb-true d m e in record { within = (h, h); apart = tt }
op_fine_fine m (FMA d s x) e = let t = two m d s e in record { within = (t.low, t.low_src); apart = t.other }

pub fine_op_fine : (m : ℕ) (o : Op) → Fine m o → op_fine m o ≡ true
unfolding op_fine
fine_op_fine m (AddAssign d s) f = two_passes m d s f.within.0 f.within.1 f.apart
fine_op_fine m (MulAssign d x) f = lt-ltb d m f.within.0
fine_op_fine m (FMA d s x) f = two_passes m d s f.within.0 f.within.1 f.apart

-- lists

fine_known : (m : ℕ) (w : Option Op) → word_fine m w ≡ true → is_known w ≡ true
fine_known m (Some o) e = refl
fine_known m None e = e

pub list_fine-known : (m : ℕ) (ws : List ℕ) → list_fine m ws ≡ true → known ws ≡ true
unfolding list_fine known
list_fine-known m [] e = refl
list_fine-known m (w ∷ ws) e =
    and_both (fine_known m (meaning w) (and_left (word_fine m (meaning w)) (list_fine m ws) e))
    (list_fine-known m ws (and_right (word_fine m (meaning w)) (list_fine m ws) e))

each-with : (m : ℕ) (w : Option Op) (os : List Op) → word_fine m w ≡ true → Each (Fine m) os → Each (Fine m) (with_op w os)
each-with m (Some o) os e h = (op_fine_fine m o e, h)
each-with m None os e h = h

pub list_fine-each : (m : ℕ) (ws : List ℕ) → list_fine m ws ≡ true → Each (Fine m) (ops_of ws)
unfolding list_fine ops_of
list_fine-each m [] e = tt
list_fine-each m (w ∷ ws) e =
    each-with m (meaning w) (ops_of ws) (and_left (word_fine m (meaning w)) (list_fine m ws) e)
    (list_fine-each m ws (and_right (word_fine m (meaning w)) (list_fine m ws) e))

pub each-list_fine : (m : ℕ) (ws : List ℕ) → known ws ≡ true → Each (Fine m) (ops_of ws) → list_fine m ws ≡ true
unfolding list_fine known ops_of
each-list_fine m [] k h = refl
each-list_fine m (w ∷ ws) k h = at (meaning w) (each-list_fine m ws) k h
  where
    at : (v : Option Op) → (known ws ≡ true → Each (Fine m) (ops_of ws) → list_fine m ws ≡ true)
        → (is_known v && known ws) ≡ true → Each (Fine m) (with_op v (ops_of ws)) → (word_fine m v && list_fine m ws) ≡ true
    at (Some o) ih e h = and_both (fine_op_fine m o h.0) (ih e h.1)
    at None ih e h = never e

-- undo

pub undoable-each : (os : List Op) → undoable os ≡ true → Each Nonzero os
unfolding undoable
undoable-each [] e = tt
undoable-each (o ∷ os) e = (at o (and_left (op_undoable o) (undoable os) e), undoable-each os (and_right (op_undoable o) (undoable os) e))
  where
    at : (p : Op) → op_undoable p ≡ true → Nonzero p
    at (AddAssign d s) q = tt
    at (MulAssign d x) q = eqb-false x 0 (not-true (eqb x 0) q)
    at (FMA d s x) q = tt

pub each-undoable : (os : List Op) → Each Nonzero os → undoable os ≡ true
unfolding undoable
each-undoable [] h = refl
each-undoable (o ∷ os) h = and_both (at o h.0) (each-undoable os h.1)
  where
    at : (p : Op) → Nonzero p → op_undoable p ≡ true
    at (AddAssign d s) q = refl
    at (MulAssign d x) q = rw (ne_eqb x 0 q)
    at (FMA d s x) q = refl

-- orders

has-at : (x : ℕ) (xs : List ℕ) (i : ℕ) → i < length xs → get_or xs i 0 ≡ x → has x xs ≡ true
unfolding has
has-at x [] i h e = absurd (omega arith)
has-at x (y ∷ ys) zero h e = rw (eq-eqb y x e)
has-at x (y ∷ ys) (suc i) h e = at (eqb y x) (has-at x ys i (omega arith) e)
  where
    at : (b : Bool) → has x ys ≡ true → (b || has x ys) ≡ true
    at true f = refl
    at false f = f

has-none : (x : ℕ) (xs : List ℕ) → ((i : ℕ) → i < length xs → get_or xs i 0 ≢ x) → has x xs ≡ false
unfolding has
has-none x [] h = refl
has-none x (y ∷ ys) h = rw (ne_eqb y x (h 0 (omega arith))) (has-none x ys (λ i l. h (suc i) (omega arith)))

pub record Rows (m : ℕ) (xs : List ℕ) : Type 0 where
  pub below : (i : ℕ) → i < length xs → get_or xs i 0 < m
  pub apart : (i j : ℕ) → i < length xs → j < length xs → get_or xs i 0 ≡ get_or xs j 0 → i ≡ j

pub rows_fine-rows : (m : ℕ) (xs : List ℕ) → rows_fine m xs ≡ true → Rows m xs
unfolding rows_fine
rows_fine-rows m [] e = record { below = λ i h. absurd (omega arith); apart = λ i j h k q. absurd (omega arith) }
rows_fine-rows m (x ∷ xs) e = at (rows_fine-rows m xs (and_right (not (has x xs)) (rows_fine m xs) r))
  where
    r : (not (has x xs) && rows_fine m xs) ≡ true
    r = and_right (ltb x m) (not (has x xs) && rows_fine m xs) e

    other : has x xs ≡ false
    other = not-true (has x xs) (and_left (not (has x xs)) (rows_fine m xs) r)

    new : (i : ℕ) → i < length xs → get_or xs i 0 ≡ x → ⊥
    new i h q = let z : false ≡ true = sym other ∙ has-at x xs i h q in never z

    at : Rows m xs → Rows m (x ∷ xs)
    at R = record { below = below; apart = apart }
      where
        below : (i : ℕ) → i < suc (length xs) → get_or (x ∷ xs) i 0 < m
        below zero h = ltb-true x m (and_left (ltb x m) (not (has x xs) && rows_fine m xs) e)
        below (suc i) h = R.below i (omega arith)

        apart : (i j : ℕ) → i < suc (length xs) → j < suc (length xs) → get_or (x ∷ xs) i 0 ≡ get_or (x ∷ xs) j 0 → i ≡ j
        apart zero zero h k q = refl
        apart zero (suc j) h k q = absurd (new j (omega arith) (sym q))
        apart (suc i) zero h k q = absurd (new i (omega arith) q)
        apart (suc i) (suc j) h k q = ap suc (R.apart i j (omega arith) (omega arith) q)

pub rows-rows_fine : (m : ℕ) (xs : List ℕ) → Rows m xs → rows_fine m xs ≡ true
unfolding rows_fine
rows-rows_fine m [] R = refl
rows-rows_fine m (x ∷ xs) R =
    rw (lt-ltb x m (R.below 0 (omega arith)), has-none x xs (λ i l q. absurd (omega (arith, R.apart (suc i) 0 (omega arith) (omega arith) q))))
    (rows-rows_fine m xs
    (record { below = λ i h. R.below (suc i) (omega arith); apart = λ i j h k q. omega (arith, R.apart (suc i) (suc j) (omega arith) (omega arith) q) }))

pub record Order (m l : ℕ) (xs : List ℕ) : Type 0 where
  pub size : length xs ≡ l
  pub rows : Rows m xs

pub order_fine-order : (m l : ℕ) (xs : List ℕ) → order_fine m l true xs ≡ true → Order m l xs
unfolding order_fine
order_fine-order m l xs e =
    record {
      size = eqb-true (length xs) l (and_left (eqb (length xs) l) (rows_fine m xs) e);
      rows = rows_fine-rows m xs (and_right (eqb (length xs) l) (rows_fine m xs) e);
    }

pub order-order_fine : (m l : ℕ) (xs : List ℕ) → Order m l xs → order_fine m l true xs ≡ true
unfolding order_fine
order-order_fine m l xs o = and_both (eq-eqb (length xs) l o.size) (rows-rows_fine m xs o.rows)
