-- The list of a run's answer, as words of the list room.
--   bitwise-at, entered_at   an entry that passed the test is 0 or 1
--   posed_fit        a system that passed the tests is one that the definition takes
--   told_fine, told_small   the rows of each operation lie below m, two where it reads one besides; each fits a word
--   told_words, told-says   the list's words are those of a list of m rows, and say the list
--   ops_in-told, ops_in-answer   an answer reports as many operations as the list has: the told one, and that of any run
-- Assumes nothing.
use Rattle.std.specs.Prelude.{◌≡◌, refl, ◌⊎◌, Bool, true, cond, List, [], ◌∷◌, map, ℕ, zero, suc, ◌+◌, ◌-◌, ◌*◌, ◌<◌, ◌≤◌, leb, ltb, length, get_or, take, drop}
use Rattle.std.proofs.Common.{sym, subst, inl, inr, arith, leb-true}
use Rattle.std.proofs.Math.Bool.{false}
use Rattle.loops.specs.Entry.{entry_at, entry-any, entry-take, entry-drop}
use Rattle.bounds.specs.Bounds.{most_rows}
use Rattle.oplist.specs.declared.Op.{Op}
use Rattle.oplist.specs.declared.Op.TheVariants.{AddAssign, MulAssign, FMA}
use Rattle.oplist.specs.Ops.{Each, each_map, each_both}
use Rattle.oplist.specs.Word.{Small, packed}
use Rattle.oplist.specs.Listed.{ops_of, ops_of-packed, known-packed}
use Rattle.oplist.specs.Check.{list_fine}
use Rattle.oplist.specs.Facts.{and_left, and_right, Fine, each-list_fine}
use Rattle.algebra.specs.Rows.{Good, Within}
use Rattle.algebra.specs.Flat.{Bytes}
use Rattle.phases.specs.System.{combined}
use Rattle.phases.specs.Run.{Run, End, solved, no_pivot, singular, whole, defined, Answer as Told, ListFull, ending, answer}
use Rattle.phases.specs.Fit.{Fit}
use Rattle.phases.proofs.Combined.{combined_fit}
use Rattle.phases.proofs.Answers.{solved_reduces}
use Rattle.grid.specs.declared.shapes.Shape.{Shape}
use Rattle.call.specs.Call.{bitwise, entered, answer_of, told}
use Rattle.ending.specs.Scalars.{Scaled, answer-scaled}
use Rattle.ending.specs.Ran.{as_shape, Posed, ops_in}

pub bitwise-at : (xs : List ℕ) → bitwise xs ≡ true → (i : ℕ) → get_or xs i 0 ≤ 1
unfolding bitwise
bitwise-at [] e i = omega arith
bitwise-at (x ∷ xs) e zero = leb-true x 1 (and_left (leb x 1) (bitwise xs) e)
bitwise-at (x ∷ xs) e (suc i) = bitwise-at xs (and_right (leb x 1) (bitwise xs) e) i

pub entered_at : (l s h : ℕ) (bits : List ℕ) → entered l s h bits ≡ true → (x q : ℕ) → (x < s) ⊎ (s + h ≤ x) → entry_at l bits x q ≤ 1
unfolding entered
entered_at l s h bits e x q (inl a) =
    subst (λ (y : ℕ). y ≤ 1) (entry-take l bits x q s a)
    (entry-any l (take (s * l) bits) x q (λ y. y ≤ 1) (omega arith)
    (bitwise-at (take (s * l) bits) (and_left (bitwise (take (s * l) bits)) (bitwise (drop ((s + h) * l) bits)) e)))
entered_at l s h bits e x q (inr a) =
    subst (λ (y : ℕ). y ≤ 1) (entry-drop l bits x q (s + h) a)
    (entry-any l (drop ((s + h) * l) bits) (x - (s + h)) q (λ y. y ≤ 1) (omega arith)
    (bitwise-at (drop ((s + h) * l) bits) (and_right (bitwise (take (s * l) bits)) (bitwise (drop ((s + h) * l) bits)) e)))

module _ (z : Shape) (bits octets : List ℕ) (p : Posed z bits octets) (hb : Bytes bits) (ho : Bytes octets) where
  pub posed_fit : Fit (as_shape z) (combined (as_shape z) bits octets)
  posed_fit =
      combined_fit (as_shape z) bits octets hb ho (λ x q a b. entered_at z.l z.s z.h bits p.entries x q b) p.rows_fit p.cols_fit

fine_op : (m : ℕ) (o : Op) → Good o × Within m o → Fine m o
fine_op m (AddAssign d s) h = record { within = h.1; apart = h.0 }
fine_op m (MulAssign d c) h = record { within = h.1; apart = tt }
fine_op m (FMA d s c) h = record { within = h.1; apart = h.0 }

small_op : (m : ℕ) → m ≤ most_rows → (o : Op) → Fine m o × Scaled o → Small o
small_op m k (AddAssign d s) h = let w = h.0.within in (omega arith, omega arith)
small_op m k (MulAssign d c) h = let w = h.0.within in (omega arith, omega (arith, h.1))
small_op m k (FMA d s c) h = let w = h.0.within in (omega arith, omega arith, omega (arith, h.1))

-- a list that is not empty is a Solved one
list_solved : (P : Op → Type 0) (room : ℕ) (r : Run) → ((answer room r).number ≡ 0 → Each P (answer room r).list) → Each P (answer room r).list
list_solved P room r f = full (ltb room (length (whole r))) f
  where
    at_end : (e : End) → ((ending r e).number ≡ 0 → Each P (ending r e).list) → Each P (ending r e).list
    at_end (solved order) g = g refl
    at_end no_pivot g = tt
    at_end (singular x) g = tt

    full : (b : Bool) → ((cond b ListFull (ending r r.end)).number ≡ 0 → Each P (cond b ListFull (ending r r.end)).list)
        → Each P (cond b ListFull (ending r r.end)).list
    full true g = tt
    full false g = at_end r.end g

pub ops_in-answer : (room : ℕ) (r : Run) → ops_in (answer_of (answer room r)) ≡ length (answer room r).list
unfolding answer_of
ops_in-answer room r = full (ltb room (length (whole r)))
  where
    at_end : (e : End) → ops_in (answer_of (ending r e)) ≡ length (ending r e).list
    at_end (solved order) = refl
    at_end no_pivot = refl
    at_end (singular x) = refl

    full : (b : Bool) → ops_in (answer_of (cond b ListFull (ending r r.end))) ≡ length (cond b ListFull (ending r r.end)).list
    full true = refl
    full false = at_end r.end

module _ (z : Shape) (bits octets : List ℕ) (p : Posed z bits octets) (hb : Bytes bits) (ho : Bytes octets) (room : ℕ) where
  abbrev a : Told
  a = told (as_shape z) bits octets room

  pub ops_in-told : ops_in (answer_of a) ≡ length a.list
  unfolding told
  ops_in-told = ops_in-answer room (defined (as_shape z) (combined (as_shape z) bits octets) false)

  pub told_fine : Each (Fine z.m) a.list
  unfolding told
  told_fine =
      list_solved (Fine z.m) room (defined (as_shape z) (combined (as_shape z) bits octets) false)
      (λ e. let R = solved_reduces (as_shape z) (combined (as_shape z) bits octets) (posed_fit z bits octets p hb ho) room false e in
      each_map (λ (o : Op). Good o × Within z.m o) (Fine z.m) (fine_op z.m) a.list (each_both Good (Within z.m) a.list R.good R.within))

  pub told_small : Each Small a.list
  unfolding told
  told_small =
      each_map (λ (o : Op). Fine z.m o × Scaled o) Small (small_op z.m p.few) a.list
      (each_both (Fine z.m) Scaled a.list told_fine
      (answer-scaled (as_shape z) (combined (as_shape z) bits octets) (posed_fit z bits octets p hb ho) room))

  pub told-says : ops_of (map packed a.list) ≡ a.list
  told-says = ops_of-packed a.list told_small

  pub told_words : list_fine z.m (map packed a.list) ≡ true
  told_words =
      each-list_fine z.m (map packed a.list) (known-packed a.list told_small) (subst (Each (Fine z.m)) (sym told-says) told_fine)
