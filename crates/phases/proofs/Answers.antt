-- What an answer means to a caller.
--   full_exactly        ListFull exactly when the defined list is longer than the room
--   solved_end          Solved: the run ends with the order of the answer, whose list is the whole of the run's
--   solved_reduces      Solved: the list turns the matrix into the identity, in the order's rows, and zero rows
--   undone, recovered_by, only_one, agreed   hence undo, recovery, uniqueness, and when received symbols agree
--   singular_nulled     Singular: the whole matrix sends the vector to zeros; it is 1 at the column without pivot and 0 at the later ones
--   singular_never      hence no list of operations reduces the matrix
--   no_pivot_blank      NoPivot: columns are left in V, and no eligible row has a nonzero there
-- Assumes nothing.
use Rattle.std.specs.Prelude.{◌≡◌, refl, ◌≢◌, ◌↔◌, Bool, true, false, cond, List, ℕ, ◌<◌, ltb, length, get_or}
use Rattle.std.proofs.Common.{ap, arith, ltb-true, lt-ltb}
use Rattle.octet.specs.Field.{Octets}
use Rattle.oplist.specs.declared.Op.{Op}
use Rattle.algebra.specs.Rows.{run, undo}
use Rattle.algebra.proofs.Rows.{undo-run}
use Rattle.algebra.specs.Solve.{Reduces, Makes, Unnamed}
use Rattle.algebra.proofs.Solve.{recovered, unique, agrees_iff}
use Rattle.algebra.proofs.Singular.{never}
use Rattle.phases.specs.System.{Shape}
use Rattle.phases.specs.Run.{Run, End, solved, no_pivot, singular, whole, defined, Answer, ListFull, ending, answer}
use Rattle.phases.specs.Fit.{Fit}
use Rattle.phases.specs.Means.{columns_two, Says, Nulled, Blank}
use Rattle.phases.proofs.Means.{means}

-- how a run ended, from the number of the answer
abbrev Told : (z : Shape) (A : ℕ → ℕ → ℕ) → Run → Answer → Type 0
Told z A r a =
    (a.number ≡ 0 → Reduces z.m z.n a.list A (λ j. get_or a.order j 0)) × (a.number ≡ 7 → Nulled z A (λ k. get_or a.vector k 0))
    × (a.number ≡ 6 → Blank z A r.one)

module _ (z : Shape) (A : ℕ → ℕ → ℕ) (fit : Fit z A) (room : ℕ) (wide : Bool) where
  abbrev r : Run
  r = defined z A wide

  abbrev told_of : Answer
  told_of = answer room r

  tell : (e : End) → Says z A r e → Told z A r (ending r e)
  tell (solved order) s = (λ e. s, λ e. absurd (omega arith), λ e. absurd (omega arith))
  tell no_pivot s = (λ e. absurd (omega arith), λ e. absurd (omega arith), λ e. s)
  tell (singular x) s = (λ e. absurd (omega arith), λ e. s, λ e. absurd (omega arith))

  told : Told z A r told_of
  told = full (ltb room (length (whole r)))
    where
      full : (b : Bool) → Told z A r (cond b ListFull (ending r r.end))
      full true = (λ e. absurd (omega arith), λ e. absurd (omega arith), λ e. absurd (omega arith))
      full false = tell r.end (means z A fit wide)

  pub solved_reduces : told_of.number ≡ 0 → Reduces z.m z.n told_of.list A (λ j. get_or told_of.order j 0)
  solved_reduces = told.0

  pub singular_nulled : told_of.number ≡ 7 → Nulled z A (λ k. get_or told_of.vector k 0)
  singular_nulled = told.1

  pub no_pivot_blank : told_of.number ≡ 6 → Blank z A r.one
  no_pivot_blank = told.2

  module _ (e : told_of.number ≡ 0) where
    abbrev os : List Op
    os = told_of.list

    abbrev order : ℕ → ℕ
    order j = get_or told_of.order j 0

    -- undoing the list gives the received symbols back
    pub undone : (D : ℕ → ℕ) → Octets D → run (undo os) (run os D) ≡ D
    undone D h = undo-run os D (solved_reduces e).good h

    -- where the received symbols D come from x, the finished ones, read through the order, are x
    pub recovered_by : (x D : ℕ → ℕ) → Octets x → Makes z.m z.n A x D → (j : ℕ) → j < z.n → run os D (order j) ≡ x j
    recovered_by x D h k j l = recovered z.m z.n os A order (solved_reduces e) x D h k j l

    -- and D comes from no other
    pub only_one : (x y D : ℕ → ℕ) → Octets x → Octets y → Makes z.m z.n A x D → Makes z.m z.n A y D → (j : ℕ) → j < z.n → x j ≡ y j
    only_one = unique z.m z.n os A order (solved_reduces e)

    -- D comes from some x exactly when the finished rows that the order does not name are zeros
    pub agreed : (D : ℕ → ℕ) → Octets D
        → ((x : ℕ → ℕ) × Octets x × Makes z.m z.n A x D) ↔ ((i : ℕ) → i < z.m → Unnamed z.n order i → run os D i ≡ 0)
    agreed = agrees_iff z.m z.n os A order (solved_reduces e)

  pub singular_never : told_of.number ≡ 7 → (ps : List Op) (order : ℕ → ℕ) → Reduces z.m z.n ps A order → ⊥
  singular_never e ps order R =
      let t : Nulled z A (λ k. get_or told_of.vector k 0) = singular_nulled e in
      never z.m z.n ps A order (λ k. get_or told_of.vector k 0) (get_or (columns_two z A) t.stop 0) t.octets t.sent t.inside t.one R

-- a Solved answer is that of a run that ends with its order, and gives the run's whole list
pub solved_end : (room : ℕ) (r : Run) → (answer room r).number ≡ 0 → (r.end ≡ solved (answer room r).order) × ((answer room r).list ≡ whole r)
solved_end room r = full (ltb room (length (whole r)))
  where
    at_end : (x : End) → r.end ≡ x → (ending r x).number ≡ 0 → (r.end ≡ solved (ending r x).order) × ((ending r x).list ≡ whole r)
    at_end (solved order) q e = (q, refl)
    at_end no_pivot q e = absurd (omega arith)
    at_end (singular x) q e = absurd (omega arith)

    full : (b : Bool) → let a : Answer = cond b ListFull (ending r r.end) in a.number ≡ 0 → (r.end ≡ solved a.order) × (a.list ≡ whole r)
    full true e = absurd (omega arith)
    full false e = at_end r.end refl e

-- ListFull before all else
ending-not-full : (r : Run) (e : End) → (ending r e).number ≢ 5
ending-not-full r (solved order) = λ q. omega arith
ending-not-full r no_pivot = λ q. omega arith
ending-not-full r (singular x) = λ q. omega arith

pub full_exactly : (room : ℕ) (r : Run) → ((answer room r).number ≡ 5) ↔ (room < length (whole r))
full_exactly room r = (forth (ltb room (length (whole r))) refl, λ l. ap (λ (b : Bool). (cond b ListFull (ending r r.end)).number) (lt-ltb room (length (whole r)) l))
  where
    forth : (b : Bool) → ltb room (length (whole r)) ≡ b → (cond b ListFull (ending r r.end)).number ≡ 5 → room < length (whole r)
    forth true f e = ltb-true room (length (whole r)) f
    forth false f e = absurd (ending-not-full r r.end e)
