-- Every choice of phase one is one that RFC 6330, 5.4.2.2 permits, in the matrix as it stands then: the list so far, applied.
--   unchanged        in V it is the matrix as it was given
--   permitted_then   the row chosen next is permitted
--   reads_then       clearing a column of V reads in it what it reads in the matrix as it was given
--   none_exactly_then   there is none exactly when no eligible row has a nonzero in V
--   eligible_exactly, never_octet   the eligible rows are the binary rows that were not chosen
-- Assumes nothing.
use Rattle.std.specs.Prelude.{◌≡◌, refl, ◌↔◌, true, List, ◌++◌, ℕ, ◌+◌, eqb}
use Rattle.std.proofs.Common.{sym, ap, ◌∙◌, subst, arith, eqb-true}
use Rattle.std.proofs.Math.Option.{Option, some, none}
use Rattle.rule.specs.Lists.{In}
use Rattle.rule.specs.Step.{count-zero}
use Rattle.rule.specs.Permitted.{Permitted}
use Rattle.rule.specs.Rule.{chosen}
use Rattle.rule.specs.Alike.{Alike, permitted_alike}
use Rattle.phases.specs.System.{Shape, range, first_rows, octet_rows}
use Rattle.phases.specs.One.{Phase, rows_of, one, degree, phase_after, clears}
use Rattle.phases.specs.Occ.{occ, occ-append, Member, in_member}
use Rattle.phases.specs.Fit.{Fit, all-rows}
use Rattle.phases.proofs.Fit.{rows_once}
use Rattle.phases.specs.Sweep.{rows-kept}
use Rattle.phases.proofs.Sweep.{kept-v}
use Rattle.phases.specs.Forward.{clears_alike}
use Rattle.phases.specs.Walk.{Walked}
use Rattle.phases.proofs.Walk.{walked, permitted, none_exactly, none-zeros}
use Rattle.phases.specs.Choices.{standing}

module _ (z : Shape) (A : ℕ → ℕ → ℕ) (fit : Fit z A) (k : ℕ) where
  abbrev p : Phase
  p = phase_after A z k

  abbrev next : Option ℕ
  next = chosen (one A) (degree A z) p.now

  W : Walked z A p
  W = walked z A fit k

  -- V never changes, in the rows that may be chosen and in the octet rows
  pub unchanged : (y q : ℕ) → Member (p.now.elig ++ octet_rows z) y → Member p.now.cols q → standing z A k y q ≡ A y q
  unchanged y q i j =
      kept-v A p.steps (all-rows z) (range 0 z.w) W.legal (rows_once z fit.rows_fit) A fit.entries (λ x c a b. refl) y q
      (subst (λ (l : List ℕ). Member l y) (sym W.rows_left) i) (subst (λ (l : List ℕ). Member l q) (sym W.cols-left) j)

  eligible_unchanged : (y q : ℕ) → Member p.now.elig y → Member p.now.cols q → standing z A k y q ≡ A y q
  eligible_unchanged y q i j = unchanged y q (omega (arith, occ-append y p.now.elig (octet_rows z))) j

  alike : Alike (one A) (one (standing z A k)) p.now.cols p.now.elig
  alike x q i j = ap (λ (c : ℕ). eqb c 1) (sym (eligible_unchanged x q (in_member x p.now.elig i) (in_member q p.now.cols j)))

  -- the row chosen next is one that RFC 6330 permits
  pub permitted_then : (x : ℕ) → next ≡ some x → Permitted (one (standing z A k)) (degree A z) p.now.cols p.now.elig x
  permitted_then x e =
      permitted_alike (one A) (one (standing z A k)) (degree A z) p.now.cols p.now.elig x alike (permitted z A fit p W x e)

  module _ (h : (y q : ℕ) → Member p.now.elig y → Member p.now.cols q → standing z A k y q ≡ 0) where
    no_one : (x q : ℕ) → In x p.now.elig → In q p.now.cols → one A x q ≡ true → ⊥
    no_one x q i j e =
        let a : A x q ≡ 1 = eqb-true (A x q) 1 e in
        let b : standing z A k x q ≡ A x q = eligible_unchanged x q (in_member x p.now.elig i) (in_member q p.now.cols j) in
        omega (arith, h x q (in_member x p.now.elig i) (in_member q p.now.cols j))

    blank : next ≡ none
    blank = (none_exactly z A fit p W).1 (λ x i. count-zero (one A) p.now.cols x (λ q j e. no_one x q i j e))

  -- there is none exactly when no eligible row has a nonzero in V
  pub none_exactly_then : (next ≡ none) ↔ ((y q : ℕ) → Member p.now.elig y → Member p.now.cols q → standing z A k y q ≡ 0)
  none_exactly_then = ((λ e y q i j. eligible_unchanged y q i j ∙ none-zeros z A fit p W e y q i j), blank)

  -- so a step's operations are those that the matrix as it stands asks for
  pub reads_then : (x q : ℕ) (ys : List ℕ) → Member p.now.cols q → ((y : ℕ) → Member ys y → Member (p.now.elig ++ octet_rows z) y)
      → clears (λ y. A y q) x ys ≡ clears (λ y. standing z A k y q) x ys
  reads_then x q ys j i = clears_alike (λ y. A y q) (λ y. standing z A k y q) x ys (λ y m. sym (unchanged y q (i y m) j))

  -- the binary rows are those that were chosen and those that may be
  pub eligible_exactly : (y : ℕ) → occ y (rows_of p.steps) + occ y p.now.elig ≡ occ y (first_rows z)
  eligible_exactly y =
      omega (
        arith,
        rows-kept A p.steps (all-rows z) (range 0 z.w) W.legal y,
        ap (occ y) W.rows_left,
        occ-append y p.now.elig (octet_rows z),
        occ-append y (first_rows z) (octet_rows z),
      )

  -- octet rows are never chosen
  pub never_octet : (y : ℕ) → Member (octet_rows z) y → occ y (rows_of p.steps) + occ y p.now.elig ≡ 0
  never_octet y i = omega (arith, eligible_exactly y, rows_once z fit.rows_fit y, occ-append y (first_rows z) (octet_rows z))
