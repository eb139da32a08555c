-- The definition's phase one: a legal sequence of steps, in which every choice is one that the rule makes, and which ends where no row can be chosen.
--   arranged_occ, arranged_fewer   the column rule, as counts: V is the step's column, those that go and those that stay; fewer stay
--   walked            it is known after each of them
--   walked_end        and at the end
--   begin_walked, taken_walked, step_walked   it is known before the first step, after a row is taken, and after a step
--   permitted         where it is known, the row chosen next is one that RFC 6330 permits
--   cut_arranged, rows_split, cols-split   then the column rule holds, and no row is lost, and no column
--   none_exactly      no row can be chosen exactly when no eligible row has a one in V
--   none-zeros        and then no eligible row has a nonzero there
--   stopped           at the end no row can be chosen
--   zeros             and no eligible row has a nonzero in what is left of V
-- Assumes nothing.
use Rattle.std.specs.Prelude.{◌≡◌, refl, ◌≢◌, ◌⊎◌, ◌↔◌, Bool, true, false, List, [], ◌∷◌, ◌++◌, ℕ, zero, suc, ◌+◌, ◌-◌, ◌<◌, ◌≤◌, eqb, length}
use Rattle.std.proofs.Common.{sym, ap, ◌∙◌, subst, inl, inr, not-suc-le-zero, add-one, arith, eqb-true, eq-eqb}
use Rattle.std.proofs.Math.Option.{Option, some, none}
use Rattle.loops.specs.Loop.{for_none, for_next}
use Rattle.rule.specs.Lists.{In, keep, filter}
use Rattle.rule.specs.Permitted.{count, Permitted}
use Rattle.rule.specs.Rule.{chosen, after, Cut, arrange, without}
use Rattle.rule.specs.Chosen.{Good}
use Rattle.rule.specs.Step.{Arranged}
use Rattle.rule.proofs.Arrange.{arranged}
use Rattle.rule.specs.Sets.{filter_in}
use Rattle.rule.specs.Reached.{begun, stepped}
use Rattle.rule.proofs.Reached.{reached_good, every_choice, no_pivot}
use Rattle.phases.specs.System.{Shape, range, first_rows, octet_rows}
use Rattle.phases.specs.One.{Step, Phase, pivots_of, one, degree, begin, taken, taking, step, phase_after, phase_one}
use Rattle.phases.specs.Occ.{tick, occ, occ-append, occ-range, occ-without, Member, Once, in_member, member_in, once_nodup, Same?, yes_same, not_same, same?}
use Rattle.phases.specs.Sweep.{Fair, last-cols, legal_snoc, last-rows-snoc, last-cols-snoc}
use Rattle.phases.specs.Solved.{pivots_append}
use Rattle.phases.specs.Matrix.{length-range}
use Rattle.phases.specs.Fit.{Fit, all-rows, cols_once, cols-below, less?}
use Rattle.phases.proofs.Fit.{rows_once}
use Rattle.phases.specs.Walk.{Walked}

-- how often a number stands in a list is how many pass a test
occ-filter : (q : ℕ) (l : List ℕ) → length (filter (λ c. eqb q c) l) ≡ occ q l
occ-filter q [] = refl
occ-filter q (c ∷ l) = at (eqb q c) (occ-filter q l)
  where
    at : (b : Bool) → length (filter (λ c. eqb q c) l) ≡ occ q l → length (keep b c (filter (λ c. eqb q c) l)) ≡ tick b + occ q l
    at true h = omega arith
    at false h = omega arith

length-all : (l : List ℕ) → length (filter (λ _. true) l) ≡ length l
length-all [] = refl
length-all (c ∷ l) = ap suc (length-all l)

-- what the column rule gives, as counts
module _ (row : ℕ → ℕ → Bool) (C : List ℕ) (x pivot : ℕ) (gone C' : List ℕ) (a : Arranged row C x pivot gone C') where
  pub arranged_occ : (q : ℕ) → occ q C ≡ occ q (pivot ∷ C') + occ q gone
  arranged_occ q =
      let e : occ q C ≡ occ q (pivot ∷ gone ++ C') = sym (occ-filter q C) ∙ a.same (λ c. eqb q c) ∙ occ-filter q (pivot ∷ gone ++ C') in
      omega (arith, occ-append q (pivot ∷ gone) C')

  pub arranged_fewer : length C' < length C
  arranged_fewer =
      let e : length C ≡ suc (length (gone ++ C')) = sym (length-all C) ∙ a.same (λ _. true) ∙ length-all (pivot ∷ gone ++ C') in
      omega (arith, longer gone C')
    where
      longer : (g c : List ℕ) → length c ≤ length (g ++ c)
      longer [] c = omega arith
      longer (q ∷ g) c = omega (arith, longer g c)

module _ (z : Shape) (A : ℕ → ℕ → ℕ) (fit : Fit z A) where
  once_first : Once (first_rows z)
  once_first y = omega (arith, rows_once z fit.rows_fit y, occ-append y (first_rows z) (octet_rows z))

  once_cols : Once (range 0 z.w)
  once_cols q = omega (arith, cols_once z fit.cols_fit q)

  below : (q : ℕ) → In q (range 0 z.w) → q < z.w
  below q i = go (less? q z.w)
    where
      go : (q < z.w) ⊎ (z.w ≤ q) → q < z.w
      go (inl l) = l
      go (inr l) = absurd (omega (arith, in_member q (range 0 z.w) i, (occ-range 0 z.w q).after (omega arith)))

  pub permitted : (p : Phase) → Walked z A p → (x : ℕ) → chosen (one A) (degree A z) p.now ≡ some x
      → Permitted (one A) (degree A z) p.now.cols p.now.elig x
  permitted p W x e =
      every_choice (one A) (degree A z) (range 0 z.w) (first_rows z) (once_nodup (range 0 z.w) once_cols) (once_nodup (first_rows z) once_first) z.w
      below p.now W.reached x e

  -- one step
  module _ (p : Phase) (W : Walked z A p) (x : ℕ) (e : chosen (one A) (degree A z) p.now ≡ some x) where
    abbrev C : List ℕ
    C = p.now.cols

    abbrev k : Cut
    k = arrange (one A) C x

    allowed : Permitted (one A) (degree A z) C p.now.elig x
    allowed = permitted p W x e

    good : Good (one A) C p.now.elig p.now.singles p.now.marks
    good =
        reached_good (one A) (degree A z) (range 0 z.w) (first_rows z) (once_nodup (range 0 z.w) once_cols) (once_nodup (first_rows z) once_first)
        z.w below W.reached

    pub cut_arranged : Arranged (one A) C x k.pivot k.gone k.rest
    cut_arranged = arranged (one A) C x good.columns (omega (arith, allowed.exactly, allowed.least.positive))

    there : Member p.now.elig x
    there = in_member x p.now.elig allowed.eligible

    pub rows_split : (y : ℕ) → occ y (x ∷ without x p.now.elig) ≡ occ y p.now.elig
    rows_split y = occ-without x p.now.elig there y

    pub cols-split : (q : ℕ) → occ q C ≡ occ q (k.pivot ∷ k.rest) + occ q k.gone
    cols-split q = arranged_occ (one A) C x k.pivot k.gone k.rest cut_arranged q

    abbrev new : Step
    new = record { row = x; pivot = k.pivot; under = without x p.now.elig ++ octet_rows z; left = k.rest }

    fair : Fair A new (p.now.elig ++ octet_rows z) C
    fair = record {
      same = λ y. omega (arith, rows_split y, occ-append y (without x p.now.elig) (octet_rows z), occ-append y p.now.elig (octet_rows z));
      some = λ q. omega (arith, cols-split q);
      one = eqb-true (A x k.pivot) 1 cut_arranged.front;
      zeros = λ q i. zero-at q i;
    }
      where
        zero-at : (q : ℕ) → Member k.rest q → A x q ≡ 0
        zero-at q i =
            let n : A x q ≢ 1 = λ h. cut_arranged.clear q (member_in q k.rest i) (eq-eqb (A x q) 1 h) in
            let l : A x q ≤ 1 = fit.binary x q (W.rest_in x there) (cols-below z fit.cols_fit q (omega (arith, cols-split q, W.columns q))) in
            omega arith

    pub taken_walked : Walked z A (taken A z p x)
    taken_walked = record {
      legal = legal_snoc A p.steps (all-rows z) (range 0 z.w) W.legal new
          (subst (λ (l : List ℕ). Fair A new l (last-cols p.steps (range 0 z.w))) (sym W.rows_left)
          (subst (λ (l : List ℕ). Fair A new (p.now.elig ++ octet_rows z) l) (sym W.cols-left) fair));
      rows_left = last-rows-snoc p.steps (all-rows z) new;
      cols-left = last-cols-snoc p.steps (range 0 z.w) new;
      rest_in = λ y i. W.rest_in y (omega (arith, rows_split y));
      columns = λ q.
          let a : occ q (pivots_of (p.steps ++ (new ∷ []))) ≡ occ q (pivots_of p.steps) + (tick (eqb q k.pivot) + 0) = pivots_append p.steps (new ∷ []) q in
          let b : occ q (k.gone ++ p.out) ≡ occ q k.gone + occ q p.out = occ-append q k.gone p.out in
          omega (arith, cols-split q, W.columns q);
      reached = stepped W.reached x e;
      rows_once = λ y. omega (arith, rows_split y, W.rows_once y);
    }

  pub begin_walked : Walked z A (begin A z)
  begin_walked = record {
    legal = tt;
    rows_left = refl;
    cols-left = refl;
    rest_in = λ y i. i;
    columns = λ q. omega arith;
    reached = begun;
    rows_once = once_first;
  }

  pub step_walked : (p : Phase) → Walked z A p → Walked z A (step A z p)
  step_walked p W = go (chosen (one A) (degree A z) p.now) refl
    where
      go : (o : Option ℕ) → chosen (one A) (degree A z) p.now ≡ o → Walked z A (taking A z p o)
      go none e = W
      go (some x) e = taken_walked p W x e

  next : (k : ℕ) → step A z (phase_after A z k) ≡ phase_after A z (suc k)
  next k = sym (ap (phase_after A z) (sym (add-one k)) ∙ for_next 0 k (λ _. step A z) (begin A z) (omega arith))

  pub walked : (k : ℕ) → Walked z A (phase_after A z k)
  walked zero = subst (Walked z A) (sym (for_none 0 (λ _. step A z) (begin A z))) begin_walked
  walked (suc k) = subst (Walked z A) (next k) (step_walked (phase_after A z k) (walked k))

  -- no row can be chosen, or V has lost a column for each step
  abbrev Spent : ℕ → Phase → Type 0
  Spent k p = (chosen (one A) (degree A z) p.now ≡ none) ⊎ (length p.now.cols + k ≤ z.w)

  spent : (k : ℕ) → Spent k (phase_after A z k)
  spent zero = subst (Spent 0) (sym (for_none 0 (λ _. step A z) (begin A z))) (inr (omega (arith, length-range 0 z.w)))
  spent (suc k) = subst (Spent (suc k)) (next k) (go (chosen (one A) (degree A z) (phase_after A z k).now) refl (spent k))
    where
      go : (o : Option ℕ) → chosen (one A) (degree A z) (phase_after A z k).now ≡ o → Spent k (phase_after A z k) → Spent (suc k) (taking A z (phase_after A z k) o)
      go none e s = inl e
      go (some x) e (inl n) = absurd (let f : ◌≡◌ {A = ℕ} 0 1 = cc in omega arith)
      go (some x) e (inr h) =
          let a : Arranged (one A) (phase_after A z k).now.cols x (arrange (one A) (phase_after A z k).now.cols x).pivot (arrange (one A) (phase_after A z k).now.cols x).gone
          (arrange (one A) (phase_after A z k).now.cols x).rest = cut_arranged (phase_after A z k) (walked k) x e in
          inr (omega (
            arith,
            arranged_fewer (one A) (phase_after A z k).now.cols x (arrange (one A) (phase_after A z k).now.cols x).pivot
                (arrange (one A) (phase_after A z k).now.cols x).gone (arrange (one A) (phase_after A z k).now.cols x).rest a,
          ))

  pub none_exactly : (p : Phase) → Walked z A p
      → (chosen (one A) (degree A z) p.now ≡ none) ↔ ((x : ℕ) → In x p.now.elig → count (one A) p.now.cols x ≡ 0)
  none_exactly p W =
      no_pivot (one A) (degree A z) (range 0 z.w) (first_rows z) (once_nodup (range 0 z.w) once_cols) (once_nodup (first_rows z) once_first) z.w
      below p.now W.reached

  pub walked_end : Walked z A (phase_one A z)
  walked_end = walked z.n

  pub stopped : chosen (one A) (degree A z) (phase_one A z).now ≡ none
  stopped = go (spent z.n)
    where
      empty : (l : List ℕ) → length l ≤ 0 → (x : ℕ) → count (one A) l x ≡ 0
      empty [] h x = refl
      empty (q ∷ l) h x = absurd (not-suc-le-zero h)

      go : Spent z.n (phase_one A z) → chosen (one A) (degree A z) (phase_one A z).now ≡ none
      go (inl n) = n
      go (inr h) =
          (none_exactly (phase_one A z) (walked z.n)).1 (λ x i. empty (phase_one A z).now.cols (omega (arith, fit.cols_fit)) x)

  -- where no row can be chosen, no eligible row has a nonzero in V
  pub none-zeros : (p : Phase) → Walked z A p → chosen (one A) (degree A z) p.now ≡ none
      → (y q : ℕ) → Member p.now.elig y → Member p.now.cols q → A y q ≡ 0
  none-zeros p W e y q i j = go (same? (A y q) 1)
    where
      l : A y q ≤ 1
      l = fit.binary y q (W.rest_in y i) (cols-below z fit.cols_fit q (omega (arith, W.columns q)))

      empty : (o : List ℕ) → length o ≡ 0 → In q o → ⊥
      empty [] f m = m
      empty (c ∷ o) f m = absurd (omega (arith, f))

      go : Same? (A y q) 1 → A y q ≡ 0
      go (yes_same f) =
          absurd (empty (filter (one A y) p.now.cols) ((none_exactly p W).0 e y (member_in y p.now.elig i))
          (filter_in (one A y) p.now.cols q (member_in q p.now.cols j) (eq-eqb (A y q) 1 f)))
      go (not_same n) = omega (arith, l)

  pub zeros : (y q : ℕ) → Member (phase_one A z).now.elig y → Member (phase_one A z).now.cols q → A y q ≡ 0
  zeros = none-zeros (phase_one A z) walked_end stopped
