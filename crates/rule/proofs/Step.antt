-- One step of phase one keeps what is known before it.
--   right-step, good_step             the singles, and all that is known, after the step
-- Assumes nothing.
use Rattle.std.specs.Prelude.{◌≡◌, refl, ◌⊎◌, List, [], ◌∷◌, ◌++◌, Bool, true, false, cond, ◌&&◌, ℕ, eqb}
use Rattle.std.proofs.Common.{sym, subst, ◌∙◌, inl, inr, ⊎_elim, arith, eqb-true, eq-eqb}
use Rattle.std.proofs.lemmas.Bool.{eqb-false}
use Rattle.rule.specs.Lists.{In, Nodup, filter}
use Rattle.rule.specs.Sets.{bool_or, in_filter, filter_in, in_cast}
use Rattle.rule.specs.Permitted.{count}
use Rattle.rule.specs.Rule.{Marks, add_pairs, lose, lose_first, refresh, lose_col, lose_cols, refresh_all, finish, next_singles, noted, without}
use Rattle.rule.specs.Ground.{Shrinks}
use Rattle.rule.specs.Labels.{and_both}
use Rattle.rule.proofs.Labels.{sound_step, full-step}
use Rattle.rule.specs.Chosen.{Right, Good}
use Rattle.rule.specs.Singles.{in_left, in_right, in_either, Removed, exchanged, Exact, Event}
use Rattle.rule.proofs.Singles.{lose_exact, lose_first_exact, refresh_exact}
use Rattle.rule.specs.Step.{Arranged, count-one, count-zero, count_skip}

-- rows still to be visited have the old count, the others the new
abbrev Mixed : (ℕ → ℕ) → (ℕ → ℕ) → List ℕ → ℕ → ℕ → Type 0
Mixed f g T z k = (In z T × (f z ≡ k)) ⊎ ((In z T → ⊥) × (g z ≡ k))

recast : (Mem Must : ℕ → Type 0) (At At' : ℕ → ℕ → Type 0) (s : List ℕ) → Exact Mem Must At s
    → ((z : ℕ) → Mem z → (k : ℕ) → At z k → At' z k) → ((z : ℕ) → Must z → (k : ℕ) → At' z k → At z k) → Exact Mem Must At' s
recast Mem Must At At' s h f g = record {
  once = h.once;
  right = λ z m. ((h.right z m).0, f z (h.right z m).0 1 (h.right z m).1);
  all = λ z i a. h.all z i (g z i 1 a);
}

module _ (row : ℕ → ℕ → Bool) (Mem Must : ℕ → Type 0) where
  module _ (rest : List ℕ) (c : ℕ) where
    abbrev f : ℕ → ℕ
    f = count row (c ∷ rest)

    abbrev g : ℕ → ℕ
    g = count row rest

    off : (y : ℕ) (ys : List ℕ) (z : ℕ) → (z ≡ y → ⊥) → (j : ℕ) → Mixed f g (y ∷ ys) z j → Mixed f g ys z j
    off y ys z d j (inl p) = ⊎_elim (λ e. absurd (d e)) (λ m. inl (m, p.1)) p.0
    off y ys z d j (inr p) = inr ((λ m. p.0 (inr m)), p.1)

    on : (y : ℕ) (ys : List ℕ) (z : ℕ) → (z ≡ y → ⊥) → (j : ℕ) → Mixed f g ys z j → Mixed f g (y ∷ ys) z j
    on y ys z d j (inl p) = inl (inr p.0, p.1)
    on y ys z d j (inr p) = inr (⊎_elim d p.0, p.1)

    first : (y : ℕ) (ys : List ℕ) (j : ℕ) → Mixed f g (y ∷ ys) y j → f y ≡ j
    first y ys j (inl p) = p.1
    first y ys j (inr p) = absurd (p.0 (inl refl))

    done : (y : ℕ) (ys : List ℕ) → (In y ys → ⊥) → (j : ℕ) → Mixed f g ys y j → g y ≡ j
    done y ys n j (inl p) = absurd (n p.0)
    done y ys n j (inr p) = p.1

    visit : (y : ℕ) (ys : List ℕ) → (In y ys → ⊥) → row y c ≡ true → Event Mem Must (Mixed f g (y ∷ ys)) (Mixed f g ys) y (g y)
    visit y ys n e = record {
      was = λ j a. sym (first y ys j a) ∙ count-one row c rest y e;
      now = inr (n, refl);
      is = λ j a. sym (done y ys n j a);
      same = λ z _ d j a. off y ys z d j a;
      back = λ z _ d j a. on y ys z d j a;
    }

    leave : (y : ℕ) (ys : List ℕ) → (In y ys → ⊥) → row y c ≡ false → (s : List ℕ) → Exact Mem Must (Mixed f g (y ∷ ys)) s → Exact Mem Must (Mixed f g ys) s
    leave y ys n e s h =
        recast Mem Must (Mixed f g (y ∷ ys)) (Mixed f g ys) s h
        (λ z _ k a. ⊎_elim (λ (q : z ≡ y). inr (
          (λ m. n (in_cast y z ys (sym q) m)),
          subst (λ (w : ℕ). count row rest w ≡ k) (sym q) (sym (count_skip row c rest y e) ∙ first y ys k (subst (λ (w : ℕ). Mixed f g (y ∷ ys) w k) q a)),
        ))
        (λ (d : z ≡ y → ⊥). off y ys z d k a) (same? z y))
        (λ z _ k a. ⊎_elim (λ (q : z ≡ y). inl (
          inl q,
          subst (λ (w : ℕ). count row (c ∷ rest) w ≡ k) (sym q) (count_skip row c rest y e ∙ done y ys n k (subst (λ (w : ℕ). Mixed f g ys w k) q a)),
        ))
        (λ (d : z ≡ y → ⊥). on y ys z d k a) (same? z y))
      where
        same? : (z w : ℕ) → (z ≡ w) ⊎ (z ≡ w → ⊥)
        same? z w = ⊎_elim (λ t. inl (eqb-true z w t)) (λ t. inr (eqb-false z w t)) (bool_or (eqb z w))

    -- a column leaves V
    column : (ys : List ℕ) → Nodup ys → ((y : ℕ) → In y ys → Mem y) → (s : List ℕ) → Exact Mem Must (Mixed f g ys) s
        → Exact Mem Must (Mixed f g []) (lose_col row rest c ys s)
    column [] n m s h = h
    column (y ∷ ys) n m s h =
        column ys n.1 (λ z i. m z (inr i)) (cond (row y c) (lose s y (count row rest y)) s) (turn (row y c) refl)
      where
        turn : (t : Bool) → row y c ≡ t → Exact Mem Must (Mixed f g ys) (cond t (lose s y (count row rest y)) s)
        turn true e = lose_exact Mem Must (Mixed f g (y ∷ ys)) (Mixed f g ys) s h y (m y (inl refl)) (count row rest y) (visit y ys n.0 e)
        turn false e = leave y ys n.0 e s h

  -- columns leave V one after another
  columns : (C' ys : List ℕ) → Nodup ys → ((y : ℕ) → In y ys → Mem y) → ((z : ℕ) → Mem z → In z ys) → ((z : ℕ) → Must z → In z ys) → (cs s : List ℕ)
      → Exact Mem Must (λ z k. count row (cs ++ C') z ≡ k) s → Exact Mem Must (λ z k. count row C' z ≡ k) (lose_cols row C' ys cs s)
  columns C' ys n m k o [] s h = h
  columns C' ys n m k o (c ∷ cs) s h =
      columns C' ys n m k o cs (lose_col row (cs ++ C') c ys s)
      (recast Mem Must (Mixed (f (cs ++ C') c) (g (cs ++ C') c) []) (λ z j. count row (cs ++ C') z ≡ j) (lose_col row (cs ++ C') c ys s)
      (column (cs ++ C') c ys n m s
      (recast Mem Must (λ z j. count row (c ∷ cs ++ C') z ≡ j) (Mixed (f (cs ++ C') c) (g (cs ++ C') c) ys) s h
      (λ z a j e. inl (k z a, e)) (λ z a j. ⊎_elim (λ p. p.1) (λ p. absurd (p.0 (o z a))))))
      (λ z a j. ⊎_elim (λ p. absurd p.0) (λ p. p.1)) (λ z a j e. inr ((λ i. i), e)))

  refreshed : (C' : List ℕ) (c : ℕ) (ys : List ℕ) → ((y : ℕ) → In y ys → Mem y) → (s : List ℕ)
      → Exact Mem Must (λ z k. count row C' z ≡ k) s → Exact Mem Must (λ z k. count row C' z ≡ k) (refresh_all row C' c ys s)
  refreshed C' c [] m s h = h
  refreshed C' c (y ∷ ys) m s h = refreshed C' c ys (λ z i. m z (inr i)) (cond (row y c) (refresh s y (count row C' y)) s) (turn (row y c))
    where
      turn : (t : Bool) → Exact Mem Must (λ z k. count row C' z ≡ k) (cond t (refresh s y (count row C' y)) s)
      turn true = refresh_exact Mem Must (λ z k. count row C' z ≡ k) s h y (m y (inl refl)) (count row C' y) refl (λ j e. sym e)
      turn false = h

-- the singles of a step
module _ (row : ℕ → ℕ → Bool) (C E s : List ℕ) (x pivot : ℕ) (gone C' : List ℕ) (a : Arranged row C x pivot gone C')
    (B : List ℕ) (ex : Removed x E B) (ix : In x E) (h : Right row C E s) where
  abbrev Mem : ℕ → Type 0
  Mem z = In z (x ∷ B)

  abbrev Must : ℕ → Type 0
  Must z = In z B

  abbrev rest : List ℕ
  rest = gone ++ C'

  not_x : (z : ℕ) → In z B → z ≡ x → ⊥
  not_x z m = (ex.from z m).1

  begin : Exact Mem Must (λ z k. count row (pivot ∷ rest) z ≡ k) s
  begin = record {
    once = h.once;
    right = λ z m. (mem z (h.right z m).0, sym (a.same (row z)) ∙ (h.right z m).1);
    all = λ z i e. h.all z (ex.from z i).0 (a.same (row z) ∙ e);
  }
    where
      mem : (z : ℕ) → In z E → In z (x ∷ B)
      mem z m = ⊎_elim (λ t. inl (eqb-true z x t)) (λ t. inr (ex.kept z m (eqb-false z x t))) (bool_or (eqb z x))

  first_loss_lem : Exact Mem Must (Mixed (count row (pivot ∷ rest)) (count row rest) B) (lose_first s x (count row rest x))
  first_loss_lem =
      lose_first_exact Mem Must (λ z k. count row (pivot ∷ rest) z ≡ k) (Mixed (count row (pivot ∷ rest)) (count row rest) B) s begin x
      (λ m. not_x x m refl) (count row rest x)
      record {
        was = λ j e. sym e ∙ count-one row pivot rest x a.front;
        now = inr ((λ m. not_x x m refl), refl);
        is = λ j. ⊎_elim (λ p. absurd (not_x x p.0 refl)) (λ p. sym p.1);
        same = λ z m d j e. ⊎_elim (λ q. absurd (d q)) (λ i. inl (i, e)) m;
        back = λ z i d j. ⊎_elim (λ p. p.1) (λ p. absurd (p.0 i));
      }

  once_B : Nodup (x ∷ B)
  once_B = ((λ m. not_x x m refl), ex.once)

  after_pivot : Exact Mem Must (λ z k. count row rest z ≡ k) (lose_col row rest pivot B (lose_first s x (count row rest x)))
  after_pivot =
      recast Mem Must (Mixed (count row (pivot ∷ rest)) (count row rest) []) (λ z k. count row rest z ≡ k)
      (lose_col row rest pivot B (lose_first s x (count row rest x)))
      (column row Mem Must rest pivot B ex.once (λ y i. inr i) (lose_first s x (count row rest x)) first_loss_lem)
      (λ z m j. ⊎_elim (λ p. absurd p.0) (λ p. p.1)) (λ z m j e. inr ((λ i. i), e))

  after_gone : Exact Mem Must (λ z k. count row C' z ≡ k) (lose_cols row C' (x ∷ B) gone (lose_col row rest pivot B (lose_first s x (count row rest x))))
  after_gone = columns row Mem Must C' (x ∷ B) once_B (λ y i. i) (λ z m. m) (λ z m. inr m) gone (lose_col row rest pivot B (lose_first s x (count row rest x))) after_pivot

  after-all : (l t : List ℕ) → Exact Mem Must (λ z k. count row C' z ≡ k) t → Exact Mem Must (λ z k. count row C' z ≡ k) (finish row C' B pivot l t)
  after-all [] t e = e
  after-all (q ∷ l) t e = refreshed row Mem Must C' pivot B (λ y i. inr i) t e

  pub right-step : Right row C' B (next_singles row C' x B pivot gone s)
  right-step =
      let t : List ℕ = next_singles row C' x B pivot gone s in
      let e : Exact Mem Must (λ z k. count row C' z ≡ k) (next_singles row C' x B pivot gone s) =
      after-all gone (lose_cols row C' (x ∷ B) gone (lose_col row rest pivot B (lose_first s x (count row rest x)))) after_gone in
      let z0 : count row C' x ≡ 0 = count-zero row C' x a.clear in
      record {
        once = e.once;
        right = λ z m. (
          ⊎_elim
              (λ (q : z ≡ x). let o : count row C' x ≡ 1 = subst (λ (w : ℕ). count row C' w ≡ 1) q (e.right z m).1 in absurd (omega arith))
              (λ (i : In z B). i) (e.right z m).0,
          (e.right z m).1,
        );
        all = λ z i c. e.all z i c;
      }

-- the rows that came down to two ones
noted_in : (row : ℕ → ℕ → Bool) (C' B cs : List ℕ) (y : ℕ) → In y (noted row C' B cs) → In y B
noted_in row C' B [] y m = absurd m
noted_in row C' B (c ∷ cs) y m =
    ⊎_elim (λ i. (in_filter (λ z. row z c && (eqb (count row (cs ++ C') z) 2 && eqb (count row C' z) 2)) B y i).0) (λ i. noted_in row C' B cs y i)
    (in_either y (filter (λ z. row z c && (eqb (count row (cs ++ C') z) 2 && eqb (count row C' z) 2)) B) (noted row C' B cs) m)

noted-all : (row : ℕ → ℕ → Bool) (C' B cs : List ℕ) (y : ℕ) → In y B → count row C' y ≡ 2 → In y (noted row C' B cs) ⊎ (count row (cs ++ C') y ≡ 2)
noted-all row C' B [] y i e = inr e
noted-all row C' B (c ∷ cs) y i e = cases (noted-all row C' B cs y i e) (bool_or (row y c))
  where
    p : ℕ → Bool
    p z = row z c && (eqb (count row (cs ++ C') z) 2 && eqb (count row C' z) 2)

    cases : In y (noted row C' B cs) ⊎ (count row (cs ++ C') y ≡ 2) → (row y c ≡ true) ⊎ (row y c ≡ false)
        → In y (noted row C' B (c ∷ cs)) ⊎ (count row (c ∷ cs ++ C') y ≡ 2)
    cases (inl m) t = inl (in_right y (filter p B) (noted row C' B cs) m)
    cases (inr k) (inl t) =
        inl (in_left y (filter p B) (noted row C' B cs) (filter_in p B y i (and_both _ _ t (and_both _ _ (eq-eqb _ _ k) (eq-eqb _ _ e)))))
    cases (inr k) (inr t) = inr (count_skip row c (cs ++ C') y t ∙ k)

-- a step keeps all that is known
pub good_step : (row : ℕ → ℕ → Bool) (C E s : List ℕ) (m : Marks) → Good row C E s m → (x : ℕ) → In x E
    → (pivot : ℕ) (gone C' : List ℕ) → Arranged row C x pivot gone C'
    → Good row C' (without x E) (next_singles row C' x (without x E) pivot gone s) (add_pairs row C' m (noted row C' (without x E) (pivot ∷ gone)))
good_step row C E s m g x ix pivot gone C' a =
    let ex : Removed x E (without x E) = exchanged x E g.rows ix in
    let sh : Shrinks row C E C' (without x E) = record {
      columns = a.within;
      rows = λ y i. (ex.from y i).0;
      used = λ y i. ⊎_elim (λ t. inr (λ c k e. a.clear c k (subst (λ (w : ℕ). row w c ≡ true) (eqb-true y x t) e)))
          (λ t. inl (ex.kept y i (eqb-false y x t))) (bool_or (eqb y x));
    } in
    let inE : (y : ℕ) → In y (noted row C' (without x E) (pivot ∷ gone)) → In y (without x E) = noted_in row C' (without x E) (pivot ∷ gone) in
    let all : (y : ℕ) → In y (without x E) → count row C' y ≡ 2 → In y (noted row C' (without x E) (pivot ∷ gone)) ⊎ (count row C y ≡ 2) =
    λ y i e. ⊎_elim (λ k. inl k) (λ k. inr (a.same (row y) ∙ k)) (noted-all row C' (without x E) (pivot ∷ gone) y i e) in
    record {
      columns = a.once;
      rows = ex.once;
      single = right-step row C E s x pivot gone C' a (without x E) ex ix g.single;
      sound = sound_step row C E C' (without x E) m (noted row C' (without x E) (pivot ∷ gone)) sh inE all g.sound g.full;
      full = full-step row C E C' (without x E) m (noted row C' (without x E) (pivot ∷ gone)) sh inE all g.sound g.full;
    }
