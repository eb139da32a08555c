-- Every choice of phase one, from the start on, is one that RFC 6330 permits.
--   reached_good   what is known in each of them
--   every_choice   every choice is permitted
--   no_pivot       there is none exactly when no eligible row has a one in V
-- Assumes nothing.
use Rattle.std.specs.Prelude.{◌≡◌, refl, ◌⊎◌, ◌↔◌, List, Bool, true, cond, ℕ, suc, ◌<◌, length, eqb}
use Rattle.std.proofs.Common.{sym, ap, subst, ◌∙◌, inl, inr, ⊎_elim, arith, eqb-true, eq-eqb, ne_eqb}
use Rattle.std.proofs.Math.Option.{Option, some, none}
use Rattle.std.proofs.lemmas.Bool.{eqb-false}
use Rattle.rule.specs.Lists.{In, Nodup, filter, head}
use Rattle.rule.specs.Sets.{bool_or, in_filter, filter_in, nodup_filter, head_in, head-some}
use Rattle.rule.specs.Permitted.{count, Permitted}
use Rattle.rule.specs.Rule.{number_of, by_least, raw_marks, first_marks, first_singles, State, start, chosen, arrange}
use Rattle.rule.specs.Labels.{Same, Sound, Full}
use Rattle.rule.proofs.Labels.{sound_rows, rows_join}
use Rattle.rule.specs.Chosen.{Right, Good, empty_none}
use Rattle.rule.proofs.Chosen.{chosen_permitted, none_empty}
use Rattle.rule.proofs.Step.{good_step}
use Rattle.rule.proofs.Arrange.{arranged}
use Rattle.rule.specs.Reached.{GoodState, Reached, begun, stepped}

module _ (row : ℕ → ℕ → Bool) (C E : List ℕ) where
  zero_sound : Sound row C E (record { lab = λ _. 0; next = 1 })
  zero_sound = record { started = omega arith; fresh = λ c. omega arith; connected = λ a b _ _ s. absurd (s.1 refl) }

  pairs_in : (x : ℕ) → In x (filter (λ y. eqb (count row C y) 2) E) → In x E
  pairs_in x m = (in_filter (λ y. eqb (count row C y) 2) E x m).0

  raw_sound : Sound row C E (raw_marks row C E)
  raw_sound = sound_rows row C E (filter (λ y. eqb (count row C y) 2) E) (record { lab = λ _. 0; next = 1 }) pairs_in zero_sound

  raw_full : Full row C E (raw_marks row C E)
  raw_full x p q i e =
      rows_join row C E (filter (λ y. eqb (count row C y) 2) E) (record { lab = λ _. 0; next = 1 }) pairs_in zero_sound x p q
      (filter_in (λ y. eqb (count row C y) 2) E x i (eq-eqb _ _ (ap length e))) e

  module _ (w : ℕ) (below : (q : ℕ) → In q C → q < w) (lab : ℕ → ℕ) where
    by_least-zero : (c : ℕ) → lab c ≡ 0 → by_least C lab c ≡ 0
    by_least-zero c e = ap (λ (t : Bool). cond t 0 (number_of (head (filter (λ d. eqb (lab d) (lab c)) C)))) (eq-eqb _ _ e)

    by_least-some : (c : ℕ) → (lab c ≡ 0 → ⊥) → by_least C lab c ≡ number_of (head (filter (λ d. eqb (lab d) (lab c)) C))
    by_least-some c n = ap (λ (t : Bool). cond t 0 (number_of (head (filter (λ d. eqb (lab d) (lab c)) C)))) (ne_eqb _ _ n)

    zero? : (c : ℕ) → (lab c ≡ 0) ⊎ (lab c ≡ 0 → ⊥)
    zero? c = ⊎_elim (λ t. inl (eqb-true _ _ t)) (λ t. inr (eqb-false _ _ t)) (bool_or (eqb (lab c) 0))

    number_low : (c : ℕ) (o : Option ℕ) → head (filter (λ d. eqb (lab d) (lab c)) C) ≡ o → number_of o < suc w
    number_low c none e = omega arith
    number_low c (some q) e =
        omega (arith, below q (in_filter (λ d. eqb (lab d) (lab c)) C q (head_in (filter (λ d. eqb (lab d) (lab c)) C) q e)).0)

    low : (c : ℕ) → by_least C lab c < suc w
    low c = ⊎_elim (λ e. omega (arith, by_least-zero c e)) (λ n. omega (arith, by_least-some c n, number_low c _ refl)) (zero? c)

    -- the least column of a label has that label
    least_of_lem : (c : ℕ) → In c C → (lab c ≡ 0 → ⊥) → (q : ℕ) × (by_least C lab c ≡ suc q) × (lab q ≡ lab c)
    least_of_lem c i n =
        let t : (q : ℕ) × (head (filter (λ d. eqb (lab d) (lab c)) C) ≡ some q) =
        head-some (filter (λ d. eqb (lab d) (lab c)) C) c (filter_in (λ d. eqb (lab d) (lab c)) C c i (eq-eqb (lab c) (lab c) refl)) in (
          t.0,
          by_least-some c n ∙ ap number_of t.1,
          eqb-true _ _ (in_filter (λ d. eqb (lab d) (lab c)) C t.0 (head_in (filter (λ d. eqb (lab d) (lab c)) C) t.0 t.1)).1,
        )

    same_back : (a b : ℕ) → In a C → In b C → Same (by_least C lab) a b → Same lab a b
    same_back a b ia ib s =
        let na : lab a ≡ 0 → ⊥ = λ e. s.1 (by_least-zero a e) in
        let nb : lab b ≡ 0 → ⊥ = λ e. s.1 (s.0 ∙ by_least-zero b e) in
        let ta : (q : ℕ) × (by_least C lab a ≡ suc q) × (lab q ≡ lab a) = least_of_lem a ia na in
        let tb : (q : ℕ) × (by_least C lab b ≡ suc q) × (lab q ≡ lab b) = least_of_lem b ib nb in
        let e : ta.0 ≡ tb.0 = omega (arith, ta.1, tb.1, s.0) in
        (sym ta.2 ∙ ap lab e ∙ tb.2, na)

    same_on : (a b : ℕ) → In a C → Same lab a b → Same (by_least C lab) a b
    same_on a b ia s = (
      ap (λ (l : ℕ). cond (eqb l 0) 0 (number_of (head (filter (λ d. eqb (lab d) l) C)))) s.0,
      λ e. omega (arith, (least_of_lem a ia s.1).1, e),
    )

  first_sound : (w : ℕ) → ((q : ℕ) → In q C → q < w) → Sound row C E (first_marks row C E w)
  first_sound w below = record {
    started = omega arith;
    fresh = low w below (raw_marks row C E).lab;
    connected = λ a b ia ib s. raw_sound.connected a b ia ib (same_back w below (raw_marks row C E).lab a b ia ib s);
  }

  first-full : (w : ℕ) → ((q : ℕ) → In q C → q < w) → Full row C E (first_marks row C E w)
  first-full w below x p q i e =
      same_on w below (raw_marks row C E).lab p q (in_filter (row x) C p (subst (λ (l : List ℕ). In p l) (sym e) (inl refl))).0
      (raw_full x p q i e)

  first-right : Nodup E → Right row C E (first_singles row C E)
  first-right n = record {
    once = nodup_filter (λ x. eqb (count row C x) 1) E n;
    right = λ x m. let k : In x E × (eqb (count row C x) 1 ≡ true) = in_filter (λ y. eqb (count row C y) 1) E x m in (k.0, eqb-true _ _ k.1);
    all = λ x i e. filter_in (λ y. eqb (count row C y) 1) E x i (eq-eqb _ _ e);
  }

  good_start : Nodup C → Nodup E → (w : ℕ) → ((q : ℕ) → In q C → q < w) → Good row C E (first_singles row C E) (first_marks row C E w)
  good_start nc ne w below = record {
    columns = nc;
    rows = ne;
    single = first-right ne;
    sound = first_sound w below;
    full = first-full w below;
  }

module _ (row : ℕ → ℕ → Bool) (deg : ℕ → ℕ) (C E : List ℕ) (nc : Nodup C) (ne : Nodup E) (w : ℕ) (below : (q : ℕ) → In q C → q < w) where
  pub reached_good : {s : State} → Reached row deg (start row C E w) s → GoodState row s
  reached_good begun = good_start row C E nc ne w below
  reached_good (stepped {s = s} h x e) =
      let g : GoodState row s = reached_good h in
      let p : Permitted row deg s.cols s.elig x = chosen_permitted row deg s.cols s.elig s.singles s.marks g x e in
      good_step row s.cols s.elig s.singles s.marks g x p.eligible
      (arrange row s.cols x).pivot (arrange row s.cols x).gone (arrange row s.cols x).rest
      (arranged row s.cols x g.columns (omega (arith, p.exactly, p.least.positive)))

  -- every choice is permitted
  pub every_choice : (s : State) → Reached row deg (start row C E w) s → (x : ℕ) → chosen row deg s ≡ some x → Permitted row deg s.cols s.elig x
  every_choice s h x e = chosen_permitted row deg s.cols s.elig s.singles s.marks (reached_good h) x e

  pub no_pivot : (s : State) → Reached row deg (start row C E w) s → (chosen row deg s ≡ none) ↔ ((x : ℕ) → In x s.elig → count row s.cols x ≡ 0)
  no_pivot s h =
      let g : GoodState row s = reached_good h in
      (none_empty row deg s.cols s.elig s.singles s.marks g, empty_none row deg s.cols s.elig s.singles s.marks g)
