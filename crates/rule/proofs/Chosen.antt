-- The chosen row is one that RFC 6330 permits, and no row is chosen exactly when no eligible row has a one in V.
--   chosen_permitted    then the choice is permitted
--   none_empty   no choice, and no one in V
-- Assumes nothing.
use Rattle.std.specs.Prelude.{◌≡◌, refl, ◌⊎◌, List, [], ◌∷◌, Bool, true, false, cond, ◌&&◌, ◌||◌, ℕ, zero, suc, ◌≤◌, ◌<◌, length, eqb, ltb}
use Rattle.std.proofs.Common.{sym, ap, subst, ◌∙◌, inl, inr, ⊎_elim, arith, eqb-true, eq-eqb, ltb-true, ltb-false}
use Rattle.std.proofs.Math.Option.{Option, some, none}
use Rattle.std.proofs.lemmas.Bool.{eqb-false}
use Rattle.rule.specs.Lists.{In, Nodup, filter, least_pos}
use Rattle.rule.specs.Sets.{bool_or, in_filter, filter_in, nodup_filter, sub_length, head_in, head-some, Lightest, head_least-is, head_least-some, least_pos_le, least_pos-at}
use Rattle.rule.specs.Permitted.{ones, count, IsLeast, Joined, Reach, here, along, IsComponent, Permitted}
use Rattle.rule.specs.Rule.{Marks, size, bigger, biggest, node, at_node, choose_at, choose}
use Rattle.rule.specs.Ground.{way_reach}
use Rattle.rule.specs.Labels.{Same, Sound, Full, and_cases, and_both, or_cases, or_false, two}
use Rattle.rule.specs.Chosen.{Good}

none-some : {x : ℕ} → none ≡ some x → ⊥
none-some e = let z : ◌≡◌ {A = ℕ} 0 1 = cc in omega arith

bigger_most : (f : ℕ → ℕ) (b c l : ℕ) → 0 < c → (l ≡ c) ⊎ ((0 < b) × (f l ≤ f b)) → (0 < bigger f b c) × (f l ≤ f (bigger f b c))
bigger_most f b c l h o = cases (eqb b 0 || ltb (f b) (f c)) refl o
  where
    lift : (l ≡ c) ⊎ ((0 < b) × (f l ≤ f b)) → (eqb b 0 ≡ true) ⊎ (ltb (f b) (f c) ≡ true) → f l ≤ f c
    lift (inl q) t = omega (arith, ap f q)
    lift (inr k) (inl t) = absurd (omega (arith, eqb-true b 0 t))
    lift (inr k) (inr t) = omega (arith, ltb-true (f b) (f c) t)

    positive : eqb b 0 ≡ false → 0 < b
    positive t = let z : (b ≡ 0 → ⊥) = eqb-false b 0 t in omega arith

    cases : (t : Bool) → (eqb b 0 || ltb (f b) (f c)) ≡ t → (l ≡ c) ⊎ ((0 < b) × (f l ≤ f b)) → (0 < cond t c b) × (f l ≤ f (cond t c b))
    cases true e o = (h, lift o (or_cases _ _ e))
    cases false e (inl q) =
        (positive (or_false _ _ e).0, omega (arith, ap f q, ltb-false (f b) (f c) (or_false (eqb b 0) _ e).1))
    cases false e (inr k) = k

biggest_most : (lab : ℕ → ℕ) (C : List ℕ) (n l : ℕ) → 0 < l → l < n
    → (0 < biggest lab C n) × (size lab C l ≤ size lab C (biggest lab C n))
biggest_most lab C zero l h k = absurd (omega arith)
biggest_most lab C (suc zero) l h k = absurd (omega arith)
biggest_most lab C (suc (suc n)) l h k =
    bigger_most (size lab C) (biggest lab C (suc n)) (suc n) l (omega arith)
    (⊎_elim (λ e. inl (eqb-true l (suc n) e))
    (λ e. inr (biggest_most lab C (suc n) l h (let z : (l ≡ suc n → ⊥) = eqb-false l (suc n) e in omega arith)))
    (bool_or (eqb l (suc n))))

abbrev with : (ℕ → ℕ) → List ℕ → ℕ → List ℕ
with lab C l = filter (λ c. eqb (lab c) l) C

another : (l : List ℕ) → Nodup l → 2 ≤ length l → (x : ℕ) → (y : ℕ) × In y l × (y ≡ x → ⊥)
another [] n h x = absurd (omega arith)
another (a ∷ []) n h x = absurd (omega arith)
another (a ∷ b ∷ l) n h x = cases (bool_or (eqb a x))
  where
    cases : (eqb a x ≡ true) ⊎ (eqb a x ≡ false) → (y : ℕ) × In y (a ∷ b ∷ l) × (y ≡ x → ⊥)
    cases (inl e) = (b, inr (inl refl), λ f. n.0 (inl (eqb-true a x e ∙ sym f)))
    cases (inr e) = (a, inl refl, eqb-false a x e)

module _ (row : ℕ → ℕ → Bool) (C E : List ℕ) (m : Marks) (full : Full row C E m) where
  joined_same : {p q : ℕ} → Joined row C E p q → Same m.lab p q
  joined_same {p} {q} j = cases j.2
    where
      cases : (ones row C j.0 ≡ p ∷ q ∷ []) ⊎ (ones row C j.0 ≡ q ∷ p ∷ []) → Same m.lab p q
      cases (inl e) = full j.0 p q j.1 e
      cases (inr e) = let s : Same m.lab q p = full j.0 q p j.1 e in (sym s.0, λ z. s.1 (s.0 ∙ z))

  reach_same : {p q : ℕ} → Reach row C E p q → m.lab p ≡ m.lab q
  reach_same here = refl
  reach_same (along j r) = (joined_same j).0 ∙ reach_same r

  -- a column without a label is reached only from itself
  reach_bare : {p q : ℕ} → Reach row C E p q → m.lab p ≡ 0 → q ≡ p
  reach_bare here z = refl
  reach_bare (along j r) z = absurd ((joined_same j).1 z)

-- r = 2
module _ (row : ℕ → ℕ → Bool) (C E : List ℕ) (m : Marks) (once : Nodup C) (sound : Sound row C E m) (full : Full row C E m)
    (least : IsLeast row C E 2) where
  none1 : (x : ℕ) → In x E → count row C x ≡ 1 → ⊥
  none1 x k e = omega (arith, least.least x k (omega arith))

  -- the greatest label has at least two columns, and no label has more
  big : (0 < biggest m.lab C m.next) × (2 ≤ size m.lab C (biggest m.lab C m.next))
  big =
      let t : (a : ℕ) × (b : ℕ) × (ones row C least.reached.0 ≡ a ∷ b ∷ []) = two (ones row C least.reached.0) least.reached.2 in
      let p : ℕ = t.0 in
      let q : ℕ = t.1 in
      let s : Same m.lab p q = full least.reached.0 p q least.reached.1 t.2 in
      let in_c : (c : ℕ) → In c (p ∷ q ∷ []) → In c C = λ c i. (in_filter (row least.reached.0) C c (subst (λ (l : List ℕ). In c l) (sym t.2) i)).0 in
      let n : Nodup (p ∷ q ∷ []) = subst Nodup t.2 (nodup_filter (row least.reached.0) C once) in
      let k : 2 ≤ size m.lab C (m.lab p) = sub_length (p ∷ q ∷ []) (with m.lab C (m.lab p)) n
      (λ c i. filter_in (λ d. eqb (m.lab d) (m.lab p)) C c (in_c c i)
      (eq-eqb (m.lab c) (m.lab p) (⊎_elim (λ e. ap m.lab e) (λ e. ⊎_elim (λ f. ap m.lab f ∙ sym s.0) absurd e) i))) in
      let z : (m.lab p ≡ 0 → ⊥) = s.1 in
      let o : (0 < biggest m.lab C m.next) × (size m.lab C (m.lab p) ≤ size m.lab C (biggest m.lab C m.next))
      = biggest_most m.lab C m.next (m.lab p) (omega arith) (sound.fresh p) in
      omega (arith, k, o.0, o.1)

  module _ (q : ℕ) (found : node m.lab m.next C ≡ some q) where
    at : In q C × (m.lab q ≡ biggest m.lab C m.next)
    at = let k : In q C × (eqb (m.lab q) (biggest m.lab C m.next) ≡ true) = in_filter (λ c. eqb (m.lab c) (biggest m.lab C m.next)) C q (head_in (with m.lab C (biggest m.lab C m.next)) q found) in
        (k.0, eqb-true _ _ k.1)

    labelled : m.lab q ≡ 0 → ⊥
    labelled z = omega (arith, at.1, big.0)

    component : IsComponent row C E q (with m.lab C (biggest m.lab C m.next))
    component = record {
      once = nodup_filter (λ c. eqb (m.lab c) (biggest m.lab C m.next)) C once;
      within = λ c i. let k : In c C × (eqb (m.lab c) (biggest m.lab C m.next) ≡ true) = in_filter (λ d. eqb (m.lab d) (biggest m.lab C m.next)) C c i in
          (k.0, way_reach row C E once none1 (sound.connected q c at.0 k.0 (at.1 ∙ sym (eqb-true _ _ k.1), labelled)) at.0);
      whole = λ c i r. filter_in (λ d. eqb (m.lab d) (biggest m.lab C m.next)) C c i (eq-eqb _ _ (sym (reach_same row C E m full r) ∙ at.1));
    }

    no_larger : (p : ℕ) (S : List ℕ) → IsComponent row C E p S → length S ≤ length (with m.lab C (biggest m.lab C m.next))
    no_larger p S h = cases (bool_or (eqb (m.lab p) 0))
      where
        cases : (eqb (m.lab p) 0 ≡ true) ⊎ (eqb (m.lab p) 0 ≡ false) → length S ≤ length (with m.lab C (biggest m.lab C m.next))
        cases (inl e) =
            let k : length S ≤ 1 = sub_length S (p ∷ []) h.once (λ c i. inl (reach_bare row C E m full (h.within c i).1 (eqb-true _ _ e))) in
            omega (arith, k, big.1)
        cases (inr e) =
            let z : (m.lab p ≡ 0 → ⊥) = eqb-false _ _ e in
            let k : length S ≤ size m.lab C (m.lab p) = sub_length S (with m.lab C (m.lab p)) h.once
            (λ c i. filter_in (λ d. eqb (m.lab d) (m.lab p)) C c (h.within c i).0 (eq-eqb _ _ (sym (reach_same row C E m full (h.within c i).1)))) in
            omega (arith, k, (biggest_most m.lab C m.next (m.lab p) (omega arith) (sound.fresh p)).1)

    -- a row at the node
    row_at : (x : ℕ) × In x (filter (λ y. row y q && eqb (count row C y) 2) E)
    row_at =
        let t : (y : ℕ) × In y (with m.lab C (biggest m.lab C m.next)) × (y ≡ q → ⊥) = another (with m.lab C (biggest m.lab C m.next)) component.once big.1 q in
        first t.2 (component.within t.0 t.1).1
      where
        first : {c : ℕ} → (c ≡ q → ⊥) → Reach row C E q c → (x : ℕ) × In x (filter (λ y. row y q && eqb (count row C y) 2) E)
        first n here = absurd (n refl)
        first n (along {q = s} j r) =
            let o : In q (ones row C j.0) × (count row C j.0 ≡ 2) =
            ⊎_elim (λ e. (subst (λ (l : List ℕ). In q l) (sym e) (inl refl), ap length e))
            (λ e. (subst (λ (l : List ℕ). In q l) (sym e) (inr (inl refl)), ap length e)) j.2 in (
              j.0,
              filter_in (λ y. row y q && eqb (count row C y) 2) E j.0 j.1
                  (and_both _ _ (in_filter (row j.0) C q o.0).1 (eq-eqb _ _ o.1)),
            )

-- the choice
module _ (row : ℕ → ℕ → Bool) (deg : ℕ → ℕ) (C E singles : List ℕ) (m : Marks) (g : Good row C E singles m) where
  abbrev r : ℕ
  r = least_pos (count row C) E

  is_least : (k : ℕ) → r ≡ k → 0 < k → IsLeast row C E k
  is_least k e h =
      let t : (x : ℕ) × In x E × (count row C x ≡ r) = least_pos-at (count row C) E (omega arith) in
      record { positive = h; reached = (t.0, t.1, t.2 ∙ e); least = λ x i p. omega (arith, e, (least_pos_le (count row C) E x i p).1) }

  -- r other than 2
  light : (k x : ℕ) → r ≡ k → 0 < k → (k ≡ 2 → ⊥) → (l : List ℕ) → ((y : ℕ) → In y l → In y E × (count row C y ≡ k)) → ((y : ℕ) → In y E → count row C y ≡ k → In y l)
      → Lightest deg l x → Permitted row deg C E x
  light k x e h n l into onto s = record {
    r = k;
    least = is_least k e h;
    eligible = (into x s.0).0;
    exactly = (into x s.0).1;
    lightest = λ _ y i c. s.1 y (onto y i c);
    joined = λ f. absurd (n f);
  }

  at-two : r ≡ 2 → (x : ℕ) → (o : Option ℕ) → node m.lab m.next C ≡ o → at_node row C E o ≡ some x → Permitted row deg C E x
  at-two e x none f h = absurd (none-some h)
  at-two e x (some q) f h =
      let k : In x E × ((row x q && eqb (count row C x) 2) ≡ true) = in_filter (λ y. row y q && eqb (count row C y) 2) E x (head_in (filter (λ y. row y q && eqb (count row C y) 2) E) x h) in
      let b : (row x q ≡ true) × (eqb (count row C x) 2 ≡ true) = and_cases _ _ k.1 in
      let l : IsLeast row C E 2 = is_least 2 e (omega arith) in
      record {
        r = 2;
        least = l;
        eligible = k.0;
        exactly = eqb-true _ _ b.1;
        lightest = λ n. absurd (n refl);
        joined = λ _. record {
          p = q;
          S = with m.lab C (biggest m.lab C m.next);
          end = filter_in (row x) C q (at row C E m g.columns g.sound g.full l q f).0 b.0;
          component = component row C E m g.columns g.sound g.full l q f;
          largest = no_larger row C E m g.columns g.sound g.full l q f;
        };
      }

  permitted_at : (k x : ℕ) → r ≡ k → choose_at row deg C E singles m.lab m.next k ≡ some x → Permitted row deg C E x
  permitted_at zero x e h = absurd (none-some h)
  permitted_at (suc zero) x e h =
      light 1 x e (omega arith) (λ z. omega arith) singles g.single.right g.single.all (head_least-is deg singles x h)
  permitted_at (suc (suc zero)) x e h = at-two e x (node m.lab m.next C) refl h
  permitted_at (suc (suc (suc k))) x e h =
      light (suc (suc (suc k))) x e (omega arith) (λ z. omega arith) (filter (λ y. eqb (count row C y) (suc (suc (suc k)))) E)
      (λ y i. let j : In y E × (eqb (count row C y) (suc (suc (suc k))) ≡ true) = in_filter (λ z. eqb (count row C z) (suc (suc (suc k)))) E y i in (j.0, eqb-true _ _ j.1))
      (λ y i c. filter_in (λ z. eqb (count row C z) (suc (suc (suc k)))) E y i (eq-eqb _ _ c))
      (head_least-is deg (filter (λ y. eqb (count row C y) (suc (suc (suc k)))) E) x h)

  -- the chosen row is one that RFC 6330 permits
  pub chosen_permitted : (x : ℕ) → choose row deg C E singles m.lab m.next ≡ some x → Permitted row deg C E x
  chosen_permitted x h = permitted_at r x refl h

  some-two : r ≡ 2 → (o : Option ℕ) → node m.lab m.next C ≡ o → (x : ℕ) × (at_node row C E o ≡ some x)
  some-two e none f =
      let l : IsLeast row C E 2 = is_least 2 e (omega arith) in
      let b : List ℕ = with m.lab C (biggest m.lab C m.next) in
      let t : (y : ℕ) × In y (with m.lab C (biggest m.lab C m.next)) × (y ≡ 0 → ⊥) =
      another (with m.lab C (biggest m.lab C m.next)) (nodup_filter (λ c. eqb (m.lab c) (biggest m.lab C m.next)) C g.columns)
      (big row C E m g.columns g.sound g.full l).1 0 in
      absurd (none-some (sym f ∙ (head-some b t.0 t.1).1))
  some-two e (some q) f =
      let t : (x : ℕ) × In x (filter (λ y. row y q && eqb (count row C y) 2) E) =
      row_at row C E m g.columns g.sound g.full (is_least 2 e (omega arith)) q f in
      head-some (filter (λ y. row y q && eqb (count row C y) 2) E) t.0 t.1

  some_at : (k : ℕ) → r ≡ k → 0 < k → (x : ℕ) × (choose_at row deg C E singles m.lab m.next k ≡ some x)
  some_at zero e h = absurd (omega arith)
  some_at (suc zero) e h =
      let l : IsLeast row C E 1 = is_least 1 e h in
      head_least-some deg singles l.reached.0 (g.single.all l.reached.0 l.reached.1 l.reached.2)
  some_at (suc (suc zero)) e h = some-two e (node m.lab m.next C) refl
  some_at (suc (suc (suc k))) e h =
      let l : IsLeast row C E (suc (suc (suc k))) = is_least (suc (suc (suc k))) e h in
      head_least-some deg (filter (λ y. eqb (count row C y) (suc (suc (suc k)))) E) l.reached.0
      (filter_in (λ z. eqb (count row C z) (suc (suc (suc k)))) E l.reached.0 l.reached.1 (eq-eqb _ _ l.reached.2))

  -- NoPivot: no row is chosen, exactly when no eligible row has a one in V
  pub none_empty : choose row deg C E singles m.lab m.next ≡ none → (x : ℕ) → In x E → count row C x ≡ 0
  none_empty h x i = cases (bool_or (eqb (count row C x) 0))
    where
      cases : (eqb (count row C x) 0 ≡ true) ⊎ (eqb (count row C x) 0 ≡ false) → count row C x ≡ 0
      cases (inl e) = eqb-true _ _ e
      cases (inr e) =
          let z : (count row C x ≡ 0 → ⊥) = eqb-false _ _ e in
          let p : 0 < r = (least_pos_le (count row C) E x i (omega arith)).0 in
          absurd (none-some (sym h ∙ (some_at r refl p).1))
