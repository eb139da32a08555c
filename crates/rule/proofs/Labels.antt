-- The labels: two columns of V with one label are connected in the grounded graph, and the ends of a pair have one label.
--   relabel_keeps, relabel_joins, relabel_fresh   a pair joined;  joint_pos   its label is not 0
--   sound_pair, sound_rows, rows_join   how they are kept
--   sound_step, full-step         a step keeps them
-- Assumes nothing.
use Rattle.std.specs.Prelude.{◌≡◌, refl, ◌⊎◌, List, [], ◌∷◌, Bool, true, false, cond, not, ◌&&◌, ◌||◌, ℕ, zero, suc, ◌≤◌, ◌<◌, length, eqb, ltb}
use Rattle.std.proofs.Common.{sym, ap, subst, ◌∙◌, inl, inr, ⊎_elim, arith, eqb-true, eq-eqb, ne_eqb}
use Rattle.rule.specs.Lists.{In}
use Rattle.rule.specs.Sets.{bool_or, tf, in_filter, filter_in}
use Rattle.rule.specs.Permitted.{ones, count}
use Rattle.rule.specs.Rule.{joint, touched, relabel, next_label, Marks, add_pair, add_pairs}
use Rattle.rule.specs.Ground.{Way, stay, way_trans, way_back, pair_way, Shrinks}
use Rattle.rule.specs.Labels.{Full, Same, Sound, and_both, and_cases, or_cases, or_l, or_r, sound_shrinks, two}

not_eqb : (a b : ℕ) → not (eqb a b) ≡ true → a ≡ b → ⊥
not_eqb a b e f = tf e (ap not (eq-eqb a b f))

joint-is : (a b n : ℕ) → (joint a b n ≡ n) ⊎ ((joint a b n ≡ a) × (a ≡ 0 → ⊥)) ⊎ ((joint a b n ≡ b) × (b ≡ 0 → ⊥))
joint-is zero zero n = inl refl
joint-is zero (suc b) n = inr (inr (refl, λ e. omega arith))
joint-is (suc a) zero n = inr (inl (refl, λ e. omega arith))
joint-is (suc a) (suc b) n = ⊎_elim (λ e. rw e (inr (inr (refl, λ f. omega arith)))) (λ e. rw e (inr (inl (refl, λ f. omega arith)))) (bool_or (ltb b a))

pub joint_pos : (a b n : ℕ) → 0 < n → joint a b n ≡ 0 → ⊥
joint_pos a b n h e = cases (joint-is a b n)
  where
    cases : (joint a b n ≡ n) ⊎ ((joint a b n ≡ a) × (a ≡ 0 → ⊥)) ⊎ ((joint a b n ≡ b) × (b ≡ 0 → ⊥)) → ⊥
    cases (inl f) = omega arith
    cases (inr (inl f)) = f.1 (sym f.0 ∙ e)
    cases (inr (inr f)) = f.1 (sym f.0 ∙ e)

next-above : (a b n : ℕ) → a < n → b < n → (n ≤ next_label a b n) × (joint a b n < next_label a b n)
next-above zero zero n h k = omega arith
next-above zero (suc b) n h k = omega arith
next-above (suc a) zero n h k = omega arith
next-above (suc a) (suc b) n h k = ⊎_elim (λ e. rw e (omega arith)) (λ e. rw e (omega arith)) (bool_or (ltb b a))

module _ (lab : ℕ → ℕ) (p q : ℕ) where
  touched-is : (c : ℕ) → touched lab p q c ≡ true → (c ≡ p) ⊎ (c ≡ q) ⊎ Same lab c p ⊎ Same lab c q
  touched-is c e = first (or_cases (eqb c p || eqb c q) (not (eqb (lab c) 0) && (eqb (lab c) (lab p) || eqb (lab c) (lab q))) e)
    where
      ends : (eqb c p ≡ true) ⊎ (eqb c q ≡ true) → (c ≡ p) ⊎ (c ≡ q) ⊎ Same lab c p ⊎ Same lab c q
      ends (inl f) = inl (eqb-true c p f)
      ends (inr f) = inr (inl (eqb-true c q f))

      labs : (lab c ≡ 0 → ⊥) → (eqb (lab c) (lab p) ≡ true) ⊎ (eqb (lab c) (lab q) ≡ true) → (c ≡ p) ⊎ (c ≡ q) ⊎ Same lab c p ⊎ Same lab c q
      labs z (inl f) = inr (inr (inl (eqb-true (lab c) (lab p) f, z)))
      labs z (inr f) = inr (inr (inr (eqb-true (lab c) (lab q) f, z)))

      first : ((eqb c p || eqb c q) ≡ true) ⊎ ((not (eqb (lab c) 0) && (eqb (lab c) (lab p) || eqb (lab c) (lab q))) ≡ true)
          → (c ≡ p) ⊎ (c ≡ q) ⊎ Same lab c p ⊎ Same lab c q
      first (inl f) = ends (or_cases (eqb c p) (eqb c q) f)
      first (inr f) =
          let k : (not (eqb (lab c) 0) ≡ true) × ((eqb (lab c) (lab p) || eqb (lab c) (lab q)) ≡ true) = and_cases _ _ f in
          labs (not_eqb (lab c) 0 k.0) (or_cases _ _ k.1)

  touched-p : (c : ℕ) → c ≡ p → touched lab p q c ≡ true
  touched-p c e = or_l _ _ (or_l _ _ (eq-eqb c p e))

  touched-q : (c : ℕ) → c ≡ q → touched lab p q c ≡ true
  touched-q c e = or_l _ _ (or_r (eqb c p) _ (eq-eqb c q e))

  touched_lab_p : (c : ℕ) → Same lab c p → touched lab p q c ≡ true
  touched_lab_p c s = or_r (eqb c p || eqb c q) _ (and_both _ _ (ap not (ne_eqb (lab c) 0 s.1)) (or_l _ _ (eq-eqb (lab c) (lab p) s.0)))

  touched_lab_q : (c : ℕ) → Same lab c q → touched lab p q c ≡ true
  touched_lab_q c s = or_r (eqb c p || eqb c q) _ (and_both _ _ (ap not (ne_eqb (lab c) 0 s.1)) (or_r (eqb (lab c) (lab p)) _ (eq-eqb (lab c) (lab q) s.0)))

  -- a column with the label of a touched one is touched
  touched_same : (a b : ℕ) → Same lab a b → touched lab p q a ≡ true → touched lab p q b ≡ true
  touched_same a b s e = cases (touched-is a e)
    where
      z : lab b ≡ 0 → ⊥
      z f = s.1 (s.0 ∙ f)

      cases : (a ≡ p) ⊎ (a ≡ q) ⊎ Same lab a p ⊎ Same lab a q → touched lab p q b ≡ true
      cases (inl f) = touched_lab_p b (sym s.0 ∙ ap lab f, z)
      cases (inr (inl f)) = touched_lab_q b (sym s.0 ∙ ap lab f, z)
      cases (inr (inr (inl f))) = touched_lab_p b (sym s.0 ∙ f.0, z)
      cases (inr (inr (inr f))) = touched_lab_q b (sym s.0 ∙ f.0, z)

  module _ (n : ℕ) where
    relabel-t : (c : ℕ) → touched lab p q c ≡ true → relabel lab n p q c ≡ joint (lab p) (lab q) n
    relabel-t c e = ap (λ (t : Bool). cond t (joint (lab p) (lab q) n) (lab c)) e

    relabel-f : (c : ℕ) → touched lab p q c ≡ false → relabel lab n p q c ≡ lab c
    relabel-f c e = ap (λ (t : Bool). cond t (joint (lab p) (lab q) n) (lab c)) e

    -- what had one label has one label afterwards
    pub relabel_keeps : 0 < n → (a b : ℕ) → Same lab a b → Same (relabel lab n p q) a b
    relabel_keeps h a b s = cases (bool_or (touched lab p q a)) (bool_or (touched lab p q b))
      where
        cases : (touched lab p q a ≡ true) ⊎ (touched lab p q a ≡ false) → (touched lab p q b ≡ true) ⊎ (touched lab p q b ≡ false)
            → Same (relabel lab n p q) a b
        cases (inl e) (inl f) = (relabel-t a e ∙ sym (relabel-t b f), λ g. joint_pos (lab p) (lab q) n h (sym (relabel-t a e) ∙ g))
        cases (inl e) (inr f) = absurd (tf (touched_same a b s e) f)
        cases (inr e) (inl f) = absurd (tf (touched_same b a (sym s.0, λ g. s.1 (s.0 ∙ g)) f) e)
        cases (inr e) (inr f) = (relabel-f a e ∙ s.0 ∙ sym (relabel-f b f), λ g. s.1 (sym (relabel-f a e) ∙ g))

    pub relabel_joins : 0 < n → Same (relabel lab n p q) p q
    relabel_joins h =
        (relabel-t p (touched-p p refl) ∙ sym (relabel-t q (touched-q q refl)), λ g. joint_pos (lab p) (lab q) n h (sym (relabel-t p (touched-p p refl)) ∙ g))

    pub relabel_fresh : ((c : ℕ) → lab c < n) → (c : ℕ) → relabel lab n p q c < next_label (lab p) (lab q) n
    relabel_fresh h c =
        let k : (n ≤ next_label (lab p) (lab q) n) × (joint (lab p) (lab q) n < next_label (lab p) (lab q) n) = next-above (lab p) (lab q) n (h p) (h q) in
        ⊎_elim (λ e. omega (arith, relabel-t c e)) (λ e. omega (arith, relabel-f c e, h c)) (bool_or (touched lab p q c))

    -- the new label is no untouched column's
    apart : ((c : ℕ) → lab c < n) → (c : ℕ) → touched lab p q c ≡ false → lab c ≡ joint (lab p) (lab q) n → ⊥
    apart h c e f = cases (joint-is (lab p) (lab q) n)
      where
        cases : (joint (lab p) (lab q) n ≡ n) ⊎ ((joint (lab p) (lab q) n ≡ lab p) × (lab p ≡ 0 → ⊥)) ⊎ ((joint (lab p) (lab q) n ≡ lab q) × (lab q ≡ 0 → ⊥)) → ⊥
        cases (inl g) = omega (arith, h c)
        cases (inr (inl g)) = tf (touched_lab_p c (f ∙ g.0, λ z. g.1 (sym (f ∙ g.0) ∙ z))) e
        cases (inr (inr g)) = tf (touched_lab_q c (f ∙ g.0, λ z. g.1 (sym (f ∙ g.0) ∙ z))) e

module _ (row : ℕ → ℕ → Bool) (C E : List ℕ) (m : Marks) (h : Sound row C E m) (p q : ℕ) (w : Way row C E p q) (mp : In p C) (mq : In q C) where
  near : (c : ℕ) → In c C → touched m.lab p q c ≡ true → Way row C E c p
  near c k e = cases (touched-is m.lab p q c e)
    where
      cases : (c ≡ p) ⊎ (c ≡ q) ⊎ Same m.lab c p ⊎ Same m.lab c q → Way row C E c p
      cases (inl f) = subst (λ (z : ℕ). Way row C E z p) (sym f) stay
      cases (inr (inl f)) = subst (λ (z : ℕ). Way row C E z p) (sym f) (way_back row C E w)
      cases (inr (inr (inl f))) = h.connected c p k mp f
      cases (inr (inr (inr f))) = way_trans row C E (h.connected c q k mq f) (way_back row C E w)

  pub sound_pair : Sound row C E (add_pair m (p ∷ q ∷ []))
  sound_pair = record {
    started = omega (arith, next-above (m.lab p) (m.lab q) m.next (h.fresh p) (h.fresh q));
    fresh = relabel_fresh m.lab p q m.next h.fresh;
    connected = λ a b ma mb e. cases a b ma mb e (bool_or (touched m.lab p q a)) (bool_or (touched m.lab p q b));
  }
    where
      cases : (a b : ℕ) → In a C → In b C → Same (relabel m.lab m.next p q) a b
          → (touched m.lab p q a ≡ true) ⊎ (touched m.lab p q a ≡ false) → (touched m.lab p q b ≡ true) ⊎ (touched m.lab p q b ≡ false)
          → Way row C E a b
      cases a b ma mb s (inl e) (inl f) = way_trans row C E (near a ma e) (way_back row C E (near b mb f))
      cases a b ma mb s (inl e) (inr f) =
          absurd (apart m.lab p q m.next h.fresh b f (sym (relabel-f m.lab p q m.next b f) ∙ sym s.0 ∙ relabel-t m.lab p q m.next a e))
      cases a b ma mb s (inr e) (inl f) =
          absurd (apart m.lab p q m.next h.fresh a e (sym (relabel-f m.lab p q m.next a e) ∙ s.0 ∙ relabel-t m.lab p q m.next b f))
      cases a b ma mb s (inr e) (inr f) =
          h.connected a b ma mb
          (sym (relabel-f m.lab p q m.next a e) ∙ s.0 ∙ relabel-f m.lab p q m.next b f, λ z. s.1 (relabel-f m.lab p q m.next a e ∙ z))

-- rows with exactly two ones, added one after another
module _ (row : ℕ → ℕ → Bool) (C E : List ℕ) where
  sound_row : (m : Marks) → Sound row C E m → (x : ℕ) → In x E → (l : List ℕ) → ones row C x ≡ l → Sound row C E (add_pair m l)
  sound_row m h x k [] e = h
  sound_row m h x k (p ∷ []) e = h
  sound_row m h x k (p ∷ q ∷ []) e =
      sound_pair row C E m h p q (pair_way row C E x p q k e)
      (in_filter (row x) C p (subst (λ (l : List ℕ). In p l) (sym e) (inl refl))).0
      (in_filter (row x) C q (subst (λ (l : List ℕ). In q l) (sym e) (inr (inl refl)))).0
  sound_row m h x k (p ∷ q ∷ c ∷ l) e = h

  pair_keeps : (m : Marks) → 0 < m.next → (l : List ℕ) (a b : ℕ) → Same m.lab a b → Same (add_pair m l).lab a b
  pair_keeps m h [] a b s = s
  pair_keeps m h (p ∷ []) a b s = s
  pair_keeps m h (p ∷ q ∷ []) a b s = relabel_keeps m.lab p q m.next h a b s
  pair_keeps m h (p ∷ q ∷ c ∷ l) a b s = s

  pub sound_rows : (xs : List ℕ) (m : Marks) → ((x : ℕ) → In x xs → In x E) → Sound row C E m → Sound row C E (add_pairs row C m xs)
  sound_rows [] m k h = h
  sound_rows (x ∷ xs) m k h =
      sound_rows xs (add_pair m (ones row C x)) (λ y i. k y (inr i)) (sound_row m h x (k x (inl refl)) (ones row C x) refl)

  rows-keep : (xs : List ℕ) (m : Marks) → ((x : ℕ) → In x xs → In x E) → Sound row C E m → (a b : ℕ) → Same m.lab a b → Same (add_pairs row C m xs).lab a b
  rows-keep [] m k h a b s = s
  rows-keep (x ∷ xs) m k h a b s =
      rows-keep xs (add_pair m (ones row C x)) (λ y i. k y (inr i)) (sound_row m h x (k x (inl refl)) (ones row C x) refl) a b
      (pair_keeps m h.started (ones row C x) a b s)

  pub rows_join : (xs : List ℕ) (m : Marks) → ((x : ℕ) → In x xs → In x E) → Sound row C E m
      → (x p q : ℕ) → In x xs → ones row C x ≡ p ∷ q ∷ [] → Same (add_pairs row C m xs).lab p q
  rows_join [] m k h x p q i e = absurd i
  rows_join (y ∷ xs) m k h x p q (inl f) e =
      let g : ones row C y ≡ p ∷ q ∷ [] = subst (λ (z : ℕ). ones row C z ≡ p ∷ q ∷ []) f e in
      rows-keep xs (add_pair m (ones row C y)) (λ z i. k z (inr i)) (sound_row m h y (k y (inl refl)) (ones row C y) refl) p q
      (subst (λ (l : List ℕ). Same (add_pair m l).lab p q) (sym g) (relabel_joins m.lab p q m.next h.started))
  rows_join (y ∷ xs) m k h x p q (inr i) e =
      rows_join xs (add_pair m (ones row C y)) (λ z j. k z (inr j)) (sound_row m h y (k y (inl refl)) (ones row C y) refl) x p q i e

-- A STEP: V and the eligible rows shrink, and the rows that came down to two ones are added. Both halves of the invariant are kept.
module _ (row : ℕ → ℕ → Bool) (C E C' E' : List ℕ) (m : Marks) (noted : List ℕ) (s : Shrinks row C E C' E')
    (inE : (x : ℕ) → In x noted → In x E')
    (all : (x : ℕ) → In x E' → count row C' x ≡ 2 → In x noted ⊎ (count row C x ≡ 2))
    (sound : Sound row C E m) (full : Full row C E m) where
  pub sound_step : Sound row C' E' (add_pairs row C' m noted)
  sound_step = sound_rows row C' E' noted m inE (sound_shrinks row C E C' E' m s sound)

  pub full-step : Full row C' E' (add_pairs row C' m noted)
  full-step x p q k e = cases (all x k (ap length e))
    where
      old : (c : ℕ) → In c (p ∷ q ∷ []) → In c (ones row C x)
      old c i = let j : In c C' × (row x c ≡ true) = in_filter (row x) C' c (subst (λ (l : List ℕ). In c l) (sym e) i) in filter_in (row x) C c (s.columns c j.0) j.1

      which : (a b : ℕ) → ones row C x ≡ a ∷ b ∷ [] → (c : ℕ) → In c (p ∷ q ∷ []) → m.lab c ≡ m.lab a
      which a b f c i =
          ⊎_elim (λ g. ap m.lab g) (λ g. ⊎_elim (λ j. ap m.lab j ∙ sym (full x a b (s.rows x k) f).0) absurd g)
          (subst (λ (l : List ℕ). In c l) f (old c i))

      cases : In x noted ⊎ (count row C x ≡ 2) → Same (add_pairs row C' m noted).lab p q
      cases (inl i) = rows_join row C' E' noted m inE (sound_shrinks row C E C' E' m s sound) x p q i e
      cases (inr f) =
          let t : (a : ℕ) × (b : ℕ) × (ones row C x ≡ a ∷ b ∷ []) = two (ones row C x) f in
          let g : m.lab p ≡ m.lab t.0 = which t.0 t.1 t.2 p (inl refl) in
          let i : m.lab q ≡ m.lab t.0 = which t.0 t.1 t.2 q (inr (inl refl)) in
          rows-keep row C' E' noted m inE (sound_shrinks row C E C' E' m s sound) p q
          (g ∙ sym i, λ z. (full x t.0 t.1 (s.rows x k) t.2).1 (sym g ∙ z))
