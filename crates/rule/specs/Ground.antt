-- The grounded graph. Every column outside V is ground. A row links its last one or two columns of V, and one that has a single one links it to ground.
--   Half, Link, Way       a row's link from one of its columns, a link either way, and links one after another
--   way_trans, way_back   ways join, and go back
--   Shrinks, way_shrinks  taking columns out of V keeps every connection
--   pair_way              the two ones of a row are connected
--   way_reach             where no row has a single one, what is connected within V is reached by pairs
-- Assumes nothing.
use Rattle.std.specs.Prelude.{◌≡◌, refl, ◌⊎◌, List, [], ◌∷◌, Bool, true, false, ℕ, eqb}
use Rattle.std.proofs.Common.{sym, subst, inl, inr, ⊎_elim, eqb-true}
use Rattle.std.proofs.lemmas.Bool.{eqb-false}
use Rattle.rule.specs.Lists.{In, Nodup}
use Rattle.rule.specs.Sets.{bool_or, in?, in_filter, filter_in, nodup_filter, only_one, only_two, in_cast}
use Rattle.rule.specs.Permitted.{ones, count, Joined, Reach, here, along}

-- row x, with a one at p in V, has no one in V but at p and q; q is such a one, or ground
pub record Half (row : ℕ → ℕ → Bool) (C E : List ℕ) (p q : ℕ) : Type 0 where
  pub x : ℕ
  pub eligible : In x E
  pub at : row x p ≡ true
  pub inside : In p C
  pub only : (c : ℕ) → In c C → row x c ≡ true → (c ≡ p) ⊎ (c ≡ q)
  pub far : (In q C → ⊥) ⊎ (row x q ≡ true)

pub data Link (row : ℕ → ℕ → Bool) (C E : List ℕ) (p q : ℕ) : Type 0 where
  out : (In p C → ⊥) → (In q C → ⊥) → Link row C E p q
  to : Half row C E p q → Link row C E p q
  from : Half row C E q p → Link row C E p q

pub data Way (row : ℕ → ℕ → Bool) (C E : List ℕ) : ℕ → ℕ → Type 0 where
  stay : {p : ℕ} → Way row C E p p
  go : {p q s : ℕ} → Link row C E p q → Way row C E q s → Way row C E p s

module _ (row : ℕ → ℕ → Bool) (C E : List ℕ) where
  link_back : {p q : ℕ} → Link row C E p q → Link row C E q p
  link_back (out a b) = out b a
  link_back (to h) = from h
  link_back (from h) = to h

  pub way_trans : {p q s : ℕ} → Way row C E p q → Way row C E q s → Way row C E p s
  way_trans stay w = w
  way_trans (go l v) w = go l (way_trans v w)

  pub way_back : {p q : ℕ} → Way row C E p q → Way row C E q p
  way_back stay = stay
  way_back (go l v) = way_trans (way_back v) (go (link_back l) stay)

-- V and the eligible rows lose members; a row that is no longer eligible has no one left in V
pub record Shrinks (row : ℕ → ℕ → Bool) (C E C' E' : List ℕ) : Type 0 where
  pub columns : (q : ℕ) → In q C' → In q C
  pub rows : (x : ℕ) → In x E' → In x E
  pub used : (x : ℕ) → In x E → In x E' ⊎ ((c : ℕ) → In c C' → row x c ≡ true → ⊥)

module _ (row : ℕ → ℕ → Bool) (C E C' E' : List ℕ) (s : Shrinks row C E C' E') where
  still : (x c : ℕ) → In x E → In c C' → row x c ≡ true → In x E'
  still x c m k e = ⊎_elim (λ y. y) (λ n. absurd (n c k e)) (s.used x m)

  half_shrinks : {p q : ℕ} → Half row C E p q → Link row C' E' p q
  half_shrinks {p} {q} h = cases (in? p C') (in? q C') h.far
    where
      swap : {A B : Type 0} → A ⊎ B → B ⊎ A
      swap (inl a) = inr a
      swap (inr b) = inl b

      cases : In p C' ⊎ (In p C' → ⊥) → In q C' ⊎ (In q C' → ⊥) → (In q C → ⊥) ⊎ (row h.x q ≡ true) → Link row C' E' p q
      cases (inr a) (inr b) f = out a b
      cases (inl a) (inr b) f =
          to record { x = h.x; eligible = still h.x p h.eligible a h.at; at = h.at; inside = a; only = λ c m. h.only c (s.columns c m); far = inl b }
      cases (inl a) (inl b) (inl f) = absurd (f (s.columns q b))
      cases (inl a) (inl b) (inr f) =
          to record { x = h.x; eligible = still h.x p h.eligible a h.at; at = h.at; inside = a; only = λ c m. h.only c (s.columns c m); far = inr f }
      cases (inr a) (inl b) (inl f) = absurd (f (s.columns q b))
      cases (inr a) (inl b) (inr f) =
          from record { x = h.x; eligible = still h.x q h.eligible b f; at = f; inside = b; only = λ c m e. swap (h.only c (s.columns c m) e); far = inl a }

  link_shrinks : {p q : ℕ} → Link row C E p q → Link row C' E' p q
  link_shrinks {p} {q} (out a b) = out (λ m. a (s.columns p m)) (λ m. b (s.columns q m))
  link_shrinks (to h) = half_shrinks h
  link_shrinks {p} {q} (from h) = link_back row C' E' (half_shrinks h)

  pub way_shrinks : {p q : ℕ} → Way row C E p q → Way row C' E' p q
  way_shrinks stay = stay
  way_shrinks (go l w) = go (link_shrinks l) (way_shrinks w)

-- a row with exactly two ones is a way between them
pub pair_way : (row : ℕ → ℕ → Bool) (C E : List ℕ) (x p q : ℕ) → In x E → ones row C x ≡ p ∷ q ∷ [] → Way row C E p q
pair_way row C E x p q m e =
    let a : In p C × (row x p ≡ true) = in_filter (row x) C p (subst (λ (l : List ℕ). In p l) (sym e) (inl refl)) in
    let b : In q C × (row x q ≡ true) = in_filter (row x) C q (subst (λ (l : List ℕ). In q l) (sym e) (inr (inl refl))) in
    go (to record {
      x = x;
      eligible = m;
      at = a.1;
      inside = a.0;
      only = λ c k t. ⊎_elim (λ y. inl y) (λ y. ⊎_elim (λ z. inr z) absurd y) (subst (λ (l : List ℕ). In c l) e (filter_in (row x) C c k t));
      far = inr b.1;
    }) stay

-- without single rows ground is isolated
module _ (row : ℕ → ℕ → Bool) (C E : List ℕ) (once : Nodup C) (none1 : (x : ℕ) → In x E → count row C x ≡ 1 → ⊥) where
  half_inside : {p q : ℕ} (h : Half row C E p q) → In q C × (row h.x q ≡ true)
  half_inside {p} {q} h = cases (in? q C) h.far
    where
      cases : In q C ⊎ (In q C → ⊥) → (In q C → ⊥) ⊎ (row h.x q ≡ true) → In q C × (row h.x q ≡ true)
      cases (inl a) (inl f) = absurd (f a)
      cases (inl a) (inr f) = (a, f)
      cases (inr b) f =
          absurd (none1 h.x h.eligible
          (only_one (ones row C h.x) p (nodup_filter (row h.x) C once) (filter_in (row h.x) C p h.inside h.at)
          (λ c m. let k : In c C × (row h.x c ≡ true) = in_filter (row h.x) C c m in
          ⊎_elim (λ e. e) (λ e. absurd (b (in_cast q c C (sym e) k.0))) (h.only c k.0 k.1))))

  half_joined : {p q : ℕ} → Half row C E p q → (p ≡ q) ⊎ Joined row C E p q
  half_joined {p} {q} h = cases (bool_or (eqb p q))
    where
      cases : (eqb p q ≡ true) ⊎ (eqb p q ≡ false) → (p ≡ q) ⊎ Joined row C E p q
      cases (inl e) = inl (eqb-true p q e)
      cases (inr e) =
          let k : In q C × (row h.x q ≡ true) = half_inside h in
          inr (
            h.x,
            h.eligible,
            only_two (ones row C h.x) p q (nodup_filter (row h.x) C once)
                (filter_in (row h.x) C p h.inside h.at) (filter_in (row h.x) C q k.0 k.1) (eqb-false p q e)
                (λ c m. h.only c (in_filter (row h.x) C c m).0 (in_filter (row h.x) C c m).1),
          )

  joined_back : {p q : ℕ} → Joined row C E p q → Joined row C E q p
  joined_back j = (j.0, j.1, ⊎_elim (λ e. inr e) (λ e. inl e) j.2)

  link_reach : {p q s : ℕ} → Link row C E p q → In p C → In q C × (Reach row C E q s → Reach row C E p s)
  link_reach {p} {q} {s} (out a b) m = absurd (a m)
  link_reach {p} {q} {s} (to h) m = (
    (half_inside h).0,
    λ r. ⊎_elim (λ (e : p ≡ q). subst (λ (z : ℕ). Reach row C E z s) (sym e) r) (λ (j : Joined row C E p q). along j r) (half_joined h),
  )
  link_reach {p} {q} {s} (from h) m = (
    h.inside,
    λ r. ⊎_elim (λ (e : q ≡ p). subst (λ (z : ℕ). Reach row C E z s) e r) (λ (j : Joined row C E q p). along (joined_back j) r) (half_joined h),
  )

  pub way_reach : {p q : ℕ} → Way row C E p q → In p C → Reach row C E p q
  way_reach stay m = here
  way_reach {q = s} (go {p = p} {q = q} l w) m =
      let k : In q C × (Reach row C E q s → Reach row C E p s) = link_reach l m in
      k.1 (way_reach w k.0)
