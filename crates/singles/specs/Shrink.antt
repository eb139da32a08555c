-- A step over the figures does what the definition says, where the figures are the rows' ones in V.
--   Agree            the figures of the rows ys are f
--   Dropped, dropped, dropped_all   a column leaves V; columns leave it one after another
--   Lost             a column leaves V, for one row: the singles, that row's figure, and the others as they were
--   Renewed          rows are taken out and put in again: the singles, and the counts as they were
--   Stepped          what a step leaves: the singles, the figures of the rows that stay, and as many figures as before
--   shrunk-is        a step's singles are `next_singles`, and the figures of the rows that stay are their ones in what is left of V
-- Assumes nothing.
use Rattle.std.specs.Prelude.{◌≡◌, Bool, ℕ, ◌-◌, ◌<◌}
use Rattle.std.proofs.Math.Path.{refl, sym, ap}
use Rattle.std.proofs.Common.{◌∙◌, inl, inr, arith}
use Rattle.std.proofs.Math.Logic.{⊎_elim}
use mathlib.Core.List.{List, [], ◌∷◌, ◌++◌}
use Rattle.std.proofs.Math.Bool.{true, false, cond}
use Rattle.std.proofs.Math.ListN.{length, get_or, length-set}
use Rattle.std.proofs.Math.Seq.{get_or-set_same, get_or-set_other}
use Rattle.rule.specs.Lists.{In, Nodup}
use Rattle.rule.specs.Sets.{in_cast}
use Rattle.rule.specs.Permitted.{count}
use Rattle.rule.specs.Rule.{lose, lose_first, refresh, lose_col, lose_cols, refresh_all, finish, next_singles}
use Rattle.rule.specs.Step.{count-one, count_skip}
use Rattle.singles.specs.Figures.{Fig, lose_one, first_loss, renew_one, each, drop_col, drop_cols, renew, renewed, shrunk}

pub record Agree (f : ℕ → ℕ) (ys fig : List ℕ) : Type 0 where
  pub low : (y : ℕ) → In y ys → y < length fig
  pub is : (y : ℕ) → In y ys → get_or fig y 0 ≡ f y

module _ (row : ℕ → ℕ → Bool) where
  -- what became of f: the singles are t, the figures of ys are those of g, the others as they were
  pub record Dropped (t : List ℕ) (g : ℕ → ℕ) (ys : List ℕ) (f h : Fig) : Type 0 where
    pub singles : h.singles ≡ t
    pub here : (y : ℕ) → In y ys → get_or h.cnt y 0 ≡ g y
    pub other : (z : ℕ) → (In z ys → ⊥) → get_or h.cnt z 0 ≡ get_or f.cnt z 0
    pub long : length h.cnt ≡ length f.cnt

  -- one row
  module _ (c : ℕ) (rest : List ℕ) (y : ℕ) (f : Fig) (low : y < length f.cnt) (was : get_or f.cnt y 0 ≡ count row (c ∷ rest) y) where
    pub record Lost (h : Fig) : Type 0 where
      pub singles : h.singles ≡ cond (row y c) (lose f.singles y (count row rest y)) f.singles
      pub here : get_or h.cnt y 0 ≡ count row rest y
      pub other : (z : ℕ) → (z ≡ y → ⊥) → get_or h.cnt z 0 ≡ get_or f.cnt z 0
      pub long : length h.cnt ≡ length f.cnt

    lost : (b : Bool) → row y c ≡ b → Lost (cond b (lose_one y f) f)
    unfolding lose_one
    lost true e =
        let k : get_or f.cnt y 0 - 1 ≡ count row rest y = omega (arith, was, count-one row c rest y e) in
        record {
          singles = ap (lose f.singles y) k ∙ sym (ap (λ (t : Bool). cond t (lose f.singles y (count row rest y)) f.singles) e);
          here = get_or-set_same f.cnt y (get_or f.cnt y 0 - 1) 0 low ∙ k;
          other = λ z d. get_or-set_other f.cnt y z (get_or f.cnt y 0 - 1) 0 d;
          long = length-set f.cnt y (get_or f.cnt y 0 - 1);
        }
    lost false e = record {
      singles = sym (ap (λ (t : Bool). cond t (lose f.singles y (count row rest y)) f.singles) e);
      here = was ∙ count_skip row c rest y e;
      other = λ z d. refl;
      long = refl;
    }

  pub dropped : (c : ℕ) (rest ys : List ℕ) (f : Fig) → Nodup ys → Agree (count row (c ∷ rest)) ys f.cnt
      → Dropped (lose_col row rest c ys f.singles) (count row rest) ys f (drop_col row c ys f)
  unfolding each
  dropped c rest [] f n a = record { singles = refl; here = λ y m. absurd m; other = λ z m. refl; long = refl }
  dropped c rest (y ∷ ys) f n a =
      let f₁ : Fig = cond (row y c) (lose_one y f) f in
      let o : Lost c rest y f (a.low y (inl refl)) (a.is y (inl refl)) (cond (row y c) (lose_one y f) f) = lost c rest y f (a.low y (inl refl)) (a.is y (inl refl)) (row y c) refl in
      let r : Dropped (lose_col row rest c ys f₁.singles) (count row rest) ys f₁ (drop_col row c ys f₁) =
      dropped c rest ys f₁ n.1 (record {
        low = λ z m. omega (arith, a.low z (inr m), o.long);
        is = λ z m. o.other z (λ e. n.0 (in_cast y z ys (sym e) m)) ∙ a.is z (inr m);
      }) in
      record {
        singles = r.singles ∙ ap (lose_col row rest c ys) o.singles;
        here = λ z m. ⊎_elim (λ (e : z ≡ y). ap (λ (w : ℕ). get_or (drop_col row c ys f₁).cnt w 0) e ∙ r.other y n.0 ∙ o.here ∙ ap (count row rest) (sym e)) (λ (k : In z ys). r.here z k) m;
        other = λ z m. r.other z (λ k. m (inr k)) ∙ o.other z (λ e. m (inl e));
        long = r.long ∙ o.long;
      }

  pub dropped_all : (C' qs ys : List ℕ) (f : Fig) → Nodup ys → Agree (count row (qs ++ C')) ys f.cnt
      → Dropped (lose_cols row C' ys qs f.singles) (count row C') ys f (drop_cols row qs ys f)
  unfolding drop_cols
  dropped_all C' [] ys f n a = record { singles = refl; here = a.is; other = λ z m. refl; long = refl }
  dropped_all C' (q ∷ qs) ys f n a =
      let f₁ : Fig = drop_col row q ys f in
      let o : Dropped (lose_col row (qs ++ C') q ys f.singles) (count row (qs ++ C')) ys f f₁ = dropped q (qs ++ C') ys f n a in
      let r : Dropped (lose_cols row C' ys qs f₁.singles) (count row C') ys f₁ (drop_cols row qs ys f₁) =
      dropped_all C' qs ys f₁ n (record { low = λ z m. omega (arith, a.low z m, o.long); is = o.here }) in
      record {
        singles = r.singles ∙ ap (lose_cols row C' ys qs) o.singles;
        here = r.here;
        other = λ z m. r.other z m ∙ o.other z m;
        long = r.long ∙ o.long;
      }

  -- rows taken out and put in again: the figures stay
  pub record Renewed (t : List ℕ) (f h : Fig) : Type 0 where
    pub singles : h.singles ≡ t
    pub cnt : h.cnt ≡ f.cnt

  renews : (q : ℕ) (C' ys : List ℕ) (f : Fig) → ((y : ℕ) → In y ys → get_or f.cnt y 0 ≡ count row C' y)
      → Renewed (refresh_all row C' q ys f.singles) f (renew row q ys f)
  unfolding each renew_one
  renews q C' [] f a = record { singles = refl; cnt = refl }
  renews q C' (y ∷ ys) f a = go (row y q) refl (renews q C' ys (renew_one y f) (λ z m. a z (inr m))) (renews q C' ys f (λ z m. a z (inr m)))
    where
      go : (b : Bool) → row y q ≡ b → Renewed (refresh_all row C' q ys (renew_one y f).singles) (renew_one y f) (renew row q ys (renew_one y f)) → Renewed (refresh_all row C' q ys f.singles) f (renew row q ys f)
          → Renewed (refresh_all row C' q ys (cond b (refresh f.singles y (count row C' y)) f.singles)) f (each (λ z. row z q) renew_one ys (cond b (renew_one y f) f))
      go true e r u =
          record { singles = r.singles ∙ ap (λ (k : ℕ). refresh_all row C' q ys (refresh f.singles y k)) (a y (inl refl)); cnt = r.cnt }
      go false e r u = u

  -- a step: the chosen row has a one at the pivot
  module _ (x : ℕ) (ys : List ℕ) (p : ℕ) (out C' : List ℕ) (f : Fig) (n : Nodup (x ∷ ys)) (a : Agree (count row (p ∷ (out ++ C'))) (x ∷ ys) f.cnt) (one : row x p ≡ true) where
    f₁ : Fig
    f₁ = first_loss x f

    less : get_or f.cnt x 0 - 1 ≡ count row (out ++ C') x
    less = omega (arith, a.is x (inl refl), count-one row p (out ++ C') x one)

    f₁_x : get_or f₁.cnt x 0 ≡ count row (out ++ C') x
    unfolding first_loss f₁
    f₁_x = get_or-set_same f.cnt x (get_or f.cnt x 0 - 1) 0 (a.low x (inl refl)) ∙ less

    f₁_other : (z : ℕ) → (z ≡ x → ⊥) → get_or f₁.cnt z 0 ≡ get_or f.cnt z 0
    unfolding first_loss f₁
    f₁_other z d = get_or-set_other f.cnt x z (get_or f.cnt x 0 - 1) 0 d

    f₁_long : length f₁.cnt ≡ length f.cnt
    unfolding first_loss f₁
    f₁_long = length-set f.cnt x (get_or f.cnt x 0 - 1)

    f₁_singles : f₁.singles ≡ lose_first f.singles x (count row (out ++ C') x)
    unfolding first_loss f₁
    f₁_singles = ap (lose_first f.singles x) less

    second : Dropped (lose_col row (out ++ C') p ys f₁.singles) (count row (out ++ C')) ys f₁ (drop_col row p ys f₁)
    second = dropped p (out ++ C') ys f₁ n.1 (record {
      low = λ z m. omega (arith, a.low z (inr m), f₁_long);
      is = λ z m. f₁_other z (λ e. n.0 (in_cast x z ys (sym e) m)) ∙ a.is z (inr m);
    })

    f₂ : Fig
    f₂ = drop_col row p ys f₁

    third : Dropped (lose_cols row C' (x ∷ ys) out f₂.singles) (count row C') (x ∷ ys) f₂ (drop_cols row out (x ∷ ys) f₂)
    unfolding f₂
    third = dropped_all C' out (x ∷ ys) f₂ n (record {
      low = λ z m. omega (arith, a.low z m, f₁_long, second.long);
      is = λ z m. ⊎_elim (λ (e : z ≡ x). ap (λ (w : ℕ). get_or f₂.cnt w 0) e ∙ second.other x n.0 ∙ f₁_x ∙ ap (count row (out ++ C')) (sym e)) (λ (k : In z ys). second.here z k) m;
    })

    pub record Stepped (h : Fig) : Type 0 where
      pub singles : h.singles ≡ next_singles row C' x ys p out f.singles
      pub figures : Agree (count row C') ys h.cnt
      pub long : length h.cnt ≡ length f.cnt

    pub shrunk-is : Stepped (shrunk row x ys p out f)
    unfolding shrunk renewed f₁ f₂
    shrunk-is =
        let f₃ : Fig = drop_cols row out (x ∷ ys) f₂ in
        let s : f₃.singles ≡ lose_cols row C' (x ∷ ys) out (lose_col row (out ++ C') p ys (lose_first f.singles x (count row (out ++ C') x))) =
        third.singles ∙ ap (lose_cols row C' (x ∷ ys) out) (second.singles ∙ ap (lose_col row (out ++ C') p ys) f₁_singles) in
        let l : length f₃.cnt ≡ length f.cnt = third.long ∙ second.long ∙ f₁_long in
        let g : (y : ℕ) → In y ys → get_or f₃.cnt y 0 ≡ count row C' y = λ y m. third.here y (inr m) in
        let r = go out f₃ s l g in
        record { singles = r.0; figures = r.1; long = r.2 }
      where
        go : (o : List ℕ) (h : Fig) {t : List ℕ} → h.singles ≡ t → length h.cnt ≡ length f.cnt → ((y : ℕ) → In y ys → get_or h.cnt y 0 ≡ count row C' y)
            → ((renewed row p ys o h).singles ≡ finish row C' ys p o t) × Agree (count row C') ys (renewed row p ys o h).cnt × (length (renewed row p ys o h).cnt ≡ length f.cnt)
        go [] h s l g = (s, record { low = λ y m. omega (arith, a.low y (inr m)); is = g }, l)
        go (q ∷ o) h s l g =
            let r : Renewed (refresh_all row C' p ys h.singles) h (renew row p ys h) = renews p C' ys h g in (
              r.singles ∙ ap (refresh_all row C' p ys) s,
              record { low = λ y m. omega (arith, a.low y (inr m), ap length r.cnt); is = λ y m. ap (λ (z : List ℕ). get_or z y 0) r.cnt ∙ g y m },
              ap length r.cnt ∙ l,
            )
