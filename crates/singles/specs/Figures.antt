-- The row figures: how many ones of V each row has left, and the rows with a single one in their order.
--   Fig, fig             the figures, and those in two lent slices of which the second has n entries in use
--   each                 a change for each row of a list that passes a test, from the top
--   lose_one, drop_col, drop_cols   a row loses a one; a column leaves V; columns leave V one after another
--   first_loss, renew, shrunk     the chosen row's first loss; rows taken out and put in again; a whole step
--   renew_one, renewed    one row taken out, and put in again if it has a single one; `renew`, if columns besides the pivot leave V
--   Held, Sound          the rows of the list have a single one, none of them twice
--   room-left, absent    a row that is not in the list has a place there; a row whose count is not one is not in the list
--   lose_held, first_held, renew_held   the list stays so: where a row loses a one, at the chosen row's first loss, where a row is renewed
--   Done                 the slices went from one state to what g makes of it
--   done-one             two outcomes that meet it are equal in what is in use
--   then                 one such change, and then another
--   lose-room, renew-room   there is room for the row that is put in
--   lose-done, first_done, renew-done   the change of a row, by what the slice of the list then holds
--   Going                where a loop over the rows ys stands: k of them are done
--   going_hit, going_skip, going_end   it changes a row, skips one, is over
--   Leaving              where a loop over the columns qs stands: k of them have left V
--   leaving_next, leaving_end   it makes a turn, is over
--   step-one, step_more  a step, by its parts: only the pivot leaves V; other columns leave it too
--   tail_each            what holds of each number of x ∷ ys holds of each of ys
--   rows_tail, under_tail   so with rows that lie in the matrix, and with numbers below n
--   under_still          numbers below n are below a number equal to n
-- Assumes nothing.
use Rattle.std.specs.Prelude.{◌≡◌, refl, Bool, true, false, cond, ℕ, zero, suc, ◌+◌, ◌-◌, ◌*◌, ◌≤◌, ◌<◌, get_or, set, take, drop, eqb}
use Rattle.std.proofs.Math.Path.{sym, ap, ap₂, subst}
use Rattle.std.proofs.Common.{◌∙◌, inl, inr, ⊎_elim, arith, get_or-set_same, get_or-set_other, length-take-le, eqb-true}
use mathlib.Core.List.{List, [], ◌∷◌, ◌++◌}
use Rattle.std.proofs.Math.ListN.{length, length-set}
use Rattle.std.proofs.lemmas.Bool.{eqb-false}
use Rattle.loops.specs.Part.{drop-next}
use Rattle.rule.specs.Lists.{In, Nodup}
use Rattle.rule.specs.Sets.{bool_or, in_cast, sub_length}
use Rattle.rule.specs.Rule.{swap_remove, lose, lose_first, refresh}
use Rattle.rule.specs.Singles.{in_either, Removed, nodup_snoc}
use Rattle.rule.proofs.Singles.{removed}
use Rattle.grid.specs.Grid.{gone, Under, Rows}
use Rattle.figures.specs.Told.{Taken}
use Rattle.singles.specs.Facts.{Kept, front-one}

pub record Fig : Type 0 where
  pub cnt : List ℕ
  pub singles : List ℕ

abbrev pub fig : List ℕ → List ℕ → ℕ → Fig
fig ones s n = record { cnt = ones; singles = take n s }

-- row y has one fewer, none if it had none
unfoldable pub lose_one : ℕ → Fig → Fig
lose_one y f = record { cnt = set f.cnt y (get_or f.cnt y 0 - 1); singles = lose f.singles y (get_or f.cnt y 0 - 1) }

unfoldable pub first_loss : ℕ → Fig → Fig
first_loss y f = record { cnt = set f.cnt y (get_or f.cnt y 0 - 1); singles = lose_first f.singles y (get_or f.cnt y 0 - 1) }

unfoldable pub renew_one : ℕ → Fig → Fig
renew_one y f = record { cnt = f.cnt; singles = refresh f.singles y (get_or f.cnt y 0) }

-- g for each row of ys that passes, from the top
unfoldable pub each : (ℕ → Bool) → (ℕ → Fig → Fig) → List ℕ → Fig → Fig
each p g [] f = f
each p g (y ∷ ys) f = each p g ys (cond (p y) (g y f) f)

-- column q leaves V: the rows ys with a one there lose it
abbrev pub drop_col : (ℕ → ℕ → Bool) → ℕ → List ℕ → Fig → Fig
drop_col row q ys f = each (λ y. row y q) lose_one ys f

unfoldable pub drop_cols : (ℕ → ℕ → Bool) → List ℕ → List ℕ → Fig → Fig
drop_cols row [] ys f = f
drop_cols row (q ∷ qs) ys f = drop_cols row qs ys (drop_col row q ys f)

abbrev pub renew : (ℕ → ℕ → Bool) → ℕ → List ℕ → Fig → Fig
renew row q ys f = each (λ y. row y q) renew_one ys f

unfoldable pub renewed : (ℕ → ℕ → Bool) → ℕ → List ℕ → List ℕ → Fig → Fig
renewed row q ys [] f = f
renewed row q ys (g ∷ gone) f = renew row q ys f

-- a step: row x is chosen, the rows ys stay; the column `pivot` goes, then the columns `gone`
unfoldable pub shrunk : (ℕ → ℕ → Bool) → ℕ → List ℕ → ℕ → List ℕ → Fig → Fig
shrunk row x ys pivot gone f = renewed row pivot ys gone (drop_cols row gone (x ∷ ys) (drop_col row pivot ys (first_loss x f)))

pub record Held (cnt s : List ℕ) : Type 0 where
  pub once : Nodup s
  pub under : (z : ℕ) → In z s → z < length cnt
  pub single : (z : ℕ) → In z s → get_or cnt z 0 ≡ 1

-- the numbers below n
abbrev below : ℕ → List ℕ
below zero = []
below (suc n) = n ∷ below n

in_below : (n z : ℕ) → z < n → In z (below n)
in_below zero z h = absurd (omega arith)
in_below (suc n) z h = ⊎_elim (λ e. inl (eqb-true z n e)) (λ e. let d : (z ≡ n → ⊥) = eqb-false z n e in inr (in_below n z (omega arith))) (bool_or (eqb z n))

length-below : (n : ℕ) → length (below n) ≡ n
length-below zero = refl
length-below (suc n) = ap suc (length-below n)

-- a row that is not in the list has a place there
pub room-left : {cnt s : List ℕ} (y : ℕ) → Held cnt s → y < length cnt → (In y s → ⊥) → length s < length cnt
room-left {cnt} {s} y h l n =
    omega (
      arith,
      length-below (length cnt),
      sub_length (y ∷ s) (below (length cnt)) (n, h.once)
          (λ z m. ⊎_elim (λ e. in_below (length cnt) z (omega arith)) (λ k. in_below (length cnt) z (h.under z k)) m),
    )

module _ {cnt s : List ℕ} (h : Held cnt s) (y : ℕ) where
  -- a row whose count is not one is not in the list
  pub absent : (get_or cnt y 0 ≡ 1 → ⊥) → In y s → ⊥
  absent n m = n (h.single y m)

  out : (v : ℕ) → Held (set cnt y v) (swap_remove y s)
  out v =
      let r : Removed y s (swap_remove y s) = removed y s h.once in
      record {
        once = r.once;
        under = λ z m. omega (arith, h.under z (r.from z m).0, length-set cnt y v);
        single = λ z m. get_or-set_other cnt y z v 0 (r.from z m).1 ∙ h.single z (r.from z m).0;
      }

  stay : (v : ℕ) → (In y s → ⊥) → Held (set cnt y v) s
  stay v n = record {
    once = h.once;
    under = λ z m. omega (arith, h.under z m, length-set cnt y v);
    single = λ z m. get_or-set_other cnt y z v 0 (λ e. n (in_cast y z s (sym e) m)) ∙ h.single z m;
  }

  push : y < length cnt → (In y s → ⊥) → Held (set cnt y 1) (s ++ (y ∷ []))
  push l n = record {
    once = nodup_snoc s y h.once n;
    under = λ z m. omega (arith, length-set cnt y 1, ⊎_elim {C = z < length cnt} (h.under z) (λ k. ⊎_elim (λ (e : z ≡ y). omega arith) absurd k) (in_either z s (y ∷ []) m));
    single = λ z m. ⊎_elim (λ (k : In z s). get_or-set_other cnt y z 1 0 (λ e. n (in_cast y z s (sym e) k)) ∙ h.single z k)
        (λ k. ⊎_elim (λ (e : z ≡ y). ap (λ (w : ℕ). get_or (set cnt y 1) w 0) e ∙ get_or-set_same cnt y 1 0 l) absurd k) (in_either z s (y ∷ []) m);
  }

  pub lose_held : y < length cnt → (k : ℕ) → k ≡ get_or cnt y 0 - 1 → Held (set cnt y k) (lose s y k)
  lose_held l zero e = out 0
  lose_held l (suc zero) e = push l (absent (λ o. omega arith))
  lose_held l (suc (suc k)) e = stay (suc (suc k)) (absent (λ o. omega arith))

  pub first_held : (k : ℕ) → k ≡ get_or cnt y 0 - 1 → Held (set cnt y k) (lose_first s y k)
  first_held zero e = out 0
  first_held (suc k) e = stay (suc k) (absent (λ o. omega arith))

  pub renew_held : y < length cnt → (k : ℕ) → k ≡ get_or cnt y 0 → Held cnt (refresh s y k)
  renew_held l k e = go k e
    where
      r : Removed y s (swap_remove y s)
      r = removed y s h.once

      less : Held cnt (swap_remove y s)
      less = record { once = r.once; under = λ z m. h.under z (r.from z m).0; single = λ z m. h.single z (r.from z m).0 }

      more : get_or cnt y 0 ≡ 1 → Held cnt (swap_remove y s ++ (y ∷ []))
      more o = record {
        once = nodup_snoc (swap_remove y s) y r.once (λ m. (r.from y m).1 refl);
        under = λ z m. ⊎_elim {C = z < length cnt} (less.under z) (λ k. ⊎_elim (λ (e : z ≡ y). omega arith) absurd k) (in_either z (swap_remove y s) (y ∷ []) m);
        single = λ z m. ⊎_elim (less.single z) (λ k. ⊎_elim (λ (e : z ≡ y). ap (λ (w : ℕ). get_or cnt w 0) e ∙ o) absurd k) (in_either z (swap_remove y s) (y ∷ []) m);
      }

      go : (k : ℕ) → k ≡ get_or cnt y 0 → Held cnt (refresh s y k)
      go zero e = less
      go (suc zero) e = more (sym e)
      go (suc (suc k)) e = less

-- what the slices hold is right
pub record Sound (ones s : List ℕ) (n : ℕ) : Type 0 where
  pub room : length s ≡ length ones
  pub used : n ≤ length s
  pub held : Held ones (take n s)

pub record Done (g : Fig → Fig) (ones₀ s₀ : List ℕ) (n₀ : ℕ) (ones s : List ℕ) (n : ℕ) : Type 0 where
  pub same : length ones ≡ length ones₀
  pub room : length s ≡ length s₀
  pub sound : Sound ones s n
  pub is : fig ones s n ≡ g (fig ones₀ s₀ n₀)

pub done-one : {g : Fig → Fig} {ones₀ s₀ ones s ones' s' : List ℕ} {n₀ n n' : ℕ} → Done g ones₀ s₀ n₀ ones s n → Done g ones₀ s₀ n₀ ones' s' n'
    → (ones ≡ ones') × (n ≡ n') × (take n s ≡ take n' s')
done-one {s = s} {s' = s'} {n = n} {n' = n'} p q =
    let e = p.is ∙ sym q.is in
    let l = ap (λ (f : Fig). f.singles) e in
    (ap (λ (f : Fig). f.cnt) e, front-one s s' n n' p.sound.used q.sound.used l, l)

pub then : {g h : Fig → Fig} {ones₀ s₀ ones₁ s₁ ones s : List ℕ} {n₀ n₁ n : ℕ}
    → Done g ones₀ s₀ n₀ ones₁ s₁ n₁ → Done h ones₁ s₁ n₁ ones s n → Done (λ f. h (g f)) ones₀ s₀ n₀ ones s n
then {g} {h} a b = record { same = b.same ∙ a.same; room = b.room ∙ a.room; sound = b.sound; is = b.is ∙ ap h a.is }

abbrev two : List ℕ → List ℕ → Fig
two c s = record { cnt = c; singles = s }

module _ {ones left s : List ℕ} {n y k : ℕ} (h : Sound ones s n) (l : y < length ones) (a : Taken ones y left k) where
  pub lose-room : k ≡ 1 → n < length s
  lose-room o =
      let b : In y (take n s) → ⊥ = absent h.held y (λ u. omega (arith, a.left)) in
      omega (arith, h.room, room-left y h.held l b, length-take-le n s h.used)

  pub lose-done : {t : List ℕ} {r : ℕ} → Kept s t r (lose (take n s) y k) → Done (lose_one y) ones s n left t r
  unfolding lose_one
  lose-done {t} {r} q = rw a.stored (record {
    same = length-set ones y k;
    room = q.room;
    sound = record {
      room = q.room ∙ h.room ∙ sym (length-set ones y k);
      used = q.used;
      held = subst (Held (set ones y k)) (sym q.holds) (lose_held h.held y l k a.left);
    };
    is = ap₂ two (ap (set ones y) a.left) (q.holds ∙ ap (lose (take n s) y) a.left);
  })

  pub first_done : {t : List ℕ} {r : ℕ} → Kept s t r (lose_first (take n s) y k) → Done (first_loss y) ones s n left t r
  unfolding first_loss
  first_done {t} {r} q = rw a.stored (record {
    same = length-set ones y k;
    room = q.room;
    sound = record {
      room = q.room ∙ h.room ∙ sym (length-set ones y k);
      used = q.used;
      held = subst (Held (set ones y k)) (sym q.holds) (first_held h.held y k a.left);
    };
    is = ap₂ two (ap (set ones y) a.left) (q.holds ∙ ap (lose_first (take n s) y) a.left);
  })

-- a row that was taken out has a place
pub renew-room : {ones s t : List ℕ} {n y r : ℕ} → Sound ones s n → y < length ones → Kept s t r (swap_remove y (take n s)) → r < length t
renew-room {ones} {s} {t} {n} {y} {r} h l q =
    let w : Removed y (take n s) (swap_remove y (take n s)) = removed y (take n s) h.held.once in
    let g : Held ones (take r t) = subst (Held ones) (sym q.holds)
    (record { once = w.once; under = λ z m. h.held.under z (w.from z m).0; single = λ z m. h.held.single z (w.from z m).0 }) in
    let a : In y (take r t) → ⊥ = λ m. (w.from y (subst (In y) q.holds m)).1 refl in
    omega (arith, h.room, q.room, room-left y g l a, length-take-le r t q.used)

pub renew-done : {ones s t : List ℕ} {n y k r : ℕ} → Sound ones s n → y < length ones → k ≡ get_or ones y 0 → Kept s t r (refresh (take n s) y k)
    → Done (renew_one y) ones s n ones t r
unfolding renew_one
renew-done {ones} {s} {t} {n} {y} {k} {r} h l e q = record {
  same = refl;
  room = q.room;
  sound = record { room = q.room ∙ h.room; used = q.used; held = subst (Held ones) (sym q.holds) (renew_held h.held y l k e) };
  is = ap (two ones) (q.holds ∙ ap (refresh (take n s) y) e);
}

-- a loop over the rows ys: k of them are done
pub record Going (p : ℕ → Bool) (g : ℕ → Fig → Fig) (ys : List ℕ) (ones₀ s₀ : List ℕ) (n₀ k : ℕ) (ones s : List ℕ) (n : ℕ) : Type 0 where
  pub within : k ≤ length ys
  pub same : length ones ≡ length ones₀
  pub room : length s ≡ length s₀
  pub sound : Sound ones s n
  pub left : each p g (drop k ys) (fig ones s n) ≡ each p g ys (fig ones₀ s₀ n₀)

module _ {p : ℕ → Bool} {g : ℕ → Fig → Fig} {ys ones₀ s₀ ones s : List ℕ} {n₀ k n : ℕ} (h : Going p g ys ones₀ s₀ n₀ k ones s n) where
  turn : k < length ys → each p g (drop k ys) (fig ones s n) ≡ each p g (drop (k + 1) ys) (cond (p (get_or ys k 0)) (g (get_or ys k 0) (fig ones s n)) (fig ones s n))
  unfolding each
  turn l = rw (drop-next ys k l)

  pub going_hit : {ones' s' : List ℕ} {n' : ℕ} → k < length ys → p (get_or ys k 0) ≡ true → Done (g (get_or ys k 0)) ones s n ones' s' n' → Going p g ys ones₀ s₀ n₀ (k + 1) ones' s' n'
  going_hit {ones'} {s'} {n'} l e d = record {
    within = omega arith;
    same = d.same ∙ h.same;
    room = d.room ∙ h.room;
    sound = d.sound;
    left = ap (each p g (drop (k + 1) ys)) (d.is ∙ ap (λ (b : Bool). cond b (g (get_or ys k 0) (fig ones s n)) (fig ones s n)) (sym e)) ∙ sym (turn l) ∙ h.left;
  }

  pub going_skip : k < length ys → p (get_or ys k 0) ≡ false → Going p g ys ones₀ s₀ n₀ (k + 1) ones s n
  going_skip l e = record {
    within = omega arith;
    same = h.same;
    room = h.room;
    sound = h.sound;
    left = ap (each p g (drop (k + 1) ys)) (ap (λ (b : Bool). cond b (g (get_or ys k 0) (fig ones s n)) (fig ones s n)) (sym e)) ∙ sym (turn l) ∙ h.left;
  }

  pub going_end : length ys ≤ k → Done (each p g ys) ones₀ s₀ n₀ ones s n
  unfolding each
  going_end l = record { same = h.same; room = h.room; sound = h.sound; is = sym (ap (λ (z : List ℕ). each p g z (fig ones s n)) (gone ys k l)) ∙ h.left }

-- a loop over the columns qs
pub record Leaving (row : ℕ → ℕ → Bool) (qs ys : List ℕ) (ones₀ s₀ : List ℕ) (n₀ k : ℕ) (ones s : List ℕ) (n : ℕ) : Type 0 where
  pub within : k ≤ length qs
  pub same : length ones ≡ length ones₀
  pub room : length s ≡ length s₀
  pub sound : Sound ones s n
  pub left : drop_cols row (drop k qs) ys (fig ones s n) ≡ drop_cols row qs ys (fig ones₀ s₀ n₀)

module _ {row : ℕ → ℕ → Bool} {qs ys ones₀ s₀ ones s : List ℕ} {n₀ k n : ℕ} (h : Leaving row qs ys ones₀ s₀ n₀ k ones s n) where
  pub leaving_next : {ones' s' : List ℕ} {n' : ℕ} → k < length qs → Done (drop_col row (get_or qs k 0) ys) ones s n ones' s' n' → Leaving row qs ys ones₀ s₀ n₀ (k + 1) ones' s' n'
  unfolding drop_cols
  leaving_next l d = record {
    within = omega arith;
    same = d.same ∙ h.same;
    room = d.room ∙ h.room;
    sound = d.sound;
    left = ap (drop_cols row (drop (k + 1) qs) ys) d.is ∙ sym (ap (λ (z : List ℕ). drop_cols row z ys (fig ones s n)) (drop-next qs k l)) ∙ h.left;
  }

  pub leaving_end : length qs ≤ k → Done (drop_cols row qs ys) ones₀ s₀ n₀ ones s n
  unfolding drop_cols
  leaving_end l = record { same = h.same; room = h.room; sound = h.sound; is = sym (ap (λ (z : List ℕ). drop_cols row z ys (fig ones s n)) (gone qs k l)) ∙ h.left }

-- a step, put together
module _ (row : ℕ → ℕ → Bool) (x : ℕ) (ys e : List ℕ) (pivot : ℕ) (out : List ℕ) {ones₀ s₀ ones₁ s₁ ones₂ s₂ ones₃ s₃ : List ℕ} {n₀ n₁ n₂ n₃ : ℕ} (l : e ≡ x ∷ ys)
    (a : Done (first_loss x) ones₀ s₀ n₀ ones₁ s₁ n₁) (b : Done (drop_col row pivot ys) ones₁ s₁ n₁ ones₂ s₂ n₂) (c : Done (drop_cols row out e) ones₂ s₂ n₂ ones₃ s₃ n₃) where
  parts : Done (λ f. drop_cols row out (x ∷ ys) (drop_col row pivot ys (first_loss x f))) ones₀ s₀ n₀ ones₃ s₃ n₃
  parts = then (then a b) (subst (λ (z : List ℕ). Done (drop_cols row out z) ones₂ s₂ n₂ ones₃ s₃ n₃) l c)

  pub step-one : length out ≡ 0 → Done (shrunk row x ys pivot out) ones₀ s₀ n₀ ones₃ s₃ n₃
  unfolding shrunk renewed
  step-one z = go out z parts
    where
      go : (o : List ℕ) → length o ≡ 0 → Done (λ f. drop_cols row o (x ∷ ys) (drop_col row pivot ys (first_loss x f))) ones₀ s₀ n₀ ones₃ s₃ n₃
          → Done (λ f. renewed row pivot ys o (drop_cols row o (x ∷ ys) (drop_col row pivot ys (first_loss x f)))) ones₀ s₀ n₀ ones₃ s₃ n₃
      go [] z p = p
      go (q ∷ o) z p = absurd (omega arith)

  pub step_more : {ones s : List ℕ} {n : ℕ} → (length out ≡ 0 → ⊥) → Done (renew row pivot ys) ones₃ s₃ n₃ ones s n
      → Done (shrunk row x ys pivot out) ones₀ s₀ n₀ ones s n
  unfolding shrunk renewed
  step_more {ones} {s} {n} z d = go out z (then parts d)
    where
      go : (o : List ℕ) → (length o ≡ 0 → ⊥) → Done (λ f. renew row pivot ys (drop_cols row o (x ∷ ys) (drop_col row pivot ys (first_loss x f)))) ones₀ s₀ n₀ ones s n
          → Done (λ f. renewed row pivot ys o (drop_cols row o (x ∷ ys) (drop_col row pivot ys (first_loss x f)))) ones₀ s₀ n₀ ones s n
      go [] z p = absurd (z refl)
      go (q ∷ o) z p = p

-- what holds of each number of x ∷ ys
pub tail_each : (P : ℕ → Type 0) {x : ℕ} {ys e : List ℕ} → e ≡ x ∷ ys → ((k : ℕ) → k < length e → P (get_or e k 0)) → (k : ℕ) → k < length ys → P (get_or ys k 0)
tail_each P {x} {ys} {e} l h k i = (subst (λ (z : List ℕ). (k : ℕ) → k < length z → P (get_or z k 0)) l h) (suc k) (omega arith)

pub rows_tail : {l n x : ℕ} {ys e : List ℕ} → e ≡ x ∷ ys → Rows l n e → Rows l n ys
rows_tail {l} {n} q h = record { at = tail_each (λ y. y * l + l ≤ n) q h.at }

pub under_tail : {n x : ℕ} {ys e : List ℕ} → e ≡ x ∷ ys → Under n e → Under n ys
under_tail {n} q h = record { at = tail_each (λ y. y < n) q h.at }

-- the rows still have figures
pub under_still : {n m : ℕ} {ys : List ℕ} → m ≡ n → Under n ys → Under m ys
under_still q u = record { at = λ j l. omega (arith, u.at j l) }
