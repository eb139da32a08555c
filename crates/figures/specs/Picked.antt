-- What `reduce` keeps of a list of rows, where its closure gives the lighter of two: the first of least key.
--   lighter           of two numbers the one of lesser key, the first where the keys are equal
--   asks_from_places  the closure may be called at each number and the best so far, by what is true at each place of the list
--   row_of            a row, or that there is none
--   least_kept        it keeps the first of least key, if there is one
--   passing_under     what `filter` leaves is below n, where the list's members are
-- Assumes nothing.
use Rattle.std.specs.Prelude.{◌≡◌, refl, List, [], ◌∷◌, Bool, true, false, cond, ℕ, zero, suc, ◌<◌, length, get_or, take, ltb, Some, None}
use Rattle.std.proofs.Common.{sym, ap, subst, ◌∙◌, arith, Option, map-id}
use Rattle.std.proofs.Math.Option.{Option as Maybe, some, none}
use Rattle.std.specs.List.{FoldsTo, filter}
use Rattle.std.specs.Fn.{Called, Takes}
use Rattle.std.specs.Iterator.{CallableInFold, AfterFirst, ReducesItems, FoldTurn}
use Rattle.std.proofs.lemmas.Iterator.{YieldsList, items_from_drains}
use Rattle.std.proofs.lemmas.Iterator.Consumers.{YieldsList-turn, YieldsList-so_far}
use denote.Param.Members.{Mut}
use Rattle.rule.specs.Lists.{least_from, head_least}
use Rattle.grid.specs.Grid.{Under, under_item}
use Rattle.columns.specs.Sweep.{under_part}

abbrev pub row_of : Option ℕ → Maybe ℕ
row_of (Some x) = some x
row_of None = none

abbrev pub lighter : (ℕ → ℕ) → ℕ → ℕ → ℕ
lighter key b y = cond (ltb (key y) (key b)) y b

below : (key : ℕ → ℕ) {n b y : ℕ} → b < n → y < n → lighter key b y < n
below key {n} {b} {y} h k = go (ltb (key y) (key b))
  where
    go : (c : Bool) → cond c y b < n
    go true = k
    go false = h

tail : {n a : ℕ} {l : List ℕ} → Under n (a ∷ l) → Under n l
tail u = record { at = λ k h. u.at (suc k) (omega arith) }

least_low : (key : ℕ → ℕ) {n : ℕ} (l : List ℕ) (b : ℕ) → b < n → Under n l → least_from key b l < n
least_low key [] b h u = h
least_low key (a ∷ l) b h u = least_low key l (lighter key b a) (below key h (u.at 0 (omega arith))) (tail u)

module _ {F : Type 0} (g : Mut F (ℕ × (ℕ × Unit {0})) ℕ) (f : F) (key : ℕ → ℕ) (learn : (b x r : ℕ) (q : F) → Called g f (b, (x, tt)) r q → (q ≡ f) × (r ≡ lighter key b x)) where
  folded : (xs : List ℕ) (p q : F × ℕ) → p.0 ≡ f → FoldsTo (FoldTurn g) p xs q → (q.0 ≡ f) × (q.1 ≡ least_from key p.1 xs)
  folded [] p q e h = (ap (λ (w : F × ℕ). w.0) (sym h) ∙ e, ap (λ (w : F × ℕ). w.1) (sym h))
  folded (x ∷ xs) p q e h =
      let l = learn p.1 x h.0.1 h.0.0 (subst (λ (w : F). Called g w (p.1, (x, tt)) h.0.1 h.0.0) e h.1) in
      let r = folded xs h.0 q l.0 h.2 in
      (r.0, r.1 ∙ ap (λ (b : ℕ). least_from key b xs) l.1)

  module _ {S : Type 0} {steps : S → Option ℕ → S → Type 0} {s : S} {all : List ℕ} (road : YieldsList steps (λ x. x) s all) where
    pub asks_from_places : {n : ℕ} → Under n all → ((b x : ℕ) → b < n → x < n → Takes g f (b, (x, tt))) → AfterFirst steps s (λ x t. CallableInFold steps g t f x)
    asks_from_places {n} low asks x t e = record {
      at = λ xs t' q y u yields folds step.
          let m = YieldsList-turn road (x ∷ xs) t' (t, e, yields) (Some y) u y refl step in
          let z : x ∷ xs ≡ take (length (x ∷ xs)) all = sym (map-id (x ∷ xs)) ∙ YieldsList-so_far road (x ∷ xs) t' (t, e, yields) in
          let w : Under n (x ∷ xs) = subst (Under n) (sym z) (under_part all 0 (length (x ∷ xs)) low (omega (arith, m.0))) in
          let r = folded xs (f, x) q refl folds in
          let b : q.1 < n = subst (λ (v : ℕ). v < n) (sym r.1) (least_low key xs x (w.at 0 (omega arith)) (tail w)) in
          subst (λ (v : F). Takes g v (q.1, (y, tt))) (sym r.0) (asks q.1 y b (under_item low (length (x ∷ xs)) m.0 m.1));
    }

    pub least_kept : (r : Option ℕ) → ReducesItems steps g s f r → row_of r ≡ head_least key all
    least_kept None h = ap (head_least key) (items_from_drains [] (h.1.0, h.1.1, λ _. (h.0, h.1.2)) road)
    least_kept (Some z) h =
        let m : h.0 ∷ h.1 ≡ all = sym (map-id (h.0 ∷ h.1)) ∙ items_from_drains (h.0 ∷ h.1) (h.3.1.0, h.3.1.1, λ _. (h.3.0, h.3.1.2)) road in
        ap some (folded h.1 (f, h.0) (h.2, z) refl h.4).1 ∙ ap (head_least key) m

-- the members that pass
module _ (p : ℕ → Bool) where
  pub passing_under : {n : ℕ} (l : List ℕ) → Under n l → Under n (filter p l)
  passing_under [] u = u
  passing_under {n} (a ∷ l) u = go (p a) (passing_under l (tail u))
    where
      front : (m : List ℕ) → Under n m → (k : ℕ) → k < suc (length m) → get_or (a ∷ m) k 0 < n
      front m v zero h = u.at 0 (omega arith)
      front m v (suc k) h = v.at k (omega arith)

      go : (b : Bool) → Under n (filter p l) → Under n (cond b (a ∷ filter p l) (filter p l))
      go true i = record { at = front (filter p l) i }
      go false i = i
