-- The column rule by places, over V's columns v, of which the first k are the front and the middle; p says whether the chosen row has a one in a column.
--   laid c            the columns as a step leaves them: the pivot, what is left of V, the others that leave V
--   Laid              the column rule's outcome
--   laid_one          two outcomes that meet it are equal
--   fronted p k v     the row's first one among the first k columns exchanged with the first column
--   swept_out p k v    each further one of the middle, from the left, exchanged with the rightmost zero of the last columns
--   Moved             the outcome of either
--   under_set, under_swapped, under_part, ones_upto   the columns stay below the matrix's, and have no more ones than they are
--   moved_kept, moved_found, moved_none    the ways to bring the first one to the front
--   length-put        an exchange keeps the length
--   laid_end          the two parts, one after the other, are the column rule
--   LastZero          what the search for the rightmost zero finds
--   Ones              that search, from the right
--   Swept, swept-zero, swept_none, swept-one, swept_end     the sweep, from the left
-- Assumes nothing.
use Rattle.std.specs.Prelude.{◌≡◌, Bool, true, false, cond, eqb, position, Some, None}
use Rattle.std.proofs.Math.Path.{refl, ap, subst}
use Rattle.std.proofs.Common.{sym, ◌∙◌, ⊎_elim, length-set, take-append-drop, get_or-set_same, get_or-set_other, get_or-drop, get_or-take, take_at, eqb-true}
use Rattle.std.proofs.Math.Bool.{not}
use mathlib.Core.List.{List, [], ◌∷◌, ◌++◌}
use Prim.Native.Nat.{ℕ, zero, suc, ◌+◌, ◌-◌, ◌<◌, ◌≤◌}
use native.Mathlib.Omega.{arith}
use Rattle.std.proofs.Math.Numerals.{add-one}
use Rattle.std.proofs.Math.ListN.{length, get_or, set, take, drop, length-drop}
use Rattle.std.proofs.Math.Seq.{drop_at, length-take-le}
use Rattle.std.proofs.lemmas.Bool.{eqb-false}
use Rattle.rule.specs.Permitted.{count}
use Rattle.rule.specs.Sets.{bool_or, length-filter}
use Rattle.rule.specs.Rule.{Cut, rev, found, put, swept, filled, arrange}
use Rattle.rule.specs.Places.{front, back, turn-zero, turns_end}
use Rattle.rule.proofs.Places.{turn_one, turn-none}
use Rattle.grid.specs.Grid.{Under}
use Rattle.columns.specs.First.{first_at, first_found, first_missing}
use Rattle.columns.specs.Exchange.{swapped, length-swapped, exchanged, unfound}

abbrev pub laid : Cut → List ℕ
laid c = c.pivot ∷ (c.rest ++ c.gone)

-- the columns v become w, all below l
pub record Laid (l : ℕ) (c : Cut) (v w : List ℕ) : Type 0 where
  pub is : w ≡ laid c
  pub under : Under l w
  pub long : length w ≡ length v

pub laid_one : {l : ℕ} {c : Cut} {v w w' : List ℕ} → Laid l c v w → Laid l c v w' → w ≡ w'
laid_one p q = p.is ∙ sym q.is

unfoldable pub fronted : (ℕ → Bool) → ℕ → List ℕ → List ℕ
fronted p zero v = v
fronted p (suc k) [] = []
fronted p (suc k) (a ∷ C) = cond (p a) a (found p a (take k C)) ∷ (cond (p a) (take k C) (put p a (take k C)) ++ drop k C)

unfoldable pub swept_out : (ℕ → Bool) → ℕ → List ℕ → List ℕ
swept_out p k v = front p k 1 v ++ rev (back p k 1 v)

-- a list of columns goes to another
pub record Moved (l : ℕ) (to v w : List ℕ) : Type 0 where
  pub is : w ≡ to
  pub under : Under l w
  pub long : length w ≡ length v

pub under_set : {n : ℕ} (v : List ℕ) (i x : ℕ) → Under n v → x < n → Under n (set v i x)
under_set {n} v i x u h = record {
  at = λ j a.
      ⊎_elim
      (λ t. let q : j ≡ i = eqb-true j i t in
      subst (λ (w : ℕ). get_or (set v i x) w 0 < n) (sym q) (rw (get_or-set_same v i x 0 (omega (arith, length-set v i x))) h))
      (λ t. rw (get_or-set_other v i j x 0 (eqb-false j i t)) (u.at j (omega (arith, length-set v i x))))
      (bool_or (eqb j i));
}

pub under_swapped : {n : ℕ} (v : List ℕ) (i j : ℕ) → i < length v → j < length v → Under n v → Under n (swapped i j v)
unfolding swapped
under_swapped v i j h k u = under_set (set v i (get_or v j 0)) j (get_or v i 0) (under_set v i (get_or v j 0) u (u.at j k)) (u.at i h)

pub under_part : {n : ℕ} (v : List ℕ) (a m : ℕ) → Under n v → a + m ≤ length v → Under n (take m (drop a v))
under_part v a m u h = record {
  at = λ j i.
      let e : length (take m (drop a v)) ≡ m = length-take-le m (drop a v) (omega (arith, length-drop a v)) in
      let g : get_or (take m (drop a v)) j 0 ≡ get_or v (a + j) 0 = get_or-take m (drop a v) j 0 (omega arith) ∙ get_or-drop a v j 0 in
      rw g (u.at (a + j) (omega arith));
}

-- a row has no more ones than there are columns
pub ones_upto : (row : ℕ → ℕ → Bool) (x : ℕ) (v : List ℕ) {r : ℕ} → r ≡ count row v x → r ≤ length v
ones_upto row x v e = omega (arith, length-filter (row x) v)

-- the first one is brought to the front
module _ (p : ℕ → Bool) where
  front_kept : (k : ℕ) (v : List ℕ) → 0 < length v → p (get_or v 0 0) ≡ true → v ≡ fronted p k v
  unfolding fronted
  front_kept zero v h e = refl
  front_kept (suc k) [] h e = refl
  front_kept (suc k) (a ∷ C) h e = rw e (ap (λ (l : List ℕ). a ∷ l) (sym (take-append-drop k C)))

  front-found : (k j : ℕ) (v : List ℕ) → 0 < k → k ≤ length v → p (get_or v 0 0) ≡ false → j ≡ first_at p (take (k - 1) (drop 1 v)) → j + 1 < k
      → swapped 0 (j + 1) v ≡ fronted p k v
  unfolding fronted swapped
  front-found zero j v h l e f n = absurd (omega arith)
  front-found (suc k) j [] h l e f n = absurd (omega arith)
  front-found (suc k) j (a ∷ C) h l e f n =
      let s : suc k - 1 ≡ k = omega arith in
      let m : length (take k C) ≡ k = length-take-le k C (omega arith) in
      let g : j ≡ first_at p (take k C) = f ∙ ap (λ (i : ℕ). first_at p (take i C)) s in
      let x : get_or (take k C ++ drop k C) (first_at p (take k C)) 0 ∷ set (take k C ++ drop k C) (first_at p (take k C)) a ≡ found p a (take k C) ∷ (put p a (take k C) ++ drop k C)
      = exchanged p a (take k C) (drop k C) (omega arith) in
      let y : get_or C (first_at p (take k C)) 0 ∷ set C (first_at p (take k C)) a ≡ found p a (take k C) ∷ (put p a (take k C) ++ drop k C)
      = subst (λ (c : List ℕ). get_or c (first_at p (take k C)) 0 ∷ set c (first_at p (take k C)) a ≡ found p a (take k C) ∷ (put p a (take k C) ++ drop k C)) (take-append-drop k C) x in
      rw (e, add-one, g) y

  front-none : (k j : ℕ) (v : List ℕ) → 0 < k → k ≤ length v → p (get_or v 0 0) ≡ false → j ≡ first_at p (take (k - 1) (drop 1 v)) → k ≤ j + 1
      → v ≡ fronted p k v
  unfolding fronted
  front-none zero j v h l e f n = refl
  front-none (suc k) j [] h l e f n = refl
  front-none (suc k) j (a ∷ C) h l e f n =
      let s : suc k - 1 ≡ k = omega arith in
      let m : length (take k C) ≡ k = length-take-le k C (omega arith) in
      let g : j ≡ first_at p (take k C) = f ∙ ap (λ (i : ℕ). first_at p (take i C)) s in
      let x : found p a (take k C) ∷ put p a (take k C) ≡ a ∷ take k C = unfound p a (take k C) (omega arith) in
      rw e (sym (ap (λ (l : List ℕ). l ++ drop k C) x ∙ ap (λ (l : List ℕ). a ∷ l) (take-append-drop k C)))

  module _ {l : ℕ} (v : List ℕ) (u : Under l v) where
    pub moved_kept : (k : ℕ) → 0 < length v → p (get_or v 0 0) ≡ true → Moved l (fronted p k v) v v
    moved_kept k h e = record { is = front_kept k v h e; under = u; long = refl }

    module _ (k : ℕ) (h : 0 < k) (s : k ≤ length v) (e : p (get_or v 0 0) ≡ false) where
      middle : length (take (k - 1) (drop 1 v)) ≡ k - 1
      middle = length-take-le (k - 1) (drop 1 v) (omega (arith, length-drop 1 v))

      pub moved_found : (j : ℕ) → Some j ≡ position p (take (k - 1) (drop 1 v)) → {w : List ℕ} → w ≡ swapped 0 (j + 1) v → Moved l (fronted p k v) v w
      moved_found j f {w} q =
          let g = first_found p (take (k - 1) (drop 1 v)) j f in
          let n : j + 1 < k = omega (arith, g.1, middle) in
          record {
            is = q ∙ front-found k j v h s e g.0 n;
            under = rw q (under_swapped v 0 (j + 1) (omega arith) (omega arith) u);
            long = ap length q ∙ length-swapped 0 (j + 1) v;
          }

      pub moved_none : None ≡ position p (take (k - 1) (drop 1 v)) → Moved l (fronted p k v) v v
      moved_none f = record {
        is = front-none k (first_at p (take (k - 1) (drop 1 v))) v h s e refl (omega (arith, first_missing p (take (k - 1) (drop 1 v)) f, middle));
        under = u;
        long = refl;
      }

  pub length-put : (a : ℕ) (M : List ℕ) → length (put p a M) ≡ length M
  length-put a [] = refl
  length-put a (m ∷ M) = go (p m) (length-put a M)
    where
      go : (b : Bool) → length (put p a M) ≡ length M → length (cond b (a ∷ M) (m ∷ put p a M)) ≡ suc (length M)
      go true i = refl
      go false i = ap suc i

  -- swept with the pivot in front, it is what the column rule lays
  swept_at : (piv k : ℕ) (M T : List ℕ) → length M ≡ k → swept_out p (suc k) (piv ∷ (M ++ T)) ≡ piv ∷ (swept p M (rev T) ++ rev (filled p M (rev T)))
  unfolding swept_out
  swept_at piv k M T e = rw (take_at M T k e, drop_at M T k e)

module _ (row : ℕ → ℕ → Bool) (x : ℕ) where
  arrange-is : (k r : ℕ) (v : List ℕ) → r ≡ count row v x → 0 < r → k ≡ length v - (r - 1)
      → swept_out (row x) k (fronted (row x) k v) ≡ laid (arrange row v x)
  unfolding fronted
  arrange-is k r [] e h q = absurd (omega arith)
  arrange-is zero r (a ∷ C) e h q = absurd (omega (arith, length-filter (row x) (a ∷ C)))
  arrange-is (suc k) r (a ∷ C) e h q = rw s (go (row x a))
    where
      s : length C - (count row (a ∷ C) x - 1) ≡ k
      s = omega (arith, length-filter (row x) (a ∷ C))

      long : length (take k C) ≡ k
      long = length-take-le k C (omega arith)

      go : (b : Bool) → swept_out (row x) (suc k) (cond b a (found (row x) a (take k C)) ∷ (cond b (take k C) (put (row x) a (take k C)) ++ drop k C))
          ≡ cond b a (found (row x) a (take k C))
          ∷ (swept (row x) (cond b (take k C) (put (row x) a (take k C))) (rev (drop k C))
          ++ rev (filled (row x) (cond b (take k C) (put (row x) a (take k C))) (rev (drop k C))))
      go true = swept_at (row x) a k (take k C) (drop k C) long
      go false = swept_at (row x) (found (row x) a (take k C)) k (put (row x) a (take k C)) (drop k C) (length-put (row x) a (take k C) ∙ long)

  -- the two parts of the column rule, one after the other
  pub laid_end : {l : ℕ} (v w z : List ℕ) (r : ℕ) → r ≡ count row v x → 0 < r
      → Moved l (fronted (row x) (length v - (r - 1)) v) v w → Moved l (swept_out (row x) (length v - (r - 1)) w) w z → Laid l (arrange row v x) v z
  laid_end v w z r e h a b = record {
    is = b.is ∙ ap (swept_out (row x) (length v - (r - 1))) a.is ∙ arrange-is (length v - (r - 1)) r v e h refl;
    under = b.under;
    long = b.long ∙ a.long;
  }

-- the loop of `sweep`
pub record Swept (p : ℕ → Bool) (l : ℕ) (v₀ : List ℕ) (k : ℕ) (v : List ℕ) (c : ℕ) : Type 0 where
  pub long : length v ≡ length v₀
  pub upto : c ≤ k
  pub fits : k ≤ length v₀
  pub under : Under l v
  pub front-is : front p k c v ≡ front p k 1 v₀
  pub back_is : back p k c v ≡ back p k 1 v₀

pub record LastZero (v : List ℕ) (p : ℕ → Bool) (k r : ℕ) : Type 0 where
  pub after : (j : ℕ) → k ≤ j → j < length v → (r < length v → r < j) → p (get_or v j 0) ≡ true
  pub low : r < length v → k ≤ r
  pub zero : r < length v → p (get_or v r 0) ≡ false

module _ {p : ℕ → Bool} {l : ℕ} {v₀ : List ℕ} {k : ℕ} {v : List ℕ} {c : ℕ} (h : Swept p l v₀ k v c) (ck : c < k) where
  kv : k ≤ length v
  kv = omega (arith, h.long, h.fits)

  pub swept-zero : p (get_or v c 0) ≡ false → Swept p l v₀ k v (c + 1)
  swept-zero e =
      let t : (front p k (suc c) v ≡ front p k c v) × (back p k (suc c) v ≡ back p k c v) = turn-zero p k c v ck kv e in
      rw add-one record { long = h.long; upto = ck; fits = h.fits; under = h.under; front-is = t.0 ∙ h.front-is; back_is = t.1 ∙ h.back_is }

  pub swept_none : p (get_or v c 0) ≡ true → {r : ℕ} → LastZero v p k r → length v ≤ r → Swept p l v₀ k v (c + 1)
  swept_none e {r} z n =
      let t : (front p k (suc c) v ≡ front p k c v) × (back p k (suc c) v ≡ back p k c v) =
      turn-none p k c v ck kv e
      (λ j i. ap not (ap p (get_or-drop k v j 0) ∙ z.after (k + j) (omega arith) (omega (arith, length-drop k v)) (λ a. absurd (omega arith)))) in
      rw add-one record { long = h.long; upto = ck; fits = h.fits; under = h.under; front-is = t.0 ∙ h.front-is; back_is = t.1 ∙ h.back_is }

  pub swept-one : p (get_or v c 0) ≡ true → {r : ℕ} → LastZero v p k r → r < length v → {w : List ℕ} → w ≡ swapped c r v → Swept p l v₀ k w (c + 1)
  unfolding swapped
  swept-one e {r} z n {w} q = rw q (
      let at : k + (r - k) ≡ r = omega (arith, z.low n) in
      let t : (front p k (suc c) (set (set v c (get_or v (k + (r - k)) 0)) (k + (r - k)) (get_or v c 0)) ≡ front p k c v)
      × (back p k (suc c) (set (set v c (get_or v (k + (r - k)) 0)) (k + (r - k)) (get_or v c 0)) ≡ back p k c v) =
      turn_one p k c v ck kv (r - k) (omega arith) e
      (ap not (ap p (get_or-drop k v (r - k) 0 ∙ ap (λ (w : ℕ). get_or v w 0) at) ∙ z.zero n))
      (λ j a b. ap not (ap p (get_or-drop k v j 0) ∙ z.after (k + j) (omega arith) (omega (arith, length-drop k v)) (λ _. omega arith))) in
      let u : (front p k (suc c) (swapped c r v) ≡ front p k c v) × (back p k (suc c) (swapped c r v) ≡ back p k c v) =
      subst (λ (w : ℕ). (front p k (suc c) (swapped c w v) ≡ front p k c v) × (back p k (suc c) (swapped c w v) ≡ back p k c v)) at t in
      rw add-one record {
        long = length-swapped c r v ∙ h.long;
        upto = ck;
        fits = h.fits;
        under = under_swapped v c r (omega (arith, kv)) n h.under;
        front-is = u.0 ∙ h.front-is;
        back_is = u.1 ∙ h.back_is;
      })

pub swept_end : {p : ℕ → Bool} {l : ℕ} {v₀ : List ℕ} {k : ℕ} {v : List ℕ} {c : ℕ} → Swept p l v₀ k v c → k ≤ c → Moved l (swept_out p k v₀) v₀ v
unfolding swept_out
swept_end {p} {l} {v₀} {k} {v} {c} h n =
    let e : c ≡ k = omega (arith, h.upto) in
    record {
      is =
          sym (turns_end p k v)
          ∙ ap (λ (s : List ℕ). s ++ rev (back p k k v)) (subst (λ (w : ℕ). front p k w v ≡ front p k 1 v₀) e h.front-is)
          ∙ ap (λ (s : List ℕ). front p k 1 v₀ ++ rev s) (subst (λ (w : ℕ). back p k w v ≡ back p k 1 v₀) e h.back_is);
      under = h.under;
      long = h.long;
    }

-- the loop of `last_zero`: ones from t on
pub record Ones (v : List ℕ) (p : ℕ → Bool) (t : ℕ) : Type 0 where
  pub upto : t ≤ length v
  pub ones : (j : ℕ) → t ≤ j → j < length v → p (get_or v j 0) ≡ true
