-- The column rule by places, as code does it: one turn of the loop over the middle exchanges a one at c with the rightmost zero, at k + i.
--   turn_one, turn-none  a turn of the loop
--   put_last                        the first of the reversed list is the last of the list
-- Assumes nothing.
use Rattle.std.specs.Prelude.{◌≡◌, refl, List, [], ◌∷◌, ◌++◌, Bool, true, false, cond, ℕ, zero, suc, ◌+◌, ◌≤◌, ◌<◌, length, get_or, set, take, drop}
use Rattle.std.proofs.Common.{sym, ap, ap₂, subst, ◌∙◌, append_assoc, arith, length-drop, drop-set-lt, take-suc, take-suc-set, get_or-drop}
use Rattle.std.proofs.Math.Seq.{slice, slice-cons, take-set-lt}
use Rattle.std.proofs.lemmas.List.{drop-set-add, take-set-le}
use Rattle.rule.specs.Rule.{found, put, lacks, swept, filled, rev}
use Rattle.rule.specs.Arrange.{num, num-cons, bit-true, bit-false}
use Rattle.rule.proofs.Arrange.{num-rev}
use Rattle.rule.specs.Places.{back, front}

module _ (q : ℕ → Bool) (m : ℕ) where
  put-left : (X Y : List ℕ) → 0 < num q X → (put q m (X ++ Y) ≡ put q m X ++ Y) × (found q m (X ++ Y) ≡ found q m X)
  put-left [] Y h = absurd (omega arith)
  put-left (a ∷ X) Y h = go (q a) refl (put-left X Y)
    where
      go : (t : Bool) → q a ≡ t → (0 < num q X → (put q m (X ++ Y) ≡ put q m X ++ Y) × (found q m (X ++ Y) ≡ found q m X))
          → (cond t (m ∷ X ++ Y) (a ∷ put q m (X ++ Y)) ≡ cond t (m ∷ X) (a ∷ put q m X) ++ Y) × (cond t a (found q m (X ++ Y)) ≡ cond t a (found q m X))
      go true e i = (refl, refl)
      go false e i =
          let k : (put q m (X ++ Y) ≡ put q m X ++ Y) × (found q m (X ++ Y) ≡ found q m X) = i (omega (arith, h, num-cons q a X, bit-false e)) in
          (ap (λ (l : List ℕ). a ∷ l) k.0, k.1)

  put_right : (X Y : List ℕ) → num q X ≡ 0 → (put q m (X ++ Y) ≡ X ++ put q m Y) × (found q m (X ++ Y) ≡ found q m Y)
  put_right [] Y h = (refl, refl)
  put_right (a ∷ X) Y h = go (q a) refl (put_right X Y)
    where
      go : (t : Bool) → q a ≡ t → (num q X ≡ 0 → (put q m (X ++ Y) ≡ X ++ put q m Y) × (found q m (X ++ Y) ≡ found q m Y))
          → (cond t (m ∷ X ++ Y) (a ∷ put q m (X ++ Y)) ≡ a ∷ X ++ put q m Y) × (cond t a (found q m (X ++ Y)) ≡ found q m Y)
      go true e i = absurd (omega (arith, h, num-cons q a X, bit-true e))
      go false e i =
          let k : (put q m (X ++ Y) ≡ X ++ put q m Y) × (found q m (X ++ Y) ≡ found q m Y) = i (omega (arith, h, num-cons q a X, bit-false e)) in
          (ap (λ (l : List ℕ). a ∷ l) k.0, k.1)

  put-none : (X : List ℕ) → num q X ≡ 0 → (put q m X ≡ X) × (found q m X ≡ m)
  put-none [] h = (refl, refl)
  put-none (a ∷ X) h = go (q a) refl (put-none X)
    where
      go : (t : Bool) → q a ≡ t → (num q X ≡ 0 → (put q m X ≡ X) × (found q m X ≡ m))
          → (cond t (m ∷ X) (a ∷ put q m X) ≡ a ∷ X) × (cond t a (found q m X) ≡ m)
      go true e i = absurd (omega (arith, h, num-cons q a X, bit-true e))
      go false e i =
          let k : (put q m X ≡ X) × (found q m X ≡ m) = i (omega (arith, h, num-cons q a X, bit-false e)) in
          (ap (λ (l : List ℕ). a ∷ l) k.0, k.1)

  none_in : (T : List ℕ) → ((j : ℕ) → j < length T → q (get_or T j 0) ≡ false) → num q T ≡ 0
  none_in [] h = refl
  none_in (a ∷ T) h = omega (arith, num-cons q a T, bit-false (h 0 (omega arith)), none_in T (λ j i. h (suc j) (omega arith)))

  some_in : (T : List ℕ) (j : ℕ) → j < length T → q (get_or T j 0) ≡ true → 0 < num q T
  some_in [] j i e = absurd (omega arith)
  some_in (a ∷ T) zero i e = omega (arith, num-cons q a T, bit-true e)
  some_in (a ∷ T) (suc j) i e = omega (arith, num-cons q a T, some_in T j (omega arith) e)

  -- the first of the reversed list is the last of the list
  pub put_last : (T : List ℕ) (i : ℕ) → i < length T → q (get_or T i 0) ≡ true → ((j : ℕ) → i < j → j < length T → q (get_or T j 0) ≡ false)
      → (put q m (rev T) ≡ rev (set T i m)) × (found q m (rev T) ≡ get_or T i 0)
  put_last [] i h e n = absurd (omega arith)
  put_last (a ∷ T) zero h e n =
      let z : num q (rev T) ≡ 0 = num-rev q T ∙ none_in T (λ j k. n (suc j) (omega arith) (omega arith)) in
      let r : (put q m (rev T ++ (a ∷ [])) ≡ rev T ++ put q m (a ∷ [])) × (found q m (rev T ++ (a ∷ [])) ≡ found q m (a ∷ [])) = put_right (rev T) (a ∷ []) z in
      (r.0 ∙ ap (λ (t : Bool). rev T ++ cond t (m ∷ []) (a ∷ [])) e, r.1 ∙ ap (λ (t : Bool). cond t a m) e)
  put_last (a ∷ T) (suc i) h e n =
      let z : 0 < num q (rev T) = subst (λ (k : ℕ). 0 < k) (sym (num-rev q T)) (some_in T i (omega arith) e) in
      let r : (put q m (rev T ++ (a ∷ [])) ≡ put q m (rev T) ++ (a ∷ [])) × (found q m (rev T ++ (a ∷ [])) ≡ found q m (rev T)) = put-left (rev T) (a ∷ []) z in
      let o : (put q m (rev T) ≡ rev (set T i m)) × (found q m (rev T) ≡ get_or T i 0) = put_last T i (omega arith) e (λ j k l. n (suc j) (omega arith) (omega arith)) in
      (r.0 ∙ ap (λ (l : List ℕ). l ++ (a ∷ [])) o.0, r.1 ∙ o.1)

module _ (p : ℕ → Bool) (k c : ℕ) (v : List ℕ) (ck : c < k) (kv : k ≤ length v) where
  -- a one at c, and the rightmost zero at k + i
  module _ (i : ℕ) (iv : k + i < length v) (e : p (get_or v c 0) ≡ true) (z : lacks p (get_or (drop k v) i 0) ≡ true)
      (last : (j : ℕ) → i < j → j < length (drop k v) → lacks p (get_or (drop k v) j 0) ≡ false) where
    abbrev v' : List ℕ
    v' = set (set v c (get_or v (k + i) 0)) (k + i) (get_or v c 0)

    pub turn_one : (front p k (suc c) v' ≡ front p k c v) × (back p k (suc c) v' ≡ back p k c v)
    turn_one =
        let m : ℕ = get_or v c 0 in
        let b : ℕ = get_or v (k + i) 0 in
        let S : List ℕ = slice (suc c) k v in
        let D : List ℕ = drop k v in
        let R : List ℕ = rev (drop k v) in
        let sc : slice c k v ≡ get_or v c 0 ∷ slice (suc c) k v = slice-cons c k v 0 ck kv in
        let a1 : drop k v' ≡ set D i m = drop-set-add k (set v c b) i m ∙ ap (λ (l : List ℕ). set l i m) (drop-set-lt k v c b ck) in
        let a2 : slice (suc c) k v' ≡ S =
        ap (drop (suc c)) (take-set-le k (set v c b) (k + i) m (omega arith) ∙ take-set-lt k v c b ck) ∙ drop-set-lt (suc c) (take k v) c b (omega arith) in
        let a3 : take (suc c) v' ≡ take c v ++ (b ∷ []) = take-set-le (suc c) (set v c b) (k + i) m (omega arith) ∙ take-suc-set v c b (omega arith) in
        let o : (put (lacks p) m R ≡ rev (set D i m)) × (found (lacks p) m R ≡ get_or D i 0) = put_last (lacks p) m D i (omega (arith, length-drop k v)) z last in
        let fb : found (lacks p) m R ≡ b = o.1 ∙ get_or-drop k v i 0 in
        let R' : List ℕ = rev (set D i m) in (
          ap (λ (l : List ℕ). l ++ swept p (slice (suc c) k v') (rev (drop k v'))) a3
              ∙ ap₂ (λ (x y : List ℕ). (take c v ++ (b ∷ [])) ++ swept p x (rev y)) a2 a1
              ∙ append_assoc (take c v) (b ∷ []) (swept p S R')
              ∙ sym (ap (λ (l : List ℕ). take c v ++ swept p l R) sc
              ∙ ap (λ (t : Bool). take c v ++ cond t (found (lacks p) m R ∷ swept p S (put (lacks p) m R)) (m ∷ swept p S R)) e
              ∙ ap₂ (λ (x : ℕ) (y : List ℕ). take c v ++ (x ∷ swept p S y)) fb o.0),
          ap₂ (λ (x y : List ℕ). filled p x (rev y)) a2 a1
              ∙ sym (ap (λ (l : List ℕ). filled p l R) sc
              ∙ ap (λ (t : Bool). cond t (filled p S (put (lacks p) m R)) (filled p S R)) e
              ∙ ap (filled p S) o.0),
        )

  -- a one at c and no zero at the end: nothing to do
  pub turn-none : p (get_or v c 0) ≡ true → ((j : ℕ) → j < length (drop k v) → lacks p (get_or (drop k v) j 0) ≡ false)
      → (front p k (suc c) v ≡ front p k c v) × (back p k (suc c) v ≡ back p k c v)
  turn-none e n =
      let m : ℕ = get_or v c 0 in
      let S : List ℕ = slice (suc c) k v in
      let R : List ℕ = rev (drop k v) in
      let sc : slice c k v ≡ get_or v c 0 ∷ slice (suc c) k v = slice-cons c k v 0 ck kv in
      let o : (put (lacks p) m R ≡ R) × (found (lacks p) m R ≡ m) =
      put-none (lacks p) m R (num-rev (lacks p) (drop k v) ∙ none_in (lacks p) m (drop k v) n) in (
        ap (λ (l : List ℕ). l ++ swept p S R) (take-suc v c 0 (omega arith)) ∙ append_assoc (take c v) (m ∷ []) (swept p S R)
            ∙ sym (ap (λ (l : List ℕ). take c v ++ swept p l R) sc
            ∙ ap (λ (t : Bool). take c v ++ cond t (found (lacks p) m R ∷ swept p S (put (lacks p) m R)) (m ∷ swept p S R)) e
            ∙ ap₂ (λ (x : ℕ) (y : List ℕ). take c v ++ (x ∷ swept p S y)) o.1 o.0),
        sym (ap (λ (l : List ℕ). filled p l R) sc ∙ ap (λ (t : Bool). cond t (filled p S (put (lacks p) m R)) (filled p S R)) e ∙ ap (filled p S) o.0),
      )
