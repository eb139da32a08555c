-- The column rule: the same columns, a one of the chosen row in front, no one of it between.
--   num-rev   the list reversed
--   cut_arranged, arranged  the column rule is an arrangement
-- Assumes nothing.
use Rattle.std.specs.Prelude.{◌≡◌, refl, ◌⊎◌, List, [], ◌∷◌, ◌++◌, Bool, true, false, cond, not, ℕ, zero, suc, ◌+◌, ◌-◌, ◌≤◌, ◌<◌, length, take, drop, eqb}
use Rattle.std.proofs.Common.{sym, ap, subst, ◌∙◌, inl, inr, ⊎_elim, arith, length-drop, take-append-drop, eqb-true, eq-eqb}
use Rattle.rule.specs.Lists.{In, Nodup}
use Rattle.rule.specs.Sets.{bool_or, tf, length-filter}
use Rattle.rule.specs.Permitted.{count}
use Rattle.rule.specs.Rule.{found, put, lacks, swept, filled, rev, cut, arrange}
use Rattle.rule.specs.Singles.{in_right}
use Rattle.rule.specs.Step.{Arranged}
use Rattle.rule.specs.Arrange.{bit, bit-false, bit-true, num, num-cons}

num-append : (P : ℕ → Bool) (s t : List ℕ) → num P (s ++ t) ≡ num P s + num P t
num-append P [] t = omega arith
num-append P (a ∷ s) t = omega (arith, num-cons P a (s ++ t), num-cons P a s, num-append P s t)

pub num-rev : (P : ℕ → Bool) (l : List ℕ) → num P (rev l) ≡ num P l
num-rev P [] = refl
num-rev P (a ∷ l) = omega (arith, num-append P (rev l) (a ∷ []), num-cons P a [], num-cons P a l, num-rev P l)

bit_not : (b : Bool) → bit b + bit (not b) ≡ 1
bit_not true = refl
bit_not false = refl

num-both : (p : ℕ → Bool) (l : List ℕ) → num p l + num (lacks p) l ≡ length l
num-both p [] = refl
num-both p (a ∷ l) = omega (arith, num-cons p a l, num-cons (lacks p) a l, bit_not (p a), num-both p l)

-- an exchange
module _ (q : ℕ → Bool) (m : ℕ) where
  put_even : (P : ℕ → Bool) (R : List ℕ) → num P (m ∷ R) ≡ num P (found q m R ∷ put q m R)
  put_even P [] = refl
  put_even P (b ∷ R) = go (q b) (put_even P R)
    where
      go : (t : Bool) → num P (m ∷ R) ≡ num P (found q m R ∷ put q m R) → num P (m ∷ b ∷ R) ≡ num P (cond t b (found q m R) ∷ cond t (m ∷ R) (b ∷ put q m R))
      go true i = omega (arith, num-cons P m (b ∷ R), num-cons P b R, num-cons P b (m ∷ R), num-cons P m R)
      go false i =
          omega (
            arith,
            num-cons P m (b ∷ R),
            num-cons P b R,
            num-cons P m R,
            num-cons P (found q m R) (b ∷ put q m R),
            num-cons P b (put q m R),
            num-cons P (found q m R) (put q m R),
            i,
          )

  found_yes : (R : List ℕ) → 0 < num q R → q (found q m R) ≡ true
  found_yes [] h = absurd (omega arith)
  found_yes (b ∷ R) h = go (q b) refl (found_yes R)
    where
      go : (t : Bool) → q b ≡ t → (0 < num q R → q (found q m R) ≡ true) → q (cond t b (found q m R)) ≡ true
      go true e i = e
      go false e i = i (omega (arith, h, num-cons q b R, ap bit e))

module _ (p : ℕ → Bool) where
  swept_even : (P : ℕ → Bool) (M R : List ℕ) → num P M + num P R ≡ num P (swept p M R) + num P (filled p M R)
  swept_even P [] R = refl
  swept_even P (m ∷ M) R = go (p m) (swept_even P M (put (lacks p) m R)) (swept_even P M R)
    where
      go : (t : Bool) → num P M + num P (put (lacks p) m R) ≡ num P (swept p M (put (lacks p) m R)) + num P (filled p M (put (lacks p) m R))
          → num P M + num P R ≡ num P (swept p M R) + num P (filled p M R)
          → num P (m ∷ M) + num P R
          ≡ num P (cond t (found (lacks p) m R ∷ swept p M (put (lacks p) m R)) (m ∷ swept p M R)) + num P (cond t (filled p M (put (lacks p) m R)) (filled p M R))
      go true i j =
          omega (
            arith,
            num-cons P m M,
            num-cons P m R,
            put_even (lacks p) m P R,
            num-cons P (found (lacks p) m R) (put (lacks p) m R),
            num-cons P (found (lacks p) m R) (swept p M (put (lacks p) m R)),
            i,
          )
      go false i j = omega (arith, num-cons P m M, num-cons P m (swept p M R), j)

  -- with a zero for every one, no one is left
  swept-clear : (M R : List ℕ) → num p M ≤ num (lacks p) R → (c : ℕ) → In c (swept p M R) → p c ≡ true → ⊥
  swept-clear [] R h c i e = i
  swept-clear (m ∷ M) R h c i e = go (p m) refl (swept-clear M (put (lacks p) m R)) (swept-clear M R) i
    where
      go : (t : Bool) → p m ≡ t
          → (num p M ≤ num (lacks p) (put (lacks p) m R) → (d : ℕ) → In d (swept p M (put (lacks p) m R)) → p d ≡ true → ⊥)
          → (num p M ≤ num (lacks p) R → (d : ℕ) → In d (swept p M R) → p d ≡ true → ⊥)
          → In c (cond t (found (lacks p) m R ∷ swept p M (put (lacks p) m R)) (m ∷ swept p M R)) → ⊥
      go true f j k i =
          let one : num p (m ∷ M) ≡ 1 + num p M = num-cons p m M ∙ ap (λ (b : ℕ). b + num p M) (bit-true f) in
          let y : lacks p (found (lacks p) m R) ≡ true = found_yes (lacks p) m R (omega arith) in
          let z : num (lacks p) (m ∷ R) ≡ num (lacks p) R =
          num-cons (lacks p) m R ∙ ap (λ (b : ℕ). b + num (lacks p) R) (bit-false (ap not f)) ∙ (omega arith) in
          let v : num (lacks p) (found (lacks p) m R ∷ put (lacks p) m R) ≡ 1 + num (lacks p) (put (lacks p) m R) =
          num-cons (lacks p) (found (lacks p) m R) (put (lacks p) m R) ∙ ap (λ (b : ℕ). b + num (lacks p) (put (lacks p) m R)) (bit-true y) in
          let u : num p M ≤ num (lacks p) (put (lacks p) m R) = omega (arith, one, z, v, put_even (lacks p) m (lacks p) R, h) in
          ⊎_elim (λ (g : c ≡ found (lacks p) m R). tf y (ap not (ap p (sym g) ∙ e))) (λ n. j u c n e) i
      go false f j k i =
          let u : num p M ≤ num (lacks p) R = omega (arith, num-cons p m M, bit-false f, h) in
          ⊎_elim (λ (g : c ≡ m). tf (ap p (sym g) ∙ e) f) (λ n. k u c n e) i

-- lists that agree on every P have the same members, and repeat alike
abbrev Even : List ℕ → List ℕ → Type 0
Even A B = (P : ℕ → Bool) → num P A ≡ num P B

abbrev is : ℕ → ℕ → Bool
is z c = eqb c z

in_num : (z : ℕ) (l : List ℕ) → In z l → 0 < num (is z) l
in_num z [] m = absurd m
in_num z (a ∷ l) (inl e) = omega (arith, num-cons (is z) a l, bit-true (eq-eqb a z (sym e)))
in_num z (a ∷ l) (inr m) = omega (arith, num-cons (is z) a l, in_num z l m)

num_in : (z : ℕ) (l : List ℕ) → 0 < num (is z) l → In z l
num_in z [] h = absurd (omega arith)
num_in z (a ∷ l) h =
    ⊎_elim (λ e. inl (sym (eqb-true a z e))) (λ e. inr (num_in z l (omega (arith, num-cons (is z) a l, bit-false e, h)))) (bool_or (is z a))

num_once : (l : List ℕ) → Nodup l → (z : ℕ) → num (is z) l ≤ 1
num_once [] n z = omega arith
num_once (a ∷ l) n z = go (bool_or (is z a)) (num (is z) l) refl (num_once l n.1 z)
  where
    go : (is z a ≡ true) ⊎ (is z a ≡ false) → (k : ℕ) → num (is z) l ≡ k → num (is z) l ≤ 1 → num (is z) (a ∷ l) ≤ 1
    go (inl e) zero f i = omega (arith, num-cons (is z) a l, bit-true e)
    go (inl e) (suc k) f i = absurd (n.0 (subst (λ (w : ℕ). In w l) (sym (eqb-true a z e)) (num_in z l (omega arith))))
    go (inr e) k f i = omega (arith, num-cons (is z) a l, bit-false e, i)

once_num : (l : List ℕ) → ((z : ℕ) → num (is z) l ≤ 1) → Nodup l
once_num [] h = tt
once_num (a ∷ l) h =
    ((λ m. omega (arith, h a, num-cons (is a) a l, bit-true (eq-eqb a a refl), in_num a l m)), once_num l (λ z. omega (arith, h z, num-cons (is z) a l)))

even_once : (A B : List ℕ) → Even A B → Nodup A → Nodup B
even_once A B e n = once_num B (λ z. omega (arith, e (is z), num_once A n z))

nodup_right : (s t : List ℕ) → Nodup (s ++ t) → Nodup t
nodup_right [] t n = n
nodup_right (a ∷ s) t n = nodup_right s t n.1

-- with a one in front, and as many at the end as the row has besides it
module _ (p : ℕ → Bool) (a piv : ℕ) (M M₀ T : List ℕ) (front : p piv ≡ true) (swap : (P : ℕ → Bool) → num P (a ∷ M) ≡ num P (piv ∷ M₀))
    (room : suc (length T) ≡ num p (a ∷ M ++ T)) where
  cut_even : Even (a ∷ M ++ T) (piv ∷ rev (filled p M₀ (rev T)) ++ swept p M₀ (rev T))
  cut_even P =
      omega (
        arith,
        num-cons P a (M ++ T),
        num-append P M T,
        num-cons P a M,
        swap P,
        num-cons P piv M₀,
        swept_even p P M₀ (rev T),
        num-rev P T,
        num-cons P piv (rev (filled p M₀ (rev T)) ++ swept p M₀ (rev T)),
        num-append P (rev (filled p M₀ (rev T))) (swept p M₀ (rev T)),
        num-rev P (filled p M₀ (rev T)),
      )

  cut-clear : (c : ℕ) → In c (swept p M₀ (rev T)) → p c ≡ true → ⊥
  cut-clear =
      swept-clear p M₀ (rev T)
      (omega (arith, room, num-cons p a (M ++ T), num-append p M T, num-cons p a M, swap p, num-cons p piv M₀, bit-true front, num-both p T, num-rev (lacks p) T))

module _ (row : ℕ → ℕ → Bool) (C : List ℕ) (x a : ℕ) (M T : List ℕ) (same : C ≡ a ∷ M ++ T) (once : Nodup C) (room : suc (length T) ≡ num (row x) (a ∷ M ++ T)) where
  made : (piv : ℕ) (M₀ : List ℕ) → row x piv ≡ true → ((P : ℕ → Bool) → num P (a ∷ M) ≡ num P (piv ∷ M₀))
      → Arranged row C x piv (rev (filled (row x) M₀ (rev T))) (swept (row x) M₀ (rev T))
  made piv M₀ f w =
      let G : List ℕ = rev (filled (row x) M₀ (rev T)) in
      let S : List ℕ = swept (row x) M₀ (rev T) in
      let e : (P : ℕ → Bool) → num P C ≡ num P (piv ∷ rev (filled (row x) M₀ (rev T)) ++ swept (row x) M₀ (rev T)) =
      λ P. ap (num P) same ∙ cut_even (row x) a piv M M₀ T f w room P in
      record {
        once = nodup_right G S (even_once C (piv ∷ G ++ S) e once).1;
        within = λ q i. num_in q C (omega (arith, e (is q), in_num q (piv ∷ G ++ S) (inr (in_right q G S i))));
        same = e;
        front = f;
        clear = cut-clear (row x) a piv M M₀ T f w room;
      }

  pub cut_arranged : Arranged row C x (cut (row x) a M T).pivot (cut (row x) a M T).gone (cut (row x) a M T).rest
  cut_arranged = go (row x a) refl
    where
      go : (t : Bool) → row x a ≡ t
          → Arranged row C x (cond t a (found (row x) a M)) (rev (filled (row x) (cond t M (put (row x) a M)) (rev T))) (swept (row x) (cond t M (put (row x) a M)) (rev T))
      go true e = made a M e (λ P. refl)
      go false e =
          made (found (row x) a M) (put (row x) a M)
          (found_yes (row x) a M (omega (arith, room, num-cons (row x) a (M ++ T), num-append (row x) M T, bit-false e, num-both (row x) T)))
          (λ P. put_even (row x) a P M)

-- for a row with a one in V
pub arranged : (row : ℕ → ℕ → Bool) (C : List ℕ) (x : ℕ) → Nodup C → 0 < count row C x
    → Arranged row C x (arrange row C x).pivot (arrange row C x).gone (arrange row C x).rest
arranged row [] x n h = absurd (omega arith)
arranged row (a ∷ C) x n h =
    let k : ℕ = length C - (count row (a ∷ C) x - 1) in
    cut_arranged row (a ∷ C) x a (take k C) (drop k C) (ap (λ (l : List ℕ). a ∷ l) (sym (take-append-drop k C))) n
    (omega (arith, length-drop k C, length-filter (row x) (a ∷ C), h, ap (λ (l : List ℕ). num (row x) (a ∷ l)) (take-append-drop k C)))
