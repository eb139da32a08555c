-- Labels that are changed.
--   Part        the labels of the columns below c are the new ones, the others are as they were
--   part-next   the label of one more column becomes the new one
--   joint-first, joint-second   the joint label of two columns is the first's, or the second's, if only that one has a label
--   alike       where the pair does not bring two labels together only its own columns change
-- Assumes nothing.
use Rattle.std.specs.Prelude.{◌≡◌, refl, Bool, true, false, cond, not, ◌&&◌, ◌||◌, List, ℕ, zero, suc, ◌+◌, ◌<◌, ◌≤◌, length, set, eqb, ltb}
use Rattle.std.proofs.Common.{sym, ap, subst, ◌∙◌, ⊎_elim, arith, length-set, get_or-set_same, get_or-set_other, eqb-true, eq-eqb, ne_eqb, le-ltb}
use Rattle.std.proofs.lemmas.Bool.{eqb-false}
use Rattle.rule.specs.Labels.{or_l, or_r}
use Rattle.rule.specs.Rule.{joint, relabel, touched}
use Rattle.rule.specs.Sets.{bool_or}
use Rattle.labels.specs.Labs.{labs, Alike}

or_both : (a b : Bool) → a ≡ false → b ≡ false → (a || b) ≡ false
or_both a b e f = rw (e, f)

pub record Part (l₀ : List ℕ) (n p q : ℕ) (l : List ℕ) (c : ℕ) : Type 0 where
  pub len : length l ≡ length l₀
  pub at : c ≤ length l₀
  pub old : (k : ℕ) → c ≤ k → labs l k ≡ labs l₀ k
  pub new : (k : ℕ) → k < c → labs l k ≡ relabel (labs l₀) n p q k

below : (l₀ l : List ℕ) (n p q c : ℕ) → ((k : ℕ) → k < c → labs l k ≡ relabel (labs l₀) n p q k) → labs l c ≡ relabel (labs l₀) n p q c
    → (k : ℕ) → k < c + 1 → labs l k ≡ relabel (labs l₀) n p q k
below l₀ l n p q c h e k i =
    ⊎_elim (λ t. subst (λ (w : ℕ). labs l w ≡ relabel (labs l₀) n p q w) (sym (eqb-true k c t)) e)
    (λ t. let z : (k ≡ c → ⊥) = eqb-false k c t in h k (omega arith)) (bool_or (eqb k c))

-- where both columns of the pair have a label, a column takes part by its label alone
touched_labels : (l : List ℕ) (p q c : ℕ) → 0 < labs l p → 0 < labs l q → touched (labs l) p q c ≡ (eqb (labs l c) (labs l p) || eqb (labs l c) (labs l q))
touched_labels l p q c hp hq = at (eqb c p) (eqb c q) refl refl
  where
    v : ℕ
    v = labs l c

    none : (z : Bool) → eqb v 0 ≡ z → (not z && (eqb v (labs l p) || eqb v (labs l q))) ≡ (eqb v (labs l p) || eqb v (labs l q))
    none true e = let f = eqb-true v 0 e in sym (or_both _ _ (ne_eqb v (labs l p) (λ g. omega arith)) (ne_eqb v (labs l q) (λ g. omega arith)))
    none false e = refl

    at : (u w : Bool) → eqb c p ≡ u → eqb c q ≡ w
        → ((u || w) || (not (eqb v 0) && (eqb v (labs l p) || eqb v (labs l q)))) ≡ (eqb v (labs l p) || eqb v (labs l q))
    at true w f g = sym (or_l (eqb v (labs l p)) _ (eq-eqb v (labs l p) (ap (labs l) (eqb-true c p f))))
    at false true f g = sym (or_r (eqb v (labs l p)) _ (eq-eqb v (labs l q) (ap (labs l) (eqb-true c q g))))
    at false false f g = none (eqb v 0) refl

pub part-next : (l₀ : List ℕ) (n p q : ℕ) (l : List ℕ) (c j x : ℕ) → Part l₀ n p q l c → c < length l → 0 < labs l₀ p → 0 < labs l₀ q
    → j ≡ joint (labs l₀ p) (labs l₀ q) n → x ≡ cond (eqb (labs l c) (labs l₀ p) || eqb (labs l c) (labs l₀ q)) j (labs l c) → Part l₀ n p q (set l c x) (c + 1)
part-next l₀ n p q l c j x h i hp hq e f =
    record {
      len = length-set l c x ∙ h.len;
      at = omega (arith, h.len);
      old = λ k r. get_or-set_other l c k x 0 (λ g. omega arith) ∙ h.old k (omega arith);
      new = below l₀ (set l c x) n p q c (λ k r. get_or-set_other l c k x 0 (λ g. omega arith) ∙ h.new k r)
          (get_or-set_same l c x 0 i ∙ f
          ∙ ap (λ (v : ℕ). cond (eqb v (labs l₀ p) || eqb v (labs l₀ q)) j v) (h.old c (omega arith))
          ∙ ap (λ (y : ℕ). cond (eqb (labs l₀ c) (labs l₀ p) || eqb (labs l₀ c) (labs l₀ q)) y (labs l₀ c)) e
          ∙ ap (λ (b : Bool). cond b (joint (labs l₀ p) (labs l₀ q) n) (labs l₀ c)) (sym (touched_labels l₀ p q c hp hq)));
    }

pub joint-first : (a b n : ℕ) → (a ≡ 0 → ⊥) → b ≡ 0 → a ≡ joint a b n
joint-first zero b n e f = absurd (e refl)
joint-first (suc a) zero n e f = refl
joint-first (suc a) (suc b) n e f = absurd (omega arith)

pub joint-second : (a b n : ℕ) → a ≡ 0 → (b ≡ 0 → ⊥) → b ≡ joint a b n
joint-second zero zero n e f = absurd (f refl)
joint-second zero (suc b) n e f = refl
joint-second (suc a) b n e f = absurd (omega arith)

joint_same : (a n : ℕ) → (a ≡ 0 → ⊥) → a ≡ joint a a n
joint_same zero n e = absurd (e refl)
joint_same (suc a) n e = let g : ltb a a ≡ false = le-ltb a a (omega arith) in rw g

-- the joint label of a pair that is alike is the label that it has
module _ (a b n : ℕ) (h : Alike a b) where
  joint-a : (a ≡ 0 → ⊥) → a ≡ joint a b n
  joint-a z = ⊎_elim (λ e. absurd (z e)) (⊎_elim (λ e. joint-first a b n z e) (λ e. joint_same a n z ∙ ap (λ (x : ℕ). joint a x n) e)) h

  joint-b : (b ≡ 0 → ⊥) → b ≡ joint a b n
  joint-b z = ⊎_elim (λ e. joint-second a b n e z) (⊎_elim (λ e. absurd (z e)) (λ e. sym e ∙ joint-a (λ f. z (sym e ∙ f)))) h

  keeps : (v : ℕ) (z x y : Bool) → eqb v 0 ≡ z → eqb v a ≡ x → eqb v b ≡ y → v ≡ cond (not z && (x || y)) (joint a b n) v
  keeps v true x y ez ex ey = refl
  keeps v false true y ez ex ey = let e = eqb-true v a ex in e ∙ joint-a (λ f. eqb-false v 0 ez (e ∙ f))
  keeps v false false true ez ex ey = let e = eqb-true v b ey in e ∙ joint-b (λ f. eqb-false v 0 ez (e ∙ f))
  keeps v false false false ez ex ey = refl

pub alike : (l : List ℕ) (n p q j : ℕ) → p < length l → q < length l → Alike (labs l p) (labs l q) → j ≡ joint (labs l p) (labs l q) n
    → (c : ℕ) → labs (set (set l p j) q j) c ≡ relabel (labs l) n p q c
alike l n p q j hp hq h e c = at (eqb c p) (eqb c q) refl refl
  where
    other : Bool
    other = not (eqb (labs l c) 0) && (eqb (labs l c) (labs l p) || eqb (labs l c) (labs l q))

    second : eqb c q ≡ true → labs (set (set l p j) q j) c ≡ joint (labs l p) (labs l q) n
    second f = ap (labs (set (set l p j) q j)) (eqb-true c q f) ∙ get_or-set_same (set l p j) q j 0 (omega (arith, length-set l p j)) ∙ e

    at : (u v : Bool) → eqb c p ≡ u → eqb c q ≡ v → labs (set (set l p j) q j) c ≡ cond ((u || v) || other) (joint (labs l p) (labs l q) n) (labs l c)
    at true true f g = second g
    at false true f g = second g
    at true false f g =
        get_or-set_other (set l p j) q c j 0 (eqb-false c q g) ∙ ap (labs (set l p j)) (eqb-true c p f) ∙ get_or-set_same l p j 0 hp ∙ e
    at false false f g =
        get_or-set_other (set l p j) q c j 0 (eqb-false c q g) ∙ get_or-set_other l p c j 0 (eqb-false c p f)
        ∙ keeps (labs l p) (labs l q) n h (labs l c) (eqb (labs l c) 0) (eqb (labs l c) (labs l p)) (eqb (labs l c) (labs l q)) refl refl refl
