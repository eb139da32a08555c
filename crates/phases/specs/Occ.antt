-- How often a number stands in a list: permutations, membership and distinctness as equations and bounds that `omega` reads.
--   tick, occ           1 or 0; how often y stands in l
--   tick_eq, tick_ne    1 for equal numbers, 0 for others
--   Member l y, Once l  y stands in l; no number stands in l twice
--   Same?, same?        two numbers are equal or not
--   occ-append, occ-without, occ-range   joined lists, the chosen row's exchange with the first, ranges
--   Range               what is said of a range: each of its numbers stands in it once, and no other
--   in_member, member_in, once_nodup, nodup_once   the same as `In` and `Nodup` of the rule
-- Assumes nothing.
use Rattle.std.specs.Prelude.{◌≡◌, refl, ◌≢◌, Bool, true, false, cond, List, [], ◌∷◌, ◌++◌, ℕ, zero, suc, ◌+◌, ◌<◌, ◌≤◌, eqb}
use Rattle.std.proofs.Common.{sym, ap, subst, inl, inr, not-suc-le-zero, zero-add, arith, eq-eqb, ne_eqb, eqb-true}
use Rattle.std.proofs.lemmas.Bool.{eqb-false}
use Rattle.rule.specs.Lists.{In, Nodup}
use Rattle.rule.specs.Rule.{replace, without}
use Rattle.phases.specs.System.{range}

abbrev pub tick : Bool → ℕ
tick true = 1
tick false = 0

abbrev pub occ : ℕ → List ℕ → ℕ
occ y [] = 0
occ y (x ∷ xs) = tick (eqb y x) + occ y xs

abbrev pub Member : List ℕ → ℕ → Type 0
Member l y = 0 < occ y l

abbrev pub Once : List ℕ → Type 0
Once l = (y : ℕ) → occ y l ≤ 1

pub tick_eq : (y x : ℕ) → y ≡ x → tick (eqb y x) ≡ 1
tick_eq y x e = ap tick (eq-eqb y x e)

pub tick_ne : (y x : ℕ) → y ≢ x → tick (eqb y x) ≡ 0
tick_ne y x e = ap tick (ne_eqb y x e)

pub data Same? (x y : ℕ) : Type 0 where
  yes_same : x ≡ y → Same? x y
  not_same : x ≢ y → Same? x y

pub same? : (x y : ℕ) → Same? x y
same? x y = at (eqb x y) refl
  where
    at : (b : Bool) → eqb x y ≡ b → Same? x y
    at true e = yes_same (eqb-true x y e)
    at false e = not_same (eqb-false x y e)

pub occ-append : (y : ℕ) (a b : List ℕ) → occ y (a ++ b) ≡ occ y a + occ y b
occ-append y [] b = sym (zero-add (occ y b))
occ-append y (x ∷ a) b = let e : occ y (a ++ b) ≡ occ y a + occ y b = occ-append y a b in omega arith

-- the first x gives way to a
occ-replace : (x a : ℕ) (l : List ℕ) → 0 < occ x l → (y : ℕ) → tick (eqb y x) + occ y (replace x a l) ≡ tick (eqb y a) + occ y l
occ-replace x a [] h y = absurd (not-suc-le-zero h)
occ-replace x a (b ∷ l) h y = at (eqb b x) refl (λ k. occ-replace x a l k y)
  where
    at : (t : Bool) → eqb b x ≡ t → (0 < occ x l → tick (eqb y x) + occ y (replace x a l) ≡ tick (eqb y a) + occ y l)
        → tick (eqb y x) + occ y (cond t (a ∷ l) (b ∷ replace x a l)) ≡ tick (eqb y a) + (tick (eqb y b) + occ y l)
    at true e rec = let k : tick (eqb y b) ≡ tick (eqb y x) = ap (λ (c : ℕ). tick (eqb y c)) (eqb-true b x e) in omega arith
    at false e rec =
        let n : tick (eqb x b) ≡ 0 = tick_ne x b (λ p. eqb-false b x e (sym p)) in
        omega (arith, rec (omega arith))

-- the chosen row and the rows that stay are the rows
pub occ-without : (x : ℕ) (l : List ℕ) → 0 < occ x l → (y : ℕ) → occ y (x ∷ without x l) ≡ occ y l
occ-without x [] h y = absurd (not-suc-le-zero h)
occ-without x (a ∷ l) h y = at (eqb a x) refl
  where
    at : (t : Bool) → eqb a x ≡ t → tick (eqb y x) + occ y (cond t l (replace x a l)) ≡ tick (eqb y a) + occ y l
    at true e = let k : tick (eqb y a) ≡ tick (eqb y x) = ap (λ (c : ℕ). tick (eqb y c)) (eqb-true a x e) in omega arith
    at false e =
        let n : tick (eqb x a) ≡ 0 = tick_ne x a (λ p. eqb-false a x e (sym p)) in
        occ-replace x a l (omega arith) y

pub record Range (a k y : ℕ) : Type 0 where
  pub before : y < a → occ y (range a k) ≡ 0
  pub inside : a ≤ y → y < a + k → occ y (range a k) ≡ 1
  pub after : a + k ≤ y → occ y (range a k) ≡ 0

pub occ-range : (a k y : ℕ) → Range a k y
occ-range a zero y = record { before = λ h. refl; inside = λ h l. absurd (omega arith); after = λ h. refl }
occ-range a (suc k) y = go (same? y a) (occ-range (suc a) k y)
  where
    go : Same? y a → Range (suc a) k y → Range a (suc k) y
    go (yes_same e) w =
        let t : tick (eqb y a) ≡ 1 = tick_eq y a e in
        record { before = λ h. absurd (omega arith); inside = λ h l. omega (arith, w.before (omega arith)); after = λ h. absurd (omega arith) }
    go (not_same e) w =
        let t : tick (eqb y a) ≡ 0 = tick_ne y a e in
        record {
          before = λ h. omega (arith, w.before (omega arith));
          inside = λ h l. omega (arith, w.inside (omega arith) (omega arith));
          after = λ h. omega (arith, w.after (omega arith));
        }

-- as the rule says it
pub in_member : (x : ℕ) (l : List ℕ) → In x l → Member l x
in_member x [] h = absurd h
in_member x (y ∷ l) (inl e) = omega (arith, tick_eq x y e)
in_member x (y ∷ l) (inr m) = omega (arith, in_member x l m)

pub member_in : (x : ℕ) (l : List ℕ) → Member l x → In x l
member_in x [] h = absurd (not-suc-le-zero h)
member_in x (y ∷ l) h = at (same? x y) (λ k. member_in x l k)
  where
    at : Same? x y → (Member l x → In x l) → In x (y ∷ l)
    at (yes_same e) rec = inl e
    at (not_same e) rec = inr (rec (omega (arith, tick_ne x y e)))

pub once_nodup : (l : List ℕ) → Once l → Nodup l
once_nodup [] o = tt
once_nodup (x ∷ l) o = (λ m. omega (arith, o x, tick_eq x x refl, in_member x l m), once_nodup l (λ y. omega (arith, o y)))

pub nodup_once : (l : List ℕ) → Nodup l → Once l
nodup_once [] n y = omega arith
nodup_once (x ∷ l) n y = at (same? y x) (nodup_once l n.1 y)
  where
    at : Same? y x → occ y l ≤ 1 → tick (eqb y x) + occ y l ≤ 1
    at (not_same e) h = omega (arith, tick_ne y x e)
    at (yes_same e) h = none (occ y l) refl
      where
        none : (k : ℕ) → occ y l ≡ k → tick (eqb y x) + occ y l ≤ 1
        none zero f = omega (arith, tick_eq y x e)
        none (suc k) f = absurd (n.0 (subst (λ (w : ℕ). In w l) e (member_in y l (omega arith))))
