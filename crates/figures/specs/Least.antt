-- The least positive value of a list.
--   positives f l, least-positive   the positive values of f on l, and that the least of them, or 0, is the rule's
-- Assumes nothing.
use Rattle.std.specs.Prelude.{◌≡◌, refl, List, [], ◌∷◌, Bool, true, false, cond, ℕ, zero, suc, ◌<◌, min, map, ltb}
use Rattle.std.specs.List.{filter as filter_by, fold, reduce}
use Rattle.std.specs.Option.{unwrap_or}
use Rattle.std.proofs.Common.{sym, ap, ◌∙◌, arith, ltb-true, ltb-false, lt-ltb}
use Rattle.rule.specs.Lists.{lesser, least_pos}

lesser_assoc : (a b c : ℕ) → lesser (lesser a b) c ≡ lesser a (lesser b c)
lesser_assoc zero b c = refl
lesser_assoc (suc a) zero c = refl
lesser_assoc (suc a) (suc b) zero = go (ltb b a)
  where
    go : (t : Bool) → lesser (cond t (suc b) (suc a)) 0 ≡ cond t (suc b) (suc a)
    go true = refl
    go false = refl
lesser_assoc (suc a) (suc b) (suc c) = go (ltb b a) (ltb c b) (ltb c a) refl refl refl
  where
    go : (s t u : Bool) → ltb b a ≡ s → ltb c b ≡ t → ltb c a ≡ u
        → lesser (cond s (suc b) (suc a)) (suc c) ≡ lesser (suc a) (cond t (suc c) (suc b))
    go true true true e f g = rw (f, g)
    go true true false e f g = absurd (omega (arith, ltb-true b a e, ltb-true c b f, ltb-false c a g))
    go true false u e f g = rw (e, f)
    go false true u e f g = refl
    go false false true e f g = absurd (omega (arith, ltb-false b a e, ltb-false c b f, ltb-true c a g))
    go false false false e f g = rw (e, g)

-- the positive values of f, in the order of the list
abbrev pub positives : (ℕ → ℕ) → List ℕ → List ℕ
positives f l = filter_by (λ n. ltb 0 n) (map f l)

lesser-min : (a b : ℕ) → 0 < a → 0 < b → lesser a b ≡ min a b
lesser-min zero b h k = absurd (omega arith)
lesser-min (suc a) zero h k = absurd (omega arith)
lesser-min (suc a) (suc b) h k = go (ltb b a) refl
  where
    go : (t : Bool) → ltb b a ≡ t → cond t (suc b) (suc a) ≡ min (suc a) (suc b)
    go true e = omega (arith, ltb-true b a e)
    go false e = omega (arith, ltb-false b a e)

least_of : (f : ℕ → ℕ) (l : List ℕ) (a : ℕ) → 0 < a → fold min a (positives f l) ≡ lesser a (least_pos f l)
least_of f [] zero h = absurd (omega arith)
least_of f [] (suc a) h = refl
least_of f (x ∷ l) a h = go (f x) (least_of f l)
  where
    go : (n : ℕ) → ((b : ℕ) → 0 < b → fold min b (positives f l) ≡ lesser b (least_pos f l))
        → fold min a (cond (ltb 0 n) (n ∷ positives f l) (positives f l)) ≡ lesser a (lesser n (least_pos f l))
    go zero i = i a h
    go (suc n) i =
        let y : 0 < suc n = omega arith in
        rw (lt-ltb 0 (suc n) y) (i (min a (suc n)) (omega arith) ∙ ap (λ (m : ℕ). lesser m (least_pos f l)) (sym (lesser-min a (suc n) h y)) ∙ lesser_assoc a (suc n) (least_pos f l))

pub least-positive : (f : ℕ → ℕ) (l : List ℕ) → unwrap_or (reduce min (positives f l)) 0 ≡ least_pos f l
least-positive f [] = refl
least-positive f (x ∷ l) = go (f x) (least-positive f l)
  where
    go : (n : ℕ) → unwrap_or (reduce min (positives f l)) 0 ≡ least_pos f l
        → unwrap_or (reduce min (cond (ltb 0 n) (n ∷ positives f l) (positives f l))) 0 ≡ lesser n (least_pos f l)
    go zero i = i
    go (suc n) i = let y : 0 < suc n = omega arith in rw (lt-ltb 0 (suc n) y) (least_of f l (suc n) y)
