-- The rows that the figures say came down to two ones are the definition's.
--   noted-is     where the figures of the rows ys are their ones in what is left of V
-- Assumes nothing.
use Rattle.std.specs.Prelude.{◌≡◌, refl, List, [], ◌∷◌, ◌++◌, Bool, true, false, ◌&&◌, ℕ, ◌+◌, length, get_or, eqb}
use Rattle.std.proofs.Common.{sym, ap, ap₂, ◌∙◌, ⊎_elim, arith, length-append, eqb-true, eq-eqb, ne_eqb}
use Rattle.std.proofs.lemmas.Bool.{eqb-false}
use Rattle.rule.specs.Lists.{In, filter, keep}
use Rattle.rule.specs.Sets.{bool_or}
use Rattle.rule.specs.Alike.{filter_alike}
use Rattle.rule.specs.Permitted.{count}
use Rattle.rule.specs.Rule.{noted}
use Rattle.labels.specs.Marking.{is_noted, noted_by}

filter-append : (p : ℕ → Bool) (a b : List ℕ) → filter p (a ++ b) ≡ filter p a ++ filter p b
filter-append p [] b = refl
filter-append p (x ∷ a) b = go (p x) (filter-append p a b)
  where
    go : (t : Bool) → filter p (a ++ b) ≡ filter p a ++ filter p b → keep t x (filter p (a ++ b)) ≡ keep t x (filter p a) ++ filter p b
    go true e = ap (λ (l : List ℕ). x ∷ l) e
    go false e = e

count-append : (row : ℕ → ℕ → Bool) (a b : List ℕ) (y : ℕ) → count row (a ++ b) y ≡ count row a y + count row b y
count-append row a b y = ap length (filter-append (row y) a b) ∙ length-append (filter (row y) a) (filter (row y) b)

shift : (a b : ℕ) → b ≡ 2 → eqb (a + b) 2 ≡ eqb a 0
shift a b e = ⊎_elim (λ t. let z : a ≡ 0 = eqb-true a 0 t in eq-eqb (a + b) 2 (omega arith) ∙ sym t)
    (λ t. let z : (a ≡ 0 → ⊥) = eqb-false a 0 t in ne_eqb (a + b) 2 (λ q. z (omega arith)) ∙ sym t) (bool_or (eqb a 0))

falls : (r a : Bool) → false ≡ (r && (a && false))
falls true true = refl
falls true false = refl
falls false a = refl

holds : (r a : Bool) → (r && a) ≡ (r && (a && true))
holds true true = refl
holds true false = refl
holds false a = refl

test-is : (r : Bool) (a b : ℕ) → (eqb b 2 && (r && eqb a 0)) ≡ (r && (eqb (a + b) 2 && eqb b 2))
test-is r a b = ⊎_elim
    (λ t. ap (λ (s : Bool). s && (r && eqb a 0)) t ∙ holds r (eqb a 0) ∙ ap₂ (λ (s u : Bool). r && (s && u)) (sym (shift a b (eqb-true b 2 t))) (sym t))
    (λ t. ap (λ (s : Bool). s && (r && eqb a 0)) t ∙ falls r (eqb (a + b) 2) ∙ ap (λ (s : Bool). r && (eqb (a + b) 2 && s)) (sym t)) (bool_or (eqb b 2))

pub noted-is : (row : ℕ → ℕ → Bool) (fig C' ys cs : List ℕ) → ((y : ℕ) → In y ys → get_or fig y 0 ≡ count row C' y) → noted_by row fig cs ys ≡ noted row C' ys cs
unfolding noted_by is_noted
noted-is row fig C' ys [] h = refl
noted-is row fig C' ys (c ∷ cs) h =
    ap₂ (λ (a b : List ℕ). a ++ b)
    (filter_alike (is_noted row fig c cs) (λ y. row y c && (eqb (count row (cs ++ C') y) 2 && eqb (count row C' y) 2)) ys
    (λ y m. ap (λ (k : ℕ). eqb k 2 && (row y c && eqb (count row cs y) 0)) (h y m) ∙ test-is (row y c) (count row cs y) (count row C' y)
    ∙ ap (λ (k : ℕ). row y c && (eqb k 2 && eqb (count row C' y) 2)) (sym (count-append row cs C' y))))
    (noted-is row fig C' ys cs h)
