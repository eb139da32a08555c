-- Figures of rows and columns in a lent slice, and what the rule makes of two figures that agree.
--   told xs y         the entry of y in the slice xs
--   Taken             row x has lost a one, if it had one, and has r left: the figures went from xs to ys
--   taken-one         two outcomes that meet it are equal
--   Tells f ys xs     for each of ys the slice has an entry, and it is what f says
--   filter-told, filter-both, least_told   filtered lists and least values by the slice's entries
-- Assumes nothing.
use Rattle.std.specs.Prelude.{◌≡◌, List, Bool, ◌&&◌, ℕ, ◌-◌, length, get_or, set, eqb}
use Rattle.std.proofs.Common.{sym, ap, ◌∙◌}
use Rattle.rule.specs.Lists.{In, filter, least_pos}
use Rattle.rule.specs.Alike.{filter_alike, least_alike}
use Rattle.grid.specs.Grid.{Under}

abbrev pub told : List ℕ → ℕ → ℕ
told xs y = get_or xs y 0

pub record Taken (xs : List ℕ) (x : ℕ) (ys : List ℕ) (r : ℕ) : Type 0 where
  pub left : r ≡ told xs x - 1
  pub stored : ys ≡ set xs x r

pub taken-one : {xs ys zs : List ℕ} {x r t : ℕ} → Taken xs x ys r → Taken xs x zs t → (r ≡ t) × (ys ≡ zs)
taken-one {xs} {ys} {zs} {x} p q = let e = p.left ∙ sym q.left in (e, p.stored ∙ ap (set xs x) e ∙ sym q.stored)

pub record Tells (f : ℕ → ℕ) (ys xs : List ℕ) : Type 0 where
  pub under : Under (length xs) ys
  pub is : (y : ℕ) → In y ys → told xs y ≡ f y

module _ {f : ℕ → ℕ} {ys xs : List ℕ} (t : Tells f ys xs) where
  pub filter-told : (r : ℕ) → filter (λ y. eqb (told xs y) r) ys ≡ filter (λ y. eqb (f y) r) ys
  filter-told r = filter_alike (λ y. eqb (told xs y) r) (λ y. eqb (f y) r) ys (λ y m. ap (λ (n : ℕ). eqb n r) (t.is y m))

  pub filter-both : (p : ℕ → Bool) (r : ℕ) → filter (λ y. p y && eqb (told xs y) r) ys ≡ filter (λ y. p y && eqb (f y) r) ys
  filter-both p r =
      filter_alike (λ y. p y && eqb (told xs y) r) (λ y. p y && eqb (f y) r) ys (λ y m. ap (λ (n : ℕ). p y && eqb n r) (t.is y m))

pub least_told : {f : ℕ → ℕ} {ys xs : List ℕ} → Tells f ys xs → least_pos (told xs) ys ≡ least_pos f ys
least_told {f} {ys} {xs} t = least_alike (told xs) f ys t.is
