-- Lists of row and column numbers, as the rule uses them.
--   In x l          x stands in l
--   Nodup l         no number stands in l twice
--   filter p l      the members that pass the test, in their order
--   keep            a number in front of a list, or the list alone, by a truth value
--   head l          the first, if there is one
--   head_least k l   the first of least key, if there is one
--   least_from       the first of least key, of a number and the list behind it
--   least_pos f l    the least positive value of f on l, 0 if there is none
--   lesser          the lesser of two numbers, where 0 counts as none
-- Assumes nothing.
use Rattle.std.specs.Prelude.{◌≡◌, ◌⊎◌, List, [], ◌∷◌, Bool, true, false, cond, ℕ, zero, suc, ltb}
use Rattle.std.proofs.Math.Option.{Option, some, none}

abbrev pub In : ℕ → List ℕ → Type 0
In x [] = ⊥
In x (y ∷ l) = (x ≡ y) ⊎ In x l

abbrev pub Nodup : List ℕ → Type 0
Nodup [] = Unit {0}
Nodup (x ∷ l) = (In x l → ⊥) × Nodup l

abbrev pub keep : Bool → ℕ → List ℕ → List ℕ
keep true x l = x ∷ l
keep false x l = l

abbrev pub filter : (ℕ → Bool) → List ℕ → List ℕ
filter p [] = []
filter p (x ∷ l) = keep (p x) x (filter p l)

abbrev pub head : List ℕ → Option ℕ
head [] = none
head (x ∷ l) = some x

-- the best so far is b: a later one wins only by a smaller key
abbrev pub least_from : (ℕ → ℕ) → ℕ → List ℕ → ℕ
least_from key b [] = b
least_from key b (x ∷ l) = least_from key (cond (ltb (key x) (key b)) x b) l

abbrev pub head_least : (ℕ → ℕ) → List ℕ → Option ℕ
head_least key [] = none
head_least key (x ∷ l) = some (least_from key x l)

-- the lesser of two, where 0 is none
abbrev pub lesser : ℕ → ℕ → ℕ
lesser zero b = b
lesser (suc a) zero = suc a
lesser (suc a) (suc b) = cond (ltb b a) (suc b) (suc a)

abbrev pub least_pos : (ℕ → ℕ) → List ℕ → ℕ
least_pos f [] = 0
least_pos f (x ∷ l) = lesser (f x) (least_pos f l)
