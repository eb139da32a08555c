-- The slab as the code holds it: one list of bytes, in which row r is the part of width w from r * w on. What an operation does to the list is
-- what it does to each of its w columns. m is the number of rows.
--   Bytes l                     every entry of l is an octet
--   row w r l, view w t l       row r, a list; column t, a function of the row
--   fits                        a row below m lies within the slab
--   zip f xs ys                 two lists joined entry by entry, as far as the shorter goes
--   length-zip, get_d_zip        how long that is, and its entries
--   written w o l               what the operation o puts into the row that it writes
--   act w o l, acts w os l      the slab after the operation o; after the list os
--   acts-append, acts-take   two lists after each other; one operation more of a loop that goes up
-- Assumes nothing.
use Rattle.std.specs.Prelude.{◌≡◌, ℕ, zero, suc, ◌+◌, ◌*◌, ◌<◌, ◌≤◌, length, get_or, take}
use Rattle.std.proofs.Math.Path.{refl, ap}
use Rattle.std.proofs.Common.{sym, not-suc-le-zero, le_of_suc-le-suc, mul-le-mul_right, add-one, arith, take-suc}
use mathlib.Core.List.{List, [], ◌∷◌, ◌++◌, map}
use Rattle.loops.specs.Part.{part, put}
use Rattle.octet.specs.Octet.{add, mul}
use Rattle.octet.specs.Field.{Octet}
use Rattle.oplist.specs.declared.Op.{Op}
use Rattle.oplist.specs.declared.Op.TheVariants.{AddAssign, MulAssign, FMA}
use Rattle.oplist.specs.Ops.{dest}

abbrev pub Bytes : List ℕ → Type 0
Bytes l = (i : ℕ) → Octet (get_or l i 0)

-- entry by entry, as far as the shorter goes
abbrev pub zip : (ℕ → ℕ → ℕ) → List ℕ → List ℕ → List ℕ
zip f [] ys = []
zip f (x ∷ xs) [] = []
zip f (x ∷ xs) (y ∷ ys) = f x y ∷ zip f xs ys

abbrev pub row : ℕ → ℕ → List ℕ → List ℕ
row w r l = part (r * w) w l

abbrev pub view : ℕ → ℕ → List ℕ → ℕ → ℕ
view w t l r = get_or l (r * w + t) 0

-- what the operation puts into the row that it writes
abbrev pub written : ℕ → Op → List ℕ → List ℕ
written w (AddAssign d s) l = zip add (row w d l) (row w s l)
written w (MulAssign d c) l = map (mul c) (row w d l)
written w (FMA d s c) l = zip (λ x y. add x (mul c y)) (row w d l) (row w s l)

unfoldable pub act : ℕ → Op → List ℕ → List ℕ
act w o l = put (dest o * w) w l (written w o l)

unfoldable pub acts : ℕ → List Op → List ℕ → List ℕ
acts w [] l = l
acts w (o ∷ os) l = acts w os (act w o l)

pub length-zip : (f : ℕ → ℕ → ℕ) (xs ys : List ℕ) → length xs ≡ length ys → length (zip f xs ys) ≡ length xs
length-zip f [] ys e = refl
length-zip f (x ∷ xs) [] e = sym e
length-zip f (x ∷ xs) (y ∷ ys) e = ap suc (length-zip f xs ys (omega arith))

pub get_d_zip : (f : ℕ → ℕ → ℕ) (xs ys : List ℕ) (k : ℕ) → k < length xs → k < length ys → get_or (zip f xs ys) k 0 ≡ f (get_or xs k 0) (get_or ys k 0)
get_d_zip f [] ys k p q = absurd (not-suc-le-zero p)
get_d_zip f (x ∷ xs) [] k p q = absurd (not-suc-le-zero q)
get_d_zip f (x ∷ xs) (y ∷ ys) zero p q = refl
get_d_zip f (x ∷ xs) (y ∷ ys) (suc k) p q = get_d_zip f xs ys k (le_of_suc-le-suc p) (le_of_suc-le-suc q)

-- a row of the slab lies within it
pub fits : (m w r : ℕ) → r < m → r * w + w ≤ m * w
fits m w r h = omega (arith, mul-le-mul_right w h)

pub acts-append : (w : ℕ) (os ps : List Op) (l : List ℕ) → acts w (os ++ ps) l ≡ acts w ps (acts w os l)
unfolding acts
acts-append w [] ps l = refl
acts-append w (o ∷ os) ps l = acts-append w os ps (act w o l)

-- a loop that goes up has done `take i`; one more
pub acts-take : (w : ℕ) (os : List Op) (l : List ℕ) (i : ℕ) (z : Op) → i < length os → act w (get_or os i z) (acts w (take i os) l) ≡ acts w (take (i + 1) os) l
unfolding acts
acts-take w os l i z h = sym (rw (add-one i, take-suc os i z) (acts-append w (take i os) (get_or os i z ∷ []) l))
