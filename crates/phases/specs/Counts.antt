-- The counts of an answer.
--   added, multiplied   the operations of a list that are additions, and those that are multiplications
--   adds_are, muls_are  the counts of a list are how many these are
-- Assumes nothing.
use Rattle.std.specs.Prelude.{◌≡◌, refl, List, [], ◌∷◌, length}
use Rattle.std.proofs.Common.{arith}
use Rattle.oplist.specs.declared.Op.{Op}
use Rattle.oplist.specs.declared.Op.TheVariants.{AddAssign, MulAssign, FMA}
use Rattle.oplist.specs.Count.{adds, muls}

-- the AddAssign and FMA entries of a list, and its MulAssign and FMA entries
abbrev pub added : List Op → List Op
added [] = []
added (AddAssign d s ∷ os) = AddAssign d s ∷ added os
added (MulAssign d c ∷ os) = added os
added (FMA d s c ∷ os) = FMA d s c ∷ added os

abbrev pub multiplied : List Op → List Op
multiplied [] = []
multiplied (AddAssign d s ∷ os) = multiplied os
multiplied (MulAssign d c ∷ os) = MulAssign d c ∷ multiplied os
multiplied (FMA d s c ∷ os) = FMA d s c ∷ multiplied os

pub adds_are : (os : List Op) → adds os ≡ length (added os)
unfolding adds
adds_are [] = refl
adds_are (AddAssign d s ∷ os) = omega (arith, adds_are os)
adds_are (MulAssign d c ∷ os) = omega (arith, adds_are os)
adds_are (FMA d s c ∷ os) = omega (arith, adds_are os)

pub muls_are : (os : List Op) → muls os ≡ length (multiplied os)
unfolding muls
muls_are [] = refl
muls_are (AddAssign d s ∷ os) = omega (arith, muls_are os)
muls_are (MulAssign d c ∷ os) = omega (arith, muls_are os)
muls_are (FMA d s c ∷ os) = omega (arith, muls_are os)
