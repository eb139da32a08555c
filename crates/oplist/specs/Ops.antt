-- The operations of a list.
--   dest, source   the row that an operation writes, and the one that it reads besides
--   scalar         the factor of an operation; AddAssign has none, and 0 here
--   Within         the rows are below m
--   Apart          dest is not src, in AddAssign and FMA
--   Nonzero        no MulAssign by zero
--   Each           a property of every operation of a list
--   each_append, each_map, each_both   of lists joined; of a weaker property; of two properties
-- Assumes nothing.
use Rattle.std.specs.Prelude.{◌≢◌, List, [], ◌∷◌, ◌++◌, ℕ, ◌<◌}
use Rattle.oplist.specs.declared.Op.{Op}
use Rattle.oplist.specs.declared.Op.TheVariants.{AddAssign, MulAssign, FMA}

abbrev pub dest : Op → ℕ
dest (AddAssign d s) = d
dest (MulAssign d c) = d
dest (FMA d s c) = d

abbrev pub source : Op → ℕ
source (AddAssign d s) = s
source (MulAssign d c) = d
source (FMA d s c) = s

abbrev pub scalar : Op → ℕ
scalar (AddAssign d s) = 0
scalar (MulAssign d c) = c
scalar (FMA d s c) = c

abbrev pub Within : ℕ → Op → Type 0
Within m (AddAssign d s) = (d < m) × (s < m)
Within m (MulAssign d c) = (d < m) × (d < m)
Within m (FMA d s c) = (d < m) × (s < m)

abbrev pub Apart : Op → Type 0
Apart (AddAssign d s) = s ≢ d
Apart (MulAssign d c) = Unit {0}
Apart (FMA d s c) = s ≢ d

abbrev pub Nonzero : Op → Type 0
Nonzero (AddAssign d s) = Unit {0}
Nonzero (MulAssign d c) = c ≢ 0
Nonzero (FMA d s c) = Unit {0}

abbrev pub Each : (Op → Type 0) → List Op → Type 0
Each P [] = Unit {0}
Each P (o ∷ os) = P o × Each P os

pub each_append : (P : Op → Type 0) (os ps : List Op) → Each P os → Each P ps → Each P (os ++ ps)
each_append P [] ps h k = k
each_append P (o ∷ os) ps h k = (h.0, each_append P os ps h.1 k)

pub each_map : (P Q : Op → Type 0) → ((o : Op) → P o → Q o) → (os : List Op) → Each P os → Each Q os
each_map P Q f [] h = tt
each_map P Q f (o ∷ os) h = (f o h.0, each_map P Q f os h.1)

pub each_both : (P Q : Op → Type 0) (os : List Op) → Each P os → Each Q os → Each (λ (o : Op). P o × Q o) os
each_both P Q [] h k = tt
each_both P Q (o ∷ os) h k = ((h.0, k.0), each_both P Q os h.1 k.1)
