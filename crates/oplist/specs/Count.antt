-- How many additions and multiplications a list asks for: AddAssign is an addition, MulAssign a multiplication, FMA one of each.
--   adds_in, muls_in      of one operation
--   adds, muls          of a list
--   word_adds, word_muls  of one word of a room; an unknown kind asks for nothing
--   adds_in-one, muls_in-one, word_adds-one, word_muls-one   an operation, and a word, asks for at most one of each
--   adds-append, muls-append   of lists joined
--   adds-with_op, muls-with_op of a word before others
-- Assumes nothing.
use Rattle.std.specs.Prelude.{ℕ, ◌+◌, ◌≤◌, ◌≡◌, refl, List, [], ◌∷◌, ◌++◌, Option, Some, None}
use Rattle.std.proofs.Common.{arith}
use Rattle.oplist.specs.declared.Op.{Op}
use Rattle.oplist.specs.declared.Op.TheVariants.{AddAssign, MulAssign, FMA}
use Rattle.oplist.specs.Listed.{with_op}

abbrev pub adds_in : Op → ℕ
adds_in (AddAssign d s) = 1
adds_in (MulAssign d x) = 0
adds_in (FMA d s x) = 1

abbrev pub muls_in : Op → ℕ
muls_in (AddAssign d s) = 0
muls_in (MulAssign d x) = 1
muls_in (FMA d s x) = 1

unfoldable pub adds : List Op → ℕ
adds [] = 0
adds (o ∷ os) = adds_in o + adds os

unfoldable pub muls : List Op → ℕ
muls [] = 0
muls (o ∷ os) = muls_in o + muls os

abbrev pub word_adds : Option Op → ℕ
word_adds (Some o) = adds_in o
word_adds None = 0

abbrev pub word_muls : Option Op → ℕ
word_muls (Some o) = muls_in o
word_muls None = 0

pub adds-append : (os ps : List Op) → adds (os ++ ps) ≡ adds os + adds ps
unfolding adds
adds-append [] ps = omega arith
adds-append (o ∷ os) ps = let h = adds-append os ps in omega arith

pub muls-append : (os ps : List Op) → muls (os ++ ps) ≡ muls os + muls ps
unfolding muls
muls-append [] ps = omega arith
muls-append (o ∷ os) ps = let h = muls-append os ps in omega arith

pub adds-with_op : (m : Option Op) (os : List Op) → adds (with_op m os) ≡ word_adds m + adds os
unfolding adds
adds-with_op (Some o) os = refl
adds-with_op None os = omega arith

pub muls-with_op : (m : Option Op) (os : List Op) → muls (with_op m os) ≡ word_muls m + muls os
unfolding muls
muls-with_op (Some o) os = refl
muls-with_op None os = omega arith

pub adds_in-one : (o : Op) → adds_in o ≤ 1
adds_in-one (AddAssign d s) = omega arith
adds_in-one (MulAssign d x) = omega arith
adds_in-one (FMA d s x) = omega arith

pub word_adds-one : (m : Option Op) → word_adds m ≤ 1
word_adds-one (Some o) = adds_in-one o
word_adds-one None = omega arith

pub muls_in-one : (o : Op) → muls_in o ≤ 1
muls_in-one (AddAssign d s) = omega arith
muls_in-one (MulAssign d x) = omega arith
muls_in-one (FMA d s x) = omega arith

pub word_muls-one : (m : Option Op) → word_muls m ≤ 1
word_muls-one (Some o) = muls_in-one o
word_muls-one None = omega arith
