-- An operation as one word. In memory, lowest byte first, the word is src (2 bytes), dest (2), scalar (1), kind (1), and two bytes that are zero.
--   word                             a word from its fields
--   kind_of, scalar_of, dest_of, src_of  the fields of a word
--   packed                           the word of an operation: kind 1, 2, 3 for AddAssign, MulAssign, FMA, a field that it lacks zero
--   pick_word                         one of two, by a test
--   meaning                          the operation of a word, where it is one's
--   Small                            an operation's fields fit their places in a word
--   Fields, fields                   the fields of a word that was made from fields which fit
--   Packs                            a word is an operation's, and the operation's fields fit
--   meaning-packed, packed-meaning   each undoes the other
--   small_within                     rows below 65,536 and an octet as scalar fit
--   packed_small, packed-one         the word of an operation fits 64 bits; two operations have two words
-- Assumes nothing.
use Rattle.std.specs.Prelude.{ℕ, ◌+◌, ◌*◌, ◌/◌, ◌%◌, ◌^◌, ◌<◌, ◌≤◌, ◌≡◌, refl, Bool, true, false, eqb, Option, Some, None}
use Rattle.std.proofs.Common.{ap, ◌∙◌, sym, subst, div-add-mod', arith, eqb-true}
use Rattle.std.proofs.Math.Nat.{div-div-eq-div-mul}
use Rattle.oplist.specs.declared.Op.{Op}
use Rattle.oplist.specs.declared.Op.TheVariants.{AddAssign, MulAssign, FMA}
use Rattle.oplist.specs.Ops.{Within, scalar}

abbrev pub word : ℕ → ℕ → ℕ → ℕ → ℕ
word kind scalar dest src = kind * 1099511627776 + scalar * 4294967296 + dest * 65536 + src

-- all that stands above the scalar, so that in a known kind the bytes above its own are zero
abbrev pub kind_of : ℕ → ℕ
kind_of w = w / 1099511627776

abbrev pub scalar_of : ℕ → ℕ
scalar_of w = w / 4294967296 % 256

abbrev pub dest_of : ℕ → ℕ
dest_of w = w / 65536 % 65536

abbrev pub src_of : ℕ → ℕ
src_of w = w % 65536

unfoldable pub packed : Op → ℕ
packed (AddAssign d s) = word 1 0 d s
packed (MulAssign d x) = word 2 x d 0
packed (FMA d s x) = word 3 x d s

abbrev pub pick_word : Bool → Option Op → Option Op → Option Op
pick_word true a b = a
pick_word false a b = b

unfoldable pub meaning : ℕ → Option Op
meaning w =
    pick_word (eqb (kind_of w) 1) (pick_word (eqb (scalar_of w) 0) (Some (AddAssign (dest_of w) (src_of w))) None)
    (pick_word (eqb (kind_of w) 2) (pick_word (eqb (src_of w) 0) (Some (MulAssign (dest_of w) (scalar_of w))) None)
    (pick_word (eqb (kind_of w) 3) (Some (FMA (dest_of w) (src_of w) (scalar_of w))) None))

abbrev pub Small : Op → Type 0
Small (AddAssign d s) = (d < 65536) × (s < 65536)
Small (MulAssign d x) = (d < 65536) × (x < 256)
Small (FMA d s x) = (d < 65536) × (s < 65536) × (x < 256)

pub small_within : (m : ℕ) → m ≤ 65536 → (o : Op) → Within m o → scalar o < 256 → Small o
small_within m few (AddAssign d s) w h = (omega (arith, w.0), omega (arith, w.1))
small_within m few (MulAssign d x) w h = (omega (arith, w.0), h)
small_within m few (FMA d s x) w h = (omega (arith, w.0), omega (arith, w.1), h)

pub record Fields (w k x d s : ℕ) : Type 0 where
  pub kind : kind_of w ≡ k
  pub scalar : scalar_of w ≡ x
  pub dest : dest_of w ≡ d
  pub src : src_of w ≡ s

pub fields : (k x d s : ℕ) → x < 256 → d < 65536 → s < 65536 → Fields (word k x d s) k x d s
fields k x d s hx hd hs =
    let a : word k x d s / 65536 ≡ k * 16777216 + x * 65536 + d = omega arith in
    let b : word k x d s / 4294967296 ≡ k * 256 + x = omega arith in
    record { kind = omega arith; scalar = rw b (omega arith); dest = rw a (omega arith); src = omega arith }

pub meaning-packed : (o : Op) → Small o → meaning (packed o) ≡ Some o
unfolding meaning packed
meaning-packed (AddAssign d s) h =
    let f = fields 1 0 d s (omega arith) h.0 h.1 in
    rw (f.kind, f.scalar, f.dest, f.src)
meaning-packed (MulAssign d x) h =
    let f = fields 2 x d 0 h.1 h.0 (omega arith) in
    rw (f.kind, f.src, f.dest, f.scalar)
meaning-packed (FMA d s x) h =
    let f = fields 3 x d s h.2 h.0 h.1 in
    rw (f.kind, f.dest, f.src, f.scalar)

-- a word is made of its fields
word_fields : (w : ℕ) → w ≡ word (kind_of w) (scalar_of w) (dest_of w) (src_of w)
word_fields w =
    let a = div-add-mod' w 65536 in
    let b = div-add-mod' (w / 65536) 65536 in
    let c = div-add-mod' (w / 4294967296) 256 in
    let e : w / 65536 / 65536 ≡ w / 4294967296 = div-div-eq-div-mul w 65536 65536 in
    let f : w / 4294967296 / 256 ≡ w / 1099511627776 = div-div-eq-div-mul w 4294967296 256 in
    omega arith

-- the word is the operation's, and its fields fit
pub record Packs (w : ℕ) (o : Op) : Type 0 where
  pub is : w ≡ packed o
  pub small : Small o

pub packed-meaning : (w : ℕ) (o : Op) → meaning w ≡ Some o → Packs w o
unfolding meaning packed
packed-meaning w o h = go (eqb (kind_of w) 1) (eqb (scalar_of w) 0) (eqb (kind_of w) 2) (eqb (src_of w) 0) (eqb (kind_of w) 3) refl refl refl refl refl h
  where
    made : (p : Op) → Packs w p → Some p ≡ Some o → Packs w o
    made p q e = let f : p ≡ o = cc in subst (Packs w) f q

    never : None ≡ Some o → Packs w o
    never e = let z : ◌≡◌ {A = ℕ} 0 1 = cc in absurd (omega arith)

    go : (a b c d e : Bool) → eqb (kind_of w) 1 ≡ a → eqb (scalar_of w) 0 ≡ b → eqb (kind_of w) 2 ≡ c → eqb (src_of w) 0 ≡ d → eqb (kind_of w) 3 ≡ e
        → pick_word a (pick_word b (Some (AddAssign (dest_of w) (src_of w))) None)
        (pick_word c (pick_word d (Some (MulAssign (dest_of w) (scalar_of w))) None)
        (pick_word e (Some (FMA (dest_of w) (src_of w) (scalar_of w))) None)) ≡ Some o
        → Packs w o
    go true true c d e ea eb ec ed ee q =
        let k = eqb-true (kind_of w) 1 ea in
        let x = eqb-true (scalar_of w) 0 eb in
        let f = word_fields w in
        made _ (record { is = omega arith; small = omega arith }) q
    go true false c d e ea eb ec ed ee q = never q
    go false b true true e ea eb ec ed ee q =
        let k = eqb-true (kind_of w) 2 ec in
        let x = eqb-true (src_of w) 0 ed in
        let f = word_fields w in
        made _ (record { is = omega arith; small = omega arith }) q
    go false b true false e ea eb ec ed ee q = never q
    go false b false d true ea eb ec ed ee q =
        let k = eqb-true (kind_of w) 3 ee in
        let f = word_fields w in
        made _ (record { is = omega arith; small = omega arith }) q
    go false b false d false ea eb ec ed ee q = never q

pub packed_small : (o : Op) → Small o → packed o < 2 ^ 64
unfolding packed
packed_small (AddAssign d s) h = omega arith
packed_small (MulAssign d x) h = omega arith
packed_small (FMA d s x) h = omega arith

pub packed-one : (o p : Op) → Small o → Small p → packed o ≡ packed p → o ≡ p
packed-one o p h k e =
    let q : Some o ≡ Some p = sym (meaning-packed o h) ∙ ap meaning e ∙ meaning-packed p k in
    cc
