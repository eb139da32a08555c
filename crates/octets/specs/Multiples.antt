-- Multiples of a row in a room of sixteen blocks, by the digits of base 4 of a scalar.
--   entry l a i            entry i from a on of l, a function of i
--   place j c i            where the room has entry i of c 4^j times the row
--   level j x              4^j x
--   Blank room             a room of sixteen blocks, those of the digit 0 being zeros
--   Multiples n f room     the room holds the multiples of the n entries of f
--   filled_at, filled       the room after one entry's multiples of one place, and of all four, are put in
--   filled_at_lem, filled_is   the three stores of one place make the one, four such steps the other
--   twice_twice            twice twice is four times
--   blank-zeros            a room of zeros is blank
--   multiples_none, multiples_next, blank-next   a loop that fills the room begins, makes a turn; zeros stay
--   multiples_same         of a row with the same entries
--   digits_at d room k      the entries of d with the four blocks of k's digits added
--   digits                 those four blocks make k times the row
-- Assumes nothing.
use Rattle.std.specs.Prelude.{◌≡◌, refl, ◌≢◌, List, length, replicate}
use Rattle.std.proofs.Common.{sym, ap₂, ◌∙◌, mod-eq_of_lt, below_more}
use Rattle.std.proofs.Math.Path.{ap}
use Prim.Native.Nat.{ℕ, zero, suc, ◌+◌, ◌*◌, ◌/◌, ◌%◌, ◌<◌}
use Rattle.std.proofs.Math.Nat.{mul-add-mod_self_right}
use native.Mathlib.Omega.{arith}
use Rattle.std.proofs.Math.ListN.{get_or, set, length-set}
use Rattle.std.proofs.lemmas.List.{length-replicate, get_or-replicate}
use Rattle.std.proofs.Math.Seq.{get_or-set_same, get_or-set_other}
use Rattle.octet.specs.Octet.{add, times, product, rest, mul}
use Rattle.octet.specs.Products.{equal}
use Rattle.octet.specs.Field.{add_assoc, add-mul, mul_assoc, one-mul, zero-mul}

abbrev pub entry : List ℕ → ℕ → ℕ → ℕ
entry l a i = get_or l (a + i) 0

abbrev pub place : ℕ → ℕ → ℕ → ℕ
place j c i = j * 5120 + c * 1280 + i

abbrev pub level : ℕ → ℕ → ℕ
level zero x = x
level (suc j) x = mul 4 (level j x)

pub record Blank (room : List ℕ) : Type 0 where
  pub long : length room ≡ 20480
  pub zeros : (j i : ℕ) → j < 4 → i < 1280 → get_or room (place j 0 i) 0 ≡ 0

pub record Multiples (n : ℕ) (f : ℕ → ℕ) (room : List ℕ) : Type 0 where
  pub has : (j c i : ℕ) → j < 4 → c < 4 → i < n → get_or room (place j c i) 0 ≡ mul c (level j (f i))

unfoldable pub filled_at : ℕ → ℕ → List ℕ → List ℕ
filled_at at x l = set (set (set l (at + 1280) (mul 1 x)) (at + 2560) (mul 2 x)) (at + 3840) (mul 3 x)

unfoldable pub filled : ℕ → ℕ → List ℕ → List ℕ
filled i x l = filled_at (15360 + i) (level 3 x) (filled_at (10240 + i) (level 2 x) (filled_at (5120 + i) (level 1 x) (filled_at i x l)))

pub blank-zeros : Blank (replicate {A = ℕ} 20480 0)
blank-zeros = record { long = length-replicate {A = ℕ} 20480 0; zeros = λ j i hj hi. get_or-replicate {A = ℕ} 20480 (place j 0 i) 0 0 (omega arith) }

module _ (at x : ℕ) (l : List ℕ) where
  length_at : length (filled_at at x l) ≡ length l
  unfolding filled_at
  length_at = simp length-set

  at_other : (p : ℕ) → p ≢ at + 1280 → p ≢ at + 2560 → p ≢ at + 3840 → get_or (filled_at at x l) p 0 ≡ get_or l p 0
  unfolding filled_at
  at_other p a b c =
      get_or-set_other (set (set l (at + 1280) (mul 1 x)) (at + 2560) (mul 2 x)) (at + 3840) p (mul 3 x) 0 c
      ∙ get_or-set_other (set l (at + 1280) (mul 1 x)) (at + 2560) p (mul 2 x) 0 b ∙ get_or-set_other l (at + 1280) p (mul 1 x) 0 a

  at_same : (c p : ℕ) → at + 3840 < length l → c < 3 → p ≡ at + suc c * 1280 → get_or (filled_at at x l) p 0 ≡ mul (suc c) x
  unfolding filled_at
  at_same zero p h k e =
      let q : p ≡ at + 1280 = omega arith in
      get_or-set_other (set (set l (at + 1280) (mul 1 x)) (at + 2560) (mul 2 x)) (at + 3840) p (mul 3 x) 0 (λ z. omega arith)
      ∙ get_or-set_other (set l (at + 1280) (mul 1 x)) (at + 2560) p (mul 2 x) 0 (λ z. omega arith)
      ∙ ap (λ (y : ℕ). get_or (set l (at + 1280) (mul 1 x)) y 0) q ∙ get_or-set_same l (at + 1280) (mul 1 x) 0 (omega arith)
  at_same (suc zero) p h k e =
      let q : p ≡ at + 2560 = omega arith in
      let m = set l (at + 1280) (mul 1 x) in
      get_or-set_other (set m (at + 2560) (mul 2 x)) (at + 3840) p (mul 3 x) 0 (λ z. omega arith)
      ∙ ap (λ (y : ℕ). get_or (set m (at + 2560) (mul 2 x)) y 0) q ∙ get_or-set_same m (at + 2560) (mul 2 x) 0 (omega (arith, length-set l (at + 1280) (mul 1 x)))
  at_same (suc (suc zero)) p h k e =
      let q : p ≡ at + 3840 = omega arith in
      let m = set (set l (at + 1280) (mul 1 x)) (at + 2560) (mul 2 x) in
      ap (λ (y : ℕ). get_or (set m (at + 3840) (mul 3 x)) y 0) q
      ∙ get_or-set_same m (at + 3840) (mul 3 x) 0 (simp length-set h)
  at_same (suc (suc (suc c))) p h k e = absurd (omega arith)

one-two : add 1 2 ≡ 3
unfolding add
one-two = refl

two-two : mul 2 2 ≡ 4
unfolding mul rest product times add
two-two = refl

pub twice_twice : (x y z : ℕ) → y ≡ mul 2 x → z ≡ mul 2 y → z ≡ mul 4 x
twice_twice x y z e f = f ∙ ap (mul 2) e ∙ sym (mul_assoc 2 2 x) ∙ ap (λ (k : ℕ). mul k x) two-two

pub filled_at_lem : (at x y : ℕ) (l : List ℕ) → x < 256 → y ≡ mul 2 x → set (set (set l (at + 1280) x) (at + 2560) y) (at + 3840) (add x y) ≡ filled_at at x l
unfolding filled_at
filled_at_lem at x y l h e =
    let a : x ≡ mul 1 x = sym (one-mul x h) in
    let b : add x y ≡ mul 3 x = ap₂ add a e ∙ sym (add-mul 1 2 x) ∙ ap (λ (k : ℕ). mul k x) one-two in
    ap₂ (λ (u v : ℕ). set (set (set l (at + 1280) u) (at + 2560) y) (at + 3840) v) a b
    ∙ ap (λ (u : ℕ). set (set (set l (at + 1280) (mul 1 x)) (at + 2560) u) (at + 3840) (mul 3 x)) e

-- no place of a multiple of entry i
abbrev Off : ℕ → ℕ → Type 0
Off i p = (j c : ℕ) → j < 4 → c < 3 → p ≢ place j (suc c) i

at_off : (i p j at x : ℕ) (l : List ℕ) → Off i p → j < 4 → at ≡ j * 5120 + i → get_or (filled_at at x l) p 0 ≡ get_or l p 0
at_off i p j at x l off h e =
    at_other at x l p (λ z. off j 0 h (omega arith) (omega arith)) (λ z. off j 1 h (omega arith) (omega arith)) (λ z. off j 2 h (omega arith) (omega arith))

module _ (i x : ℕ) (l : List ℕ) where
  one : List ℕ
  one = filled_at i x l

  two : List ℕ
  two = filled_at (5120 + i) (level 1 x) one

  three : List ℕ
  three = filled_at (10240 + i) (level 2 x) two

  length-filled : length (filled i x l) ≡ length l
  unfolding filled one two three
  length-filled = length_at (15360 + i) (level 3 x) three ∙ length_at (10240 + i) (level 2 x) two ∙ length_at (5120 + i) (level 1 x) one ∙ length_at i x l

  filled-other : (p : ℕ) → Off i p → get_or (filled i x l) p 0 ≡ get_or l p 0
  unfolding filled one two three
  filled-other p off =
      at_off i p 3 (15360 + i) (level 3 x) three off (omega arith) (omega arith)
      ∙ at_off i p 2 (10240 + i) (level 2 x) two off (omega arith) (omega arith)
      ∙ at_off i p 1 (5120 + i) (level 1 x) one off (omega arith) (omega arith)
      ∙ at_off i p 0 i x l off (omega arith) (omega arith)

  filled_same : (j c : ℕ) → j < 4 → c < 3 → i < 1280 → length l ≡ 20480 → get_or (filled i x l) (place j (suc c) i) 0 ≡ mul (suc c) (level j x)
  unfolding filled one two three
  filled_same zero c hj hc h n =
      let p = place 0 (suc c) i in
      at_other (15360 + i) (level 3 x) three p (λ z. omega arith) (λ z. omega arith) (λ z. omega arith)
      ∙ at_other (10240 + i) (level 2 x) two p (λ z. omega arith) (λ z. omega arith) (λ z. omega arith)
      ∙ at_other (5120 + i) (level 1 x) one p (λ z. omega arith) (λ z. omega arith) (λ z. omega arith)
      ∙ at_same i x l c p (omega arith) hc (omega arith)
  filled_same (suc zero) c hj hc h n =
      let p = place 1 (suc c) i in
      at_other (15360 + i) (level 3 x) three p (λ z. omega arith) (λ z. omega arith) (λ z. omega arith)
      ∙ at_other (10240 + i) (level 2 x) two p (λ z. omega arith) (λ z. omega arith) (λ z. omega arith)
      ∙ at_same (5120 + i) (level 1 x) one c p (omega (arith, length_at i x l)) hc (omega arith)
  filled_same (suc (suc zero)) c hj hc h n =
      let p = place 2 (suc c) i in
      at_other (15360 + i) (level 3 x) three p (λ z. omega arith) (λ z. omega arith) (λ z. omega arith)
      ∙ at_same (10240 + i) (level 2 x) two c p (omega (arith, length_at i x l, length_at (5120 + i) (level 1 x) one)) hc (omega arith)
  filled_same (suc (suc (suc zero))) c hj hc h n =
      at_same (15360 + i) (level 3 x) three c (place 3 (suc c) i)
      (omega (arith, length_at i x l, length_at (5120 + i) (level 1 x) one, length_at (10240 + i) (level 2 x) two)) hc (omega arith)
  filled_same (suc (suc (suc (suc j)))) c hj hc h n = absurd (omega arith)

-- a, b and c are what each step hands to the next
pub filled_is : (i x a b c : ℕ) (l k m n o : List ℕ) → k ≡ filled_at i x l → a ≡ mul 4 x → m ≡ filled_at (5120 + i) a k → b ≡ mul 4 a
    → n ≡ filled_at (10240 + i) b m → c ≡ mul 4 b → o ≡ filled_at (15360 + i) c n → o ≡ filled i x l
unfolding filled
filled_is i x a b c l k m n o ek ea em eb en ec eo = rw (eo, ec, en, eb, em, ea, ek)

pub multiples_none : {f : ℕ → ℕ} {room : List ℕ} → Multiples 0 f room
multiples_none = record { has = λ j c i hj hc hi. absurd (omega arith) }

pub multiples_same : {n : ℕ} {f g : ℕ → ℕ} {room : List ℕ} → Multiples n f room → ((i : ℕ) → i < n → g i ≡ f i) → Multiples n g room
multiples_same {n} {f} {g} m e = record { has = λ j c i hj hc hi. m.has j c i hj hc hi ∙ ap (λ (x : ℕ). mul c (level j x)) (sym (e i hi)) }

-- two numbers, written with a rest by w
rests : (w u v p i : ℕ) → p < w → i < w → u * w + p ≡ v * w + i → p ≡ i
rests w u v p i h k e =
    sym (mod-eq_of_lt h) ∙ sym (mul-add-mod_self_right u w p) ∙ ap (λ (z : ℕ). z % w) e ∙ mul-add-mod_self_right v w i ∙ mod-eq_of_lt k

off_entry : (i j c p : ℕ) → i < 1280 → p < i → Off i (place j c p)
off_entry i j c p h l k d hk hd z = omega (arith, rests 1280 (j * 4 + c) (k * 4 + suc d) p i (omega arith) h (omega arith))

off_zero : (i j p : ℕ) → i < 1280 → p < 1280 → Off i (place j 0 p)
off_zero i j p h l k d hk hd z = omega (arith, rests 5120 j k p (suc d * 1280 + i) (omega arith) (omega arith) (omega arith))

module _ {room : List ℕ} (b : Blank room) (i x : ℕ) (h : i < 1280) where
  pub blank-next : Blank (filled i x room)
  blank-next = record { long = length-filled i x room ∙ b.long; zeros = λ j p hj hp. filled-other i x room (place j 0 p) (off_zero i j p h hp) ∙ b.zeros j p hj hp }

  pub multiples_next : {f : ℕ → ℕ} → Multiples i f room → x ≡ f i → Multiples (i + 1) f (filled i x room)
  multiples_next {f} m e =
      record { has = λ j c p hj hc hp. below_more (λ p. get_or (filled i x room) (place j c p) 0 ≡ mul c (level j (f p))) i (before j c hj hc) (here j c hj hc) p hp }
    where
      before : (j c : ℕ) → j < 4 → c < 4 → (p : ℕ) → p < i → get_or (filled i x room) (place j c p) 0 ≡ mul c (level j (f p))
      before j c hj hc p hp = filled-other i x room (place j c p) (off_entry i j c p h hp) ∙ m.has j c p hj hc hp

      here : (j c : ℕ) → j < 4 → c < 4 → get_or (filled i x room) (place j c i) 0 ≡ mul c (level j (f i))
      here j zero hj hc = filled-other i x room (place j 0 i) (off_zero i j i h h) ∙ b.zeros j i hj h ∙ sym (zero-mul (level j (f i)))
      here j (suc c) hj hc = filled_same i x room j c hj (omega arith) h b.long ∙ ap (λ (y : ℕ). mul (suc c) (level j y)) e

abbrev pub digits_at : List ℕ → List ℕ → ℕ → ℕ → ℕ
digits_at d room k i =
    add (add (add (add (get_or d i 0) (get_or room (k % 4 * 1280 + i) 0)) (get_or room (5120 + k / 4 % 4 * 1280 + i) 0)) (get_or room (10240 + k / 16 % 4 * 1280 + i) 0)) (get_or room (15360 + k / 64 % 4 * 1280 + i) 0)

-- an octet is the sum of its digits
whole : (k : ℕ) → k < 256 → add (add (add (k % 4) (mul (k / 4 % 4) 4)) (mul (k / 16 % 4) 16)) (mul (k / 64 % 4) 64) ≡ k
unfolding mul rest product times add
whole = equal 256 (λ k. add (add (add (k % 4) (mul (k / 4 % 4) 4)) (mul (k / 16 % 4) 16)) (mul (k / 64 % 4) 64)) (λ k. k) tt

four-four : mul 4 4 ≡ 16
unfolding mul rest product times add
four-four = refl

four_sixteen : mul 16 4 ≡ 64
unfolding mul rest product times add
four_sixteen = refl

module _ (k x : ℕ) (h : k < 256) where
  second : (c : ℕ) → mul (mul c 4) x ≡ mul c (level 1 x)
  second c = mul_assoc c 4 x

  third : (c : ℕ) → mul (mul c 16) x ≡ mul c (level 2 x)
  third c = mul_assoc c 16 x ∙ ap (mul c) (ap (λ (y : ℕ). mul y x) (sym four-four) ∙ mul_assoc 4 4 x)

  fourth : (c : ℕ) → mul (mul c 64) x ≡ mul c (level 3 x)
  fourth c =
      mul_assoc c 64 x ∙ ap (mul c) (ap (λ (y : ℕ). mul y x) (sym four_sixteen) ∙ mul_assoc 16 4 x
      ∙ ap (λ (y : ℕ). mul y (mul 4 x)) (sym four-four) ∙ mul_assoc 4 4 (mul 4 x))

  digits_sum : mul k x ≡ add (add (add (mul (k % 4) x) (mul (k / 4 % 4) (level 1 x))) (mul (k / 16 % 4) (level 2 x))) (mul (k / 64 % 4) (level 3 x))
  digits_sum =
      let a = k % 4 in
      let b = mul (k / 4 % 4) 4 in
      let c = mul (k / 16 % 4) 16 in
      let d = mul (k / 64 % 4) 64 in
      ap (λ (y : ℕ). mul y x) (sym (whole k h)) ∙ add-mul (add (add a b) c) d x
      ∙ ap₂ add (add-mul (add a b) c x ∙ ap₂ add (add-mul a b x ∙ ap (add (mul a x)) (second (k / 4 % 4))) (third (k / 16 % 4))) (fourth (k / 64 % 4))

module _ {n : ℕ} {f : ℕ → ℕ} {room : List ℕ} (m : Multiples n f room) (k i : ℕ) (h : k < 256) (hi : i < n) where
  block : (j c p : ℕ) → j < 4 → c < 4 → p ≡ place j c i → get_or room p 0 ≡ mul c (level j (f i))
  block j c p hj hc e = ap (λ (q : ℕ). get_or room q 0) e ∙ m.has j c i hj hc hi

  pub digits : (d : List ℕ) → digits_at d room k i ≡ add (get_or d i 0) (mul k (f i))
  digits d =
      let y = get_or d i 0 in
      let a = mul (k % 4) (f i) in
      let b = mul (k / 4 % 4) (level 1 (f i)) in
      let c = mul (k / 16 % 4) (level 2 (f i)) in
      let e = mul (k / 64 % 4) (level 3 (f i)) in
      ap₂ add (ap₂ add (ap₂ add (ap (add y) (block 0 (k % 4) (k % 4 * 1280 + i) (omega arith) (omega arith) (omega arith)))
      (block 1 (k / 4 % 4) (5120 + k / 4 % 4 * 1280 + i) (omega arith) (omega arith) (omega arith)))
      (block 2 (k / 16 % 4) (10240 + k / 16 % 4 * 1280 + i) (omega arith) (omega arith) (omega arith)))
      (block 3 (k / 64 % 4) (15360 + k / 64 % 4 * 1280 + i) (omega arith) (omega arith) (omega arith))
      ∙ ap (λ (z : ℕ). add (add z c) e) (add_assoc y a b) ∙ ap (λ (z : ℕ). add z e) (add_assoc y (add a b) c) ∙ add_assoc y (add (add a b) c) e
      ∙ ap (add y) (sym (digits_sum k (f i) h))
