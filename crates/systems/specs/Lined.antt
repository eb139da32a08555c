-- What a line of a case says, and does to the buffers.
--   sys_word, bits_word, octets_word, slab_word, go_word   the words `sys`, `b`, `o` and `s`, with a space after each, and `go`
--   columns_of k      L of the table for K, or 0;  columns_in   by what the table has
--   system           a case, from its parts
--   then_number       what comes after a number; where there is none, there is no case
--   begun            the case that begins after the four numbers of a `sys` line, if the line is over and the flag of octet rows is 0 or 1
--   head_of line      what a `sys` line begins
--   Filled, filled   what a row's line does to a case, beside the buffer that it fills
--   placed, row_on    entries that are put into a buffer, and a row of them
--   only_if           a line that may stand only where something is so
--   bits_to, octets_to   a case with another number of bits, of octets
--   slab_to           a case with so many slab bytes, whose slab is no longer due
--   bits_on, octets_on, slab_on   what the digits of a `b`, an `o`, an `s` line do
--   Buffers, Turned  the three buffers; what a line does to a case, beside them;  buffers, turned   these from their parts
--   go_on             a row's line lets the case go on, where it has a place in it
--   in_bits, in_octets, in_slab   what a row's line does, beside all three buffers: it fills that one
--   line_of           what a line after the `sys` line does
--   head-none        a `sys` line that goes wrong at its word
--   head_first, head-second, head-third, head-fourth   one that goes wrong at a number
--   head_long, head-flag, head-is   one that goes on after the numbers, one whose flag is above 1, and one that does not go wrong
--   placed-full, placed_bad, placed_in, row-none, row-some, only_not, only_so   the tests of a row
--   part_long   how long a part of a buffer is, as the checker has it
--   go_is             the library's test of the line `go`
--   line_bits, line_octets, line_slab, line_go, line_other   the kinds of a line
-- Assumes nothing.
use Rattle.std.specs.Prelude.{ℕ, ◌+◌, ◌-◌, ◌/◌, ◌≤◌, ◌<◌, ◌≡◌, Option, Some, None, Bool, true, false, cond, ◌&&◌, eqb, leb, ltb, length, take, Ok, Err}
use Rattle.std.specs.Cmp.Lexicographic.{pointwise}
use Rattle.std.proofs.Math.Path.{refl, sym, ap, ap₂}
use Rattle.std.proofs.Common.{◌∙◌, length-drop, length-take-le}
use mathlib.Core.List.{List, [], ◌∷◌, ◌++◌}
use native.Mathlib.Omega.{arith}
use borrow.Author.Tests.{eq-eqb, ne_eqb, le-leb, lt-leb, lt-ltb, le-ltb}
use Rattle.std.proofs.Math.ListN.{drop}
use Rattle.loops.specs.Part.{put}
use Rattle.params.specs.Params.{params_of, Parameters}
use Rattle.systems.specs.declared.told.System.{System}
use Rattle.systems.specs.declared.told.Turn.{Turn}
use Rattle.systems.specs.declared.told.Turn.TheVariants.{On, Go}
use Rattle.systems.specs.Text.{starts_with, number_of}
use Rattle.systems.specs.Digits.{bytes_of, bits_of, is_row, is_bytes}

-- "sys "
abbrev pub sys_word : List ℕ
sys_word = 115 ∷ 121 ∷ 115 ∷ 32 ∷ []

-- "b "
abbrev pub bits_word : List ℕ
bits_word = 98 ∷ 32 ∷ []

-- "o "
abbrev pub octets_word : List ℕ
octets_word = 111 ∷ 32 ∷ []

-- "s "
abbrev pub slab_word : List ℕ
slab_word = 115 ∷ 32 ∷ []

-- "go"
abbrev pub go_word : List ℕ
go_word = 103 ∷ 111 ∷ []

abbrev pub columns_in : Parameters → ℕ
columns_in (Ok g) = g.l
columns_in (Err e) = 0

unfoldable pub columns_of : ℕ → ℕ
columns_of k = columns_in (params_of k)

abbrev pub system : (k : ℕ) → Bool → (m t l bits octets slab : ℕ) → Bool → System
system k octet m t l bits octets slab due =
    record { k = k; octet = octet; m = m; t = t; l = l; bits = bits; octets = octets; slab = slab; due = due }

-- a number, and what comes after it
abbrev pub then_number : Option (ℕ × ℕ) → (ℕ → ℕ → Option System) → Option System
then_number (Some (v, at)) f = f v at
then_number None f = None

-- four numbers were read: the line is over, and HDPC is 0 or 1
abbrev pub begun : (size k h m t at : ℕ) → Option System
begun size k h m t at = cond (ltb size at && leb h 1) (Some (system k (eqb h 1) m t (columns_of k) 0 0 0 true)) None

unfoldable pub head_of : List ℕ → Option System
head_of line =
    cond (starts_with sys_word line)
    (then_number (number_of 4 (drop 4 line)) (λ (k a : ℕ).
    then_number (number_of a (drop a line)) (λ (h b : ℕ).
    then_number (number_of b (drop b line)) (λ (m c : ℕ).
    then_number (number_of c (drop c line)) (λ (t d : ℕ).
    begun (length line) k h m t d)))))
    None

pub record Filled : Type 0 where
  pub next : Option System
  pub buffer : List ℕ

abbrev pub filled : Option System → List ℕ → Filled
filled next buffer = record { next = next; buffer = buffer }

-- n entries after the first `used` ones of a buffer, where they are good and there is room; the case is then `next`
unfoldable pub placed : Bool → (used n : ℕ) → List ℕ → List ℕ → System → Filled
placed good used n row buffer next = cond (leb n (length buffer - used) && good) (filled (Some next) (put used n buffer row)) (filled None buffer)

-- rows say nothing where K has no table entry
unfoldable pub row_on : System → List ℕ → Filled → Filled
row_on s buffer f = cond (eqb s.l 0) (filled (Some s) buffer) f

-- a line that has a place only where something is so
unfoldable pub only_if : Bool → List ℕ → Filled → Filled
only_if so buffer f = cond so f (filled None buffer)

abbrev pub bits_to : System → ℕ → System
bits_to s n = system s.k s.octet s.m s.t s.l n s.octets s.slab s.due

abbrev pub octets_to : System → ℕ → System
octets_to s n = system s.k s.octet s.m s.t s.l s.bits n s.slab s.due

abbrev pub slab_to : System → ℕ → System
slab_to s n = system s.k s.octet s.m s.t s.l s.bits s.octets n false

-- a row of bits after those that there are
abbrev pub bits_on : List ℕ → System → List ℕ → Filled
bits_on digits s bits = row_on s bits (placed (is_row s.l digits) s.bits s.l (bits_of s.l digits) bits (bits_to s (s.bits + s.l)))

-- an octet row after those that there are, where the case has octet rows
abbrev pub octets_on : List ℕ → System → List ℕ → Filled
octets_on digits s octets =
    only_if s.octet octets
    (row_on s octets (placed (is_bytes s.l digits) s.octets s.l (bytes_of digits) octets (octets_to s (s.octets + s.l))))

-- the slab's bytes at the front, where no line has told them
abbrev pub slab_on : List ℕ → System → List ℕ → Filled
slab_on digits s slab =
    only_if s.due slab
    (placed (is_bytes (length digits / 2) digits) 0 (length digits / 2) (bytes_of digits) slab (slab_to s (length digits / 2)))

pub record Buffers : Type 0 where
  pub bits : List ℕ
  pub octets : List ℕ
  pub slab : List ℕ

abbrev pub buffers : (bits octets slab : List ℕ) → Buffers
buffers bits octets slab = record { bits = bits; octets = octets; slab = slab }

pub record Turned : Type 0 where
  pub turn : Option Turn
  pub buffers : Buffers

abbrev pub turned : Option Turn → Buffers → Turned
turned t b = record { turn = t; buffers = b }

-- a row's line lets the case go on, where it has a place in it
abbrev pub go_on : Option System → Option Turn
go_on (Some s) = Some (On s)
go_on None = None

abbrev pub in_bits : Buffers → Filled → Turned
in_bits b f = turned (go_on f.next) (buffers f.buffer b.octets b.slab)

abbrev pub in_octets : Buffers → Filled → Turned
in_octets b f = turned (go_on f.next) (buffers b.bits f.buffer b.slab)

abbrev pub in_slab : Buffers → Filled → Turned
in_slab b f = turned (go_on f.next) (buffers b.bits b.octets f.buffer)

unfoldable pub line_of : List ℕ → System → Buffers → Turned
line_of line s b =
    cond (starts_with bits_word line) (in_bits b (bits_on (drop 2 line) s b.bits))
    (cond (starts_with octets_word line) (in_octets b (octets_on (drop 2 line) s b.octets))
    (cond (starts_with slab_word line) (in_slab b (slab_on (drop 2 line) s b.slab))
    (cond (eqb (length line) 2 && starts_with go_word line) (turned (Some Go) b) (turned None b))))

module _ (line : List ℕ) where
  pub head-none : starts_with sys_word line ≡ false → None ≡ head_of line
  unfolding head_of
  head-none w = rw w

  module _ (w : starts_with sys_word line ≡ true) where
    pub head_first : number_of 4 (drop 4 line) ≡ None → None ≡ head_of line
    unfolding head_of
    head_first e = rw (w, e)

    module _ {k a : ℕ} (p : number_of 4 (drop 4 line) ≡ Some (k, a)) where
      pub head-second : number_of a (drop a line) ≡ None → None ≡ head_of line
      unfolding head_of
      head-second e = rw (w, p, e)

      module _ {h b : ℕ} (q : number_of a (drop a line) ≡ Some (h, b)) where
        pub head-third : number_of b (drop b line) ≡ None → None ≡ head_of line
        unfolding head_of
        head-third e = rw (w, p, q, e)

        module _ {m c : ℕ} (r : number_of b (drop b line) ≡ Some (m, c)) where
          pub head-fourth : number_of c (drop c line) ≡ None → None ≡ head_of line
          unfolding head_of
          head-fourth e = rw (w, p, q, r, e)

          module _ {t d : ℕ} (u : number_of c (drop c line) ≡ Some (t, d)) where
            pub head_long : d ≤ length line → None ≡ head_of line
            unfolding head_of
            head_long e = rw (w, p, q, r, u, le-ltb _ _ e)

            pub head-flag : length line < d → 1 < h → None ≡ head_of line
            unfolding head_of
            head-flag e f = rw (w, p, q, r, u, lt-ltb _ _ e, lt-leb _ _ f)

            pub head-is : length line < d → h ≤ 1 → {l : ℕ} → l ≡ columns_of k → Some (system k (eqb h 1) m t l 0 0 0 true) ≡ head_of line
            unfolding head_of
            head-is e f x = rw (w, p, q, r, u, lt-ltb _ _ e, le-leb _ _ f, x)

module _ (s : System) (buffer : List ℕ) (f : Filled) where
  pub row-none : s.l ≡ 0 → filled (Some s) buffer ≡ row_on s buffer f
  unfolding row_on
  row-none e = rw (eq-eqb _ _ e)

  pub row-some : (s.l ≡ 0 → ⊥) → f ≡ row_on s buffer f
  unfolding row_on
  row-some e = rw (ne_eqb _ _ e)

module _ (so : Bool) (buffer : List ℕ) (f : Filled) where
  pub only_not : so ≡ false → filled None buffer ≡ only_if so buffer f
  unfolding only_if
  only_not e = rw e

  pub only_so : so ≡ true → f ≡ only_if so buffer f
  unfolding only_if
  only_so e = rw e

pub part_long : (m : List ℕ) (a n k : ℕ) → n ≤ length m - a → k ≡ n → length (take k (drop a m)) ≡ n
part_long m a n k h e = rw e (length-take-le n (drop a m) (rw length-drop h))

module _ (good : Bool) (used n : ℕ) (row buffer : List ℕ) (next : System) where
  pub placed-full : length buffer - used < n → filled None buffer ≡ placed good used n row buffer next
  unfolding placed
  placed-full h = rw (lt-leb _ _ h)

  module _ (h : n ≤ length buffer - used) where
    pub placed_bad : good ≡ false → filled None buffer ≡ placed good used n row buffer next
    unfolding placed
    placed_bad e = rw (le-leb _ _ h, e)

    made : good ≡ true → filled (Some next) (put used n buffer row) ≡ placed good used n row buffer next
    unfolding placed
    made e = rw (le-leb _ _ h, e)

    pub placed_in : good ≡ true → {k : ℕ} {x : List ℕ} → k ≡ n → x ≡ row
        → filled (Some next) (take used buffer ++ (x ++ drop k (drop used buffer))) ≡ placed good used n row buffer next
    unfolding put
    placed_in e q r = ap₂ (λ (k : ℕ) (x : List ℕ). filled (Some next) (take used buffer ++ (x ++ drop k (drop used buffer)))) q r ∙ made e

-- the library's test of the whole line
pub go_is : (line : List ℕ) → pointwise eqb line go_word ≡ (eqb (length line) 2 && starts_with go_word line)
unfolding starts_with
go_is [] = refl
go_is (x ∷ []) = no (eqb x 103)
  where
    no : (b : Bool) → (b && false) ≡ false
    no true = refl
    no false = refl
go_is (x ∷ y ∷ []) = refl
go_is (x ∷ y ∷ z ∷ zs) = no (eqb x 103) (eqb y 111) ∙ sym (ap (λ (b : Bool). b && (eqb x 103 && (eqb y 111 && true))) (ne_eqb (length (x ∷ y ∷ z ∷ zs)) 2 (λ e. absurd (omega arith))))
  where
    no : (b d : Bool) → (b && (d && false)) ≡ false
    no true true = refl
    no true false = refl
    no false d = refl

-- the kinds of a line; d are its digits, and n and x what they do to the case and to the buffer
module _ (line : List ℕ) (s : System) (b : Buffers) {d x : List ℕ} {n : Option System} {t : Option Turn} where
  pub line_bits : starts_with bits_word line ≡ true → d ≡ drop 2 line → filled n x ≡ bits_on d s b.bits → t ≡ go_on n → turned t (buffers x b.octets b.slab) ≡ line_of line s b
  unfolding line_of
  line_bits w p e q = rw (w, ← p, ← e, q)

  module _ (w : starts_with bits_word line ≡ false) where
    pub line_octets : starts_with octets_word line ≡ true → d ≡ drop 2 line → filled n x ≡ octets_on d s b.octets → t ≡ go_on n → turned t (buffers b.bits x b.slab) ≡ line_of line s b
    unfolding line_of
    line_octets v p e q = rw (w, v, ← p, ← e, q)

    module _ (v : starts_with octets_word line ≡ false) where
      pub line_slab : starts_with slab_word line ≡ true → d ≡ drop 2 line → filled n x ≡ slab_on d s b.slab → t ≡ go_on n → turned t (buffers b.bits b.octets x) ≡ line_of line s b
      unfolding line_of
      line_slab u p e q = rw (w, v, u, ← p, ← e, q)

module _ (line : List ℕ) (s : System) (b : Buffers) (w : starts_with bits_word line ≡ false) (v : starts_with octets_word line ≡ false) (u : starts_with slab_word line ≡ false) where
  pub line_go : pointwise eqb line go_word ≡ true → turned (Some Go) b ≡ line_of line s b
  unfolding line_of
  line_go e = rw (w, v, u, ← go_is line, e)

  pub line_other : pointwise eqb line go_word ≡ false → turned None b ≡ line_of line s b
  unfolding line_of
  line_other e = rw (w, v, u, ← go_is line, e)
