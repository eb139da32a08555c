-- Small systems with K = 10 and 27 rows, which can be checked by hand.
--   ten        their shape: 27 rows and 27 columns, of which rows 7..16 are the octet rows, and V has columns 0..16 at first
--   unit, flat a row with c in column q and zeros elsewhere; rows with a one each, in the columns of a list, one after another
--   with       a matrix in which the entry of row x in column q is made c
--   zeros      what the binary matrix holds in rows 7..16, which are ignored
--   Q, Q_octets   rows 0..6 have their one in columns 0..6, rows 17..26 in columns 7..16, octet row j in column 17 + j
--   usual      the order that Q gets: rows 0..6 for columns 0..6, rows 17..26 for columns 7..16, rows 7..16 for columns 17..26
--   block, block_octets   ones in columns 1..17 in turn, octet row 0 a one in column 0, octet row j in column 17 + j:
--              after 16 steps no row has a one in V
--   ten-is     the table's sizes for K = 10 give that shape
--   Lent       buffers for 27 rows of t bytes that pass the tests
--   Fits       a binary matrix and octet rows of 27 columns, the binary entries 0 or 1
--   call-ten   a call with K = 10 and 27 rows in such buffers is the defined run of that shape
--   Gets       in such buffers, whose list room is as said, a call with a binary matrix and octet rows ends with an answer
--   room-any, room-one, room-none   a list room of any size, for an operation at least, for none
--   solve      the defined answer to a binary matrix and octet rows, plain or wide, with room for so many operations
--   stored, stored_says   the bytes of a stored list with one operation, MulAssign 7 by 142, and no order; what they say of it
--   text       the bytes of the lines `rows 27 columns 27 operations 1`, `mul 7 142` and `order none`
--   Small, small   what calls with them get, some with an entry changed, some without room; two refused calls; facts of octets; the stored list,
--              written, read, and shown as that text
-- Assumes nothing.
use Rattle.std.specs.Prelude.{◌≡◌, refl, Bool, true, false, cond, List, [], ◌∷◌, ◌++◌, map, ℕ, ◌+◌, ◌*◌, ◌≤◌, eqb, ltb, length, drop, set, replicate, Ok, Err, Result}
use Rattle.std.proofs.Common.{sym, ◌∙◌, arith, le-leb, le-ltb, lt-ltb, eq-eqb}
use Rattle.std.proofs.Math.Path.{ap}
use Rattle.std.proofs.lemmas.List.Edits.{sets-eq}
use Rattle.loops.specs.Entry.{entry_at}
use Rattle.loops.specs.Loop.{for_to, up}
use Rattle.loops.specs.Way.{for_way}
use Rattle.loops.specs.Room.{log, puts, puts_fit}
use Rattle.octet.specs.Octet.{add, times, product, rest, mul, squares, inverse, quotient}
use Rattle.octet.specs.Examples.{three-by-three}
use Rattle.octet.proofs.Examples.{two-by_128, half}
use Rattle.oplist.specs.Count.{adds, muls}
use Rattle.oplist.specs.declared.Op.TheVariants.{AddAssign, MulAssign, FMA}
use Rattle.bounds.specs.Bounds.{most_bytes, most_ops}
use Rattle.oplist.specs.Check.{shape_fine, op_fine, list_fine, order_fine}
use Rattle.oplist.specs.Listed.{ops_of}
use Rattle.oplist.specs.Word.{packed, meaning}
use Rattle.params.specs.Params.{params_of}
use Rattle.params.specs.declared.Sizes.{Sizes}
use Rattle.params.specs.Answers.{at_zero}
use Rattle.params.specs.Examples as params
use Rattle.stored.specs.Bytes.{padded}
use Rattle.stored.specs.Form.{form_of, ops_bytes, words_at, unused_at, unused_fine, form_fine}
use Rattle.stored.specs.Answers.{judged, judged_by, Got, got, read_of}
use Rattle.stored.specs.declared.Kept.{Kept}
use Rattle.stored.specs.declared.Refusal.{Refusal}
use Rattle.shown.specs.Text.{decimal, op_text, ops_text, order_text, shape_text, list_text, answer_text}
use Rattle.shown.specs.Put.{byte}
use Rattle.shown.specs.Filled.{screen, showing, same_screen}
use Rattle.phases.specs.System.{Shape, range, combined}
use Rattle.phases.specs.One.{phase_one}
use Rattle.answers.specs.declared.Refusal.TheVariants.{BadCount, BadShape}
use Rattle.call.specs.Call.{Octets, Buffers, outcome, shaped, bitwise, entered, roomy_for, shape_of, told, ended, checked, call_of}
use Rattle.phases.specs.Run.{Run, whole, solved, no_pivot, singular, defined, ending, answer, Answer, Solved, ListFull, NoPivot, Singular, no_counts}

abbrev pub ten : Shape
ten = record { m = 27; n = 27; s = 7; h = 10; w = 17 }

-- c in column q, zeros elsewhere
abbrev pub unit : ℕ → ℕ → List ℕ
unit c q = map (λ k. cond (eqb k q) c 0) (range 0 27)

abbrev pub flat : List ℕ → List ℕ
flat [] = []
flat (q ∷ qs) = unit 1 q ++ flat qs

-- the entry of row x in column q made c
abbrev pub with : ℕ → ℕ → ℕ → List ℕ → List ℕ
with x q c l = set l (27 * x + q) c

-- the binary matrix: rows 7..16 are ignored, and hold zeros
abbrev pub zeros : List ℕ
zeros = replicate 270 0

abbrev pub Q : List ℕ
Q = flat (range 0 7) ++ zeros ++ flat (range 7 10)

abbrev pub Q_octets : List ℕ
Q_octets = flat (range 17 10)

pub record Lent (t : ℕ) (b : Buffers) : Type 0 where
  pub some_bytes : 1 ≤ t
  pub few_bytes : t ≤ most_bytes
  pub room : length b.list ≤ most_ops
  pub size : length b.slab ≡ 27 * t
  pub rooms : roomy_for 27 27 b ≡ true

abbrev pub Gets : (ℕ → Type 0) → List ℕ → List ℕ → Answer → Type 0
Gets Room bits octs a = (t : ℕ) (b : Buffers) → Lent t b → Room (length b.list) → call_of 10 27 t bits (Octets.given octs) b ≡ ended t b a

-- any list room, one for an operation or more, none
abbrev pub room-any : ℕ → Type 0
room-any n = 0 ≤ n

abbrev pub room-one : ℕ → Type 0
room-one n = 1 ≤ n

abbrev pub room-none : ℕ → Type 0
room-none n = n ≡ 0

-- the matrix of a binary matrix and octet rows, and the answer with room for so many operations
abbrev pub solve : ℕ → Bool → List ℕ → List ℕ → Answer
solve room wide bits octs = answer room (defined ten (combined ten bits octs) wide)

abbrev pub usual : List ℕ
usual = range 0 7 ++ range 17 10 ++ range 7 10

abbrev pub block : List ℕ
block = flat (range 1 7) ++ zeros ++ flat (range 8 10)

abbrev pub block_octets : List ℕ
block_octets = flat (0 ∷ range 18 9)

abbrev pub stored : List ℕ
stored = 0 ∷ 0 ∷ 0 ∷ 14 ∷ 1 ∷ 0 ∷ 27 ∷ 0 ∷ 27 ∷ 0 ∷ 0 ∷ 0 ∷ 1 ∷ 2 ∷ 7 ∷ 0 ∷ 142 ∷ 0 ∷ []

abbrev pub stored_says : Kept
stored_says = record { rows = 27; columns = 27; operations = 1; ordered = false }

abbrev pub text : List ℕ
text =
    114 ∷ 111 ∷ 119 ∷ 115 ∷ 32 ∷ 50 ∷ 55 ∷ 32 ∷ 99 ∷ 111 ∷ 108 ∷ 117 ∷ 109 ∷ 110 ∷ 115 ∷ 32 ∷ 50 ∷ 55 ∷ 32 ∷ 111 ∷ 112 ∷ 101 ∷ 114 ∷ 97 ∷ 116 ∷ 105 ∷ 111 ∷ 110 ∷ 115 ∷ 32 ∷ 49 ∷ 10 ∷
    109 ∷ 117 ∷ 108 ∷ 32 ∷ 55 ∷ 32 ∷ 49 ∷ 52 ∷ 50 ∷ 10 ∷
    111 ∷ 114 ∷ 100 ∷ 101 ∷ 114 ∷ 32 ∷ 110 ∷ 111 ∷ 110 ∷ 101 ∷ 10 ∷ []

-- what a call with each system gets; with no room, what was recorded does not fit; a call with no symbols, or with too few rows, is refused and changes nothing
pub record Small : Type 0 where
  pub ten-is : (g : Sizes) → params_of 10 ≡ Ok g → shape_of g g.h 27 ≡ ten
  pub empty_list : Gets room-any Q Q_octets (Solved [] usual no_counts no_counts)
  pub one_scaling : Gets room-one Q (with 0 17 2 Q_octets) (Solved (MulAssign 7 142 ∷ []) usual no_counts (0 ∷ 1 ∷ 0 ∷ 0 ∷ 0 ∷ []))
  pub scaling_first : (defined ten (combined ten Q (with 0 17 2 Q_octets)) false).one ≡ []
  pub one_addition : Gets room-one (with 0 17 1 Q) Q_octets (Solved (AddAssign 0 7 ∷ []) usual (0 ∷ 0 ∷ 0 ∷ 1 ∷ 0 ∷ []) no_counts)
  pub one_fma : Gets room-one Q (with 0 0 3 Q_octets) (Solved (FMA 7 0 3 ∷ []) usual (1 ∷ 0 ∷ 0 ∷ 0 ∷ 0 ∷ []) (1 ∷ 0 ∷ 0 ∷ 0 ∷ 0 ∷ []))
  pub one_singular : Gets room-any Q (with 0 17 0 Q_octets) (Singular (unit 1 17))
  pub one-refused : Gets room-any (flat (range 0 7) ++ zeros ++ flat (range 17 10)) (flat (range 7 10)) NoPivot
  pub no_room_scaling : Gets room-none Q (with 0 17 2 Q_octets) ListFull
  pub no_room_addition : Gets room-none (with 0 17 1 Q) Q_octets ListFull
  pub no_room_fma : Gets room-none Q (with 0 0 3 Q_octets) ListFull
  pub no_count : (m t : ℕ) (bits : List ℕ) (o : Octets) (b : Buffers) → call_of 0 m t bits o b ≡ outcome (Err BadCount) b
  pub too_few_rows : (t : ℕ) (bits : List ℕ) (o : Octets) (b : Buffers) → call_of 10 26 t bits o b ≡ outcome (Err BadShape) b
  pub octet_facts : (mul 2 128 ≡ 29) × (mul 3 3 ≡ 5) × (quotient 1 2 ≡ 142)
  pub stored_form : form_of 27 27 (MulAssign 7 142 ∷ []) false [] ≡ stored
  pub stored_read : (list order : List ℕ) → 1 ≤ length list → read_of stored list order ≡ got (Ok stored_says) (padded (packed (MulAssign 7 142) ∷ []) (length list)) (padded [] (length order))
  pub stored_shown : (list order out : List ℕ) → 1 ≤ length list → 53 ≤ length out
      → showing stored list order out ≡ screen (log (text ++ drop 53 out) 53) (padded (packed (MulAssign 7 142) ∷ []) (length list)) (padded [] (length order))
  pub block_refused : Gets room-any block block_octets NoPivot
  pub block-steps : length (phase_one (combined ten block block_octets) ten).steps ≡ 16
  pub block_wide : solve 1000 true block block_octets ≡ Solved [] (7 ∷ range 0 7 ++ range 17 10 ++ range 8 9) no_counts no_counts

-- each run is computed once
abbrev run_of : List ℕ → List ℕ → Run
run_of bits octs = defined ten (combined ten bits octs) false

run_plain : run_of Q Q_octets ≡ record { one = []; two = []; three = []; four = []; five = []; end = solved usual }
unfolding entry_at add times product rest mul squares inverse for_to up for_way
run_plain = refl

run_scaling : run_of Q (with 0 17 2 Q_octets) ≡ record { one = []; two = MulAssign 7 142 ∷ []; three = []; four = []; five = []; end = solved usual }
unfolding entry_at add times product rest mul squares inverse for_to up for_way
run_scaling = refl

run_addition : run_of (with 0 17 1 Q) Q_octets ≡ record { one = []; two = []; three = []; four = AddAssign 0 7 ∷ []; five = []; end = solved usual }
unfolding entry_at add times product rest mul squares inverse for_to up for_way
run_addition = refl

run_fma : run_of Q (with 0 0 3 Q_octets) ≡ record { one = FMA 7 0 3 ∷ []; two = []; three = []; four = []; five = []; end = solved usual }
unfolding entry_at add times product rest mul squares inverse for_to up for_way
run_fma = refl

run_singular : run_of Q (with 0 17 0 Q_octets) ≡ record { one = []; two = []; three = []; four = []; five = []; end = singular (unit 1 17) }
unfolding entry_at add times product rest mul squares inverse for_to up for_way
run_singular = refl

run-refused : run_of (flat (range 0 7) ++ zeros ++ flat (range 17 10)) (flat (range 7 10))
    ≡ record { one = []; two = []; three = []; four = []; five = []; end = no_pivot }
unfolding entry_at add times product rest mul squares inverse for_to up for_way
run-refused = refl

run-block : run_of block block_octets ≡ record { one = []; two = []; three = []; four = []; five = []; end = no_pivot }
unfolding entry_at add times product rest mul squares inverse for_to up for_way
run-block = refl

block_takes : length (phase_one (combined ten block block_octets) ten).steps ≡ 16
unfolding entry_at for_to up
block_takes = refl

block_goes_on : solve 1000 true block block_octets ≡ Solved [] (7 ∷ range 0 7 ++ range 17 10 ++ range 8 9) no_counts no_counts
unfolding entry_at add times product rest mul squares inverse for_to up for_way adds muls
block_goes_on = refl

no_symbols : (m t : ℕ) (bits : List ℕ) (o : Octets) (b : Buffers) → call_of 0 m t bits o b ≡ outcome (Err BadCount) b
unfolding call_of
no_symbols m t bits o b = rw (at_zero 0 refl)

few_rows : (t : ℕ) (bits : List ℕ) (o : Octets) (b : Buffers) → call_of 10 26 t bits o b ≡ outcome (Err BadShape) b
unfolding call_of checked shaped
few_rows t bits o b = rw params.ten

form_is : form_of 27 27 (MulAssign 7 142 ∷ []) false [] ≡ stored
unfolding form_of ops_bytes
form_is = refl

kept-is : (n k : ℕ) → 1 ≤ n → judged stored n k ≡ Ok stored_says
unfolding judged judged_by form_fine unused_fine unused_at words_at shape_fine list_fine order_fine op_fine meaning
kept-is n k h = rw (le-leb 1 n h, le-leb 0 k (omega arith))

read_is : (list order : List ℕ) → 1 ≤ length list → read_of stored list order ≡ got (Ok stored_says) (padded (packed (MulAssign 7 142) ∷ []) (length list)) (padded [] (length order))
unfolding read_of words_at packed
read_is list order h = rw (kept-is (length list) (length order) h)

text-is : answer_text (Ok stored_says) stored ≡ text
unfolding list_text shape_text ops_text op_text order_text decimal ops_of words_at meaning
text-is = refl

shown_is : (list order out : List ℕ) → 1 ≤ length list → 53 ≤ length out
    → showing stored list order out ≡ screen (log (text ++ drop 53 out) 53) (padded (packed (MulAssign 7 142) ∷ []) (length list)) (padded [] (length order))
unfolding showing
shown_is list order out h k =
    let r = read_is list order h in
    same_screen
    (ap (λ (a : Result Kept Refusal). puts byte (log out 0) (answer_text a stored)) (kept-is (length list) (length order) h)
    ∙ ap (puts byte (log out 0)) text-is ∙ puts_fit byte text out 0 k ∙ ap (λ (l : List ℕ). log l 53) (sets-eq text out 0 k))
    (ap (λ (g : Got). g.list) r) (ap (λ (g : Got). g.order) r)

ten-shape : (g : Sizes) → params_of 10 ≡ Ok g → shape_of g g.h 27 ≡ ten
ten-shape g e = let z : Ok g ≡ Ok _ = sym e ∙ params.ten in cc

abbrev pub Fits : List ℕ → List ℕ → Type 0
Fits bits octs = (length bits ≡ 729) × (length octs ≡ 270) × (entered 27 7 10 bits ≡ true)

pub call-ten : (bits octs : List ℕ) → Fits bits octs → (t : ℕ) (b : Buffers) → Lent t b
    → call_of 10 27 t bits (Octets.given octs) b ≡ ended t b (told ten bits octs (length b.list))
unfolding call_of checked shaped
call-ten bits octs f t b h =
    rw (
      params.ten,
      le-leb 1 t h.some_bytes,
      le-leb t most_bytes h.few_bytes,
      le-leb (length b.list) most_ops h.room,
      eq-eqb (length bits) 729 f.0,
      eq-eqb (length octs) 270 f.1,
      eq-eqb (length b.slab) (27 * t) h.size,
      f.2,
      h.rooms,
    )

-- a run that is known, with or without room for its list
module _ (bits octs : List ℕ) (f : Fits bits octs) {r : Run} (e : run_of bits octs ≡ r) where
  gets : (q : Bool) (Room : ℕ → Type 0) → ((n : ℕ) → Room n → ltb n (length (whole r)) ≡ q) → Gets Room bits octs (cond q ListFull (ending r r.end))
  unfolding told
  gets q Room g t b h k =
      call-ten bits octs f t b h
      ∙ ap (λ (x : Run). ended t b (answer (length b.list) x)) e
      ∙ ap (λ (c : Bool). ended t b (cond c ListFull (ending r r.end))) (g (length b.list) k)

pub small : Small
unfolding adds muls entered bitwise
small = record {
  ten-is = ten-shape;
  empty_list = gets Q Q_octets (refl, refl, refl) run_plain false room-any (λ n h. le-ltb n 0 h);
  one_scaling = gets Q (with 0 17 2 Q_octets) (refl, refl, refl) run_scaling false room-one (λ n h. le-ltb n 1 h);
  scaling_first = ap (λ (r : Run). r.one) run_scaling;
  one_addition = gets (with 0 17 1 Q) Q_octets (refl, refl, refl) run_addition false room-one (λ n h. le-ltb n 1 h);
  one_fma = gets Q (with 0 0 3 Q_octets) (refl, refl, refl) run_fma false room-one (λ n h. le-ltb n 1 h);
  one_singular = gets Q (with 0 17 0 Q_octets) (refl, refl, refl) run_singular false room-any (λ n h. le-ltb n 0 h);
  one-refused = gets (flat (range 0 7) ++ zeros ++ flat (range 17 10)) (flat (range 7 10)) (refl, refl, refl) run-refused false room-any (λ n h. le-ltb n 0 h);
  no_room_scaling = gets Q (with 0 17 2 Q_octets) (refl, refl, refl) run_scaling true room-none (λ n h. lt-ltb n 1 (omega arith));
  no_room_addition = gets (with 0 17 1 Q) Q_octets (refl, refl, refl) run_addition true room-none (λ n h. lt-ltb n 1 (omega arith));
  no_room_fma = gets Q (with 0 0 3 Q_octets) (refl, refl, refl) run_fma true room-none (λ n h. lt-ltb n 1 (omega arith));
  no_count = no_symbols;
  too_few_rows = few_rows;
  octet_facts = (two-by_128, three-by-three, half);
  stored_form = form_is;
  stored_read = read_is;
  stored_shown = shown_is;
  block_refused = gets block block_octets (refl, refl, refl) run-block false room-any (λ n h. le-ltb n 0 h);
  block-steps = block_takes;
  block_wide = block_goes_on;
}
