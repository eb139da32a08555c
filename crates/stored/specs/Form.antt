-- The stored form of a list: all numbers with the highest byte first.
--   4 bytes: how many follow; 1: the version, 1; 2: rows; 2: columns; 4: operations; 4 for each operation: kind 1, 2 or 3, dest, src, scalar,
--   one that is not used 0; 1: whether there is an order, 0 or 1; and, if so, its entries, a byte each.
--   op_bytes, ops_bytes, order_bytes   the bytes of an operation, of a list of them, of an order or none, in front of others
--   order_size, form_size             how many bytes an order has, and a form
--   form_of                          the form of a list
--   rows_in, columns_in, ops_in, flag_in, ordered_in, words_in, order_in   what a form says
--   word_at, words_at                 the word of the operation at a place of bytes, and of many from there on
--   pick_bool                        one of two truth values, by a test
--   unused_at, unused_fine            no byte that is not used is other than 0, in one operation and in many; an unknown kind has none
--   form_fine                        length, version, unused bytes and flag are right
-- Assumes nothing.
use Rattle.std.specs.Prelude.{ℕ, zero, suc, ◌+◌, ◌*◌, Bool, true, false, ◌&&◌, List, [], ◌∷◌, leb, eqb, length, get_or, drop}
use Rattle.oplist.specs.declared.Op.{Op}
use Rattle.oplist.specs.declared.Op.TheVariants.{AddAssign, MulAssign, FMA}
use Rattle.oplist.specs.Word.{word}
use Rattle.stored.specs.Bytes.{number2, number4, digits2, digits4}

-- writing

abbrev pub op_bytes : Op → List ℕ → List ℕ
op_bytes (AddAssign d s) r = 1 ∷ d ∷ s ∷ 0 ∷ r
op_bytes (MulAssign d x) r = 2 ∷ d ∷ 0 ∷ x ∷ r
op_bytes (FMA d s x) r = 3 ∷ d ∷ s ∷ x ∷ r

unfoldable pub ops_bytes : List Op → List ℕ → List ℕ
ops_bytes [] r = r
ops_bytes (o ∷ os) r = op_bytes o (ops_bytes os r)

abbrev pub order_bytes : Bool → List ℕ → List ℕ
order_bytes true order = 1 ∷ order
order_bytes false order = 0 ∷ []

abbrev pub order_size : Bool → ℕ → ℕ
order_size true l = l
order_size false l = 0

abbrev pub form_size : ℕ → ℕ → Bool → ℕ
form_size n l ordered = 14 + 4 * n + order_size ordered l

unfoldable pub form_of : ℕ → ℕ → List Op → Bool → List ℕ → List ℕ
form_of m l os ordered order =
    digits4 (10 + 4 * length os + order_size ordered l)
    (1 ∷ digits2 m (digits2 l (digits4 (length os) (ops_bytes os (order_bytes ordered order)))))

-- reading

abbrev pub rows_in : List ℕ → ℕ
rows_in b = number2 b 5

abbrev pub columns_in : List ℕ → ℕ
columns_in b = number2 b 7

abbrev pub ops_in : List ℕ → ℕ
ops_in b = number4 b 9

abbrev pub flag_in : List ℕ → ℕ
flag_in b = get_or b (13 + 4 * ops_in b) 0

abbrev pub ordered_in : List ℕ → Bool
ordered_in b = eqb (flag_in b) 1

abbrev pub word_at : List ℕ → ℕ → ℕ
word_at b at = word (get_or b at 0) (get_or b (at + 3) 0) (get_or b (at + 1) 0) (get_or b (at + 2) 0)

unfoldable pub words_at : List ℕ → ℕ → ℕ → List ℕ
words_at b at zero = []
words_at b at (suc n) = word_at b at ∷ words_at b (at + 4) n

abbrev pub words_in : List ℕ → List ℕ
words_in b = words_at b 13 (ops_in b)

abbrev pub order_in : List ℕ → List ℕ
order_in b = drop (14 + 4 * ops_in b) b

abbrev pub pick_bool : Bool → Bool → Bool → Bool
pick_bool true x y = x
pick_bool false x y = y

unfoldable pub unused_at : List ℕ → ℕ → Bool
unused_at b at =
    pick_bool (eqb (get_or b at 0) 1) (eqb (get_or b (at + 3) 0) 0)
    (pick_bool (eqb (get_or b at 0) 2) (eqb (get_or b (at + 2) 0) 0) true)

unfoldable pub unused_fine : List ℕ → ℕ → ℕ → Bool
unused_fine b at zero = true
unused_fine b at (suc n) = unused_at b at && unused_fine b (at + 4) n

unfoldable pub form_fine : List ℕ → Bool
form_fine b =
    leb 14 (length b)
    && (eqb (number4 b 0 + 4) (length b)
    && (eqb (get_or b 4 0) 1
    && (leb (flag_in b) 1
    && (eqb (length b) (form_size (ops_in b) (columns_in b) (ordered_in b)) && unused_fine b 13 (ops_in b)))))
