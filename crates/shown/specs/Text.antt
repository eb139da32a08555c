-- A stored list as text: its shape, a line for each operation, and its order or the lack of one; or a refusal by its number. Bytes are ASCII.
--   rows_word, columns_word, operations_word   the words of the shape, `rows`, `columns` and `operations`, with the spaces about them
--   add_word, mul_word, fma_word               the words of an operation, `add`, `mul` and `fma`, with a space after each
--   order_word, refused_word                  the word `order`; the word `refused`, with a space after it
--   none_line       the line `order none`, where there is no order
--   space, newline a space; the end of a line
--   pick_text       one of two texts, by a test
--   digit_at        the digit at a power of ten, or no text where the number is below that power
--   decimal        a number below ten million in decimal digits, with no zero in front
--   named          a word, then a number
--   op_text         the line of an operation: its kind, dest, then src and scalar where it has them
--   ops_text        the lines of operations, one after another
--   entries_text    the entries of an order, a space before each
--   order_text      the line of an order, or of none
--   shape_text      the line of the shape: how many rows, columns and operations
--   list_text       the text of a list
--   refused_text    the text of a refusal
--   most_shown      the most bytes of a form that is shown
--   answer_text     the text of what reading a form answers
-- Assumes nothing.
use Rattle.std.specs.Prelude.{ℕ, ◌+◌, ◌/◌, ◌%◌, Bool, true, false, List, [], ◌∷◌, ◌++◌, leb, length, Result, Ok, Err}
use Rattle.oplist.specs.declared.Op.{Op}
use Rattle.oplist.specs.declared.Op.TheVariants.{AddAssign, MulAssign, FMA}
use Rattle.oplist.specs.Listed.{ops_of}
use Rattle.stored.specs.declared.Kept.{Kept}
use Rattle.stored.specs.declared.Refusal.{Refusal}
use Rattle.stored.specs.Form.{words_in, order_in}
use Rattle.stored.specs.Answers.{refusal_number}

abbrev pub rows_word : List ℕ
rows_word = 114 ∷ 111 ∷ 119 ∷ 115 ∷ 32 ∷ []

abbrev pub columns_word : List ℕ
columns_word = 32 ∷ 99 ∷ 111 ∷ 108 ∷ 117 ∷ 109 ∷ 110 ∷ 115 ∷ 32 ∷ []

abbrev pub operations_word : List ℕ
operations_word = 32 ∷ 111 ∷ 112 ∷ 101 ∷ 114 ∷ 97 ∷ 116 ∷ 105 ∷ 111 ∷ 110 ∷ 115 ∷ 32 ∷ []

abbrev pub add_word : List ℕ
add_word = 97 ∷ 100 ∷ 100 ∷ 32 ∷ []

abbrev pub mul_word : List ℕ
mul_word = 109 ∷ 117 ∷ 108 ∷ 32 ∷ []

abbrev pub fma_word : List ℕ
fma_word = 102 ∷ 109 ∷ 97 ∷ 32 ∷ []

abbrev pub order_word : List ℕ
order_word = 111 ∷ 114 ∷ 100 ∷ 101 ∷ 114 ∷ []

abbrev pub none_line : List ℕ
none_line = 111 ∷ 114 ∷ 100 ∷ 101 ∷ 114 ∷ 32 ∷ 110 ∷ 111 ∷ 110 ∷ 101 ∷ 10 ∷ []

abbrev pub refused_word : List ℕ
refused_word = 114 ∷ 101 ∷ 102 ∷ 117 ∷ 115 ∷ 101 ∷ 100 ∷ 32 ∷ []

abbrev pub space : List ℕ
space = 32 ∷ []

abbrev pub newline : List ℕ
newline = 10 ∷ []

abbrev pub pick_text : Bool → List ℕ → List ℕ → List ℕ
pick_text true a b = a
pick_text false a b = b

-- the digit at the power p of ten, where the number is so large
abbrev pub digit_at : ℕ → ℕ → List ℕ
digit_at p x = pick_text (leb p x) ((48 + x / p % 10) ∷ []) []

unfoldable pub decimal : ℕ → List ℕ
decimal x =
    digit_at 1000000 x ++ (digit_at 100000 x ++ (digit_at 10000 x ++ (digit_at 1000 x ++ (digit_at 100 x ++ (digit_at 10 x ++ ((48 + x % 10) ∷ []))))))

-- words, then a number
abbrev pub named : List ℕ → ℕ → List ℕ
named word x = word ++ decimal x

unfoldable pub op_text : Op → List ℕ
op_text (AddAssign d s) = named add_word d ++ (named space s ++ newline)
op_text (MulAssign d x) = named mul_word d ++ (named space x ++ newline)
op_text (FMA d s x) = named fma_word d ++ (named space s ++ (named space x ++ newline))

unfoldable pub ops_text : List Op → List ℕ
ops_text [] = []
ops_text (o ∷ os) = op_text o ++ ops_text os

unfoldable pub entries_text : List ℕ → List ℕ
entries_text [] = []
entries_text (x ∷ xs) = named space x ++ entries_text xs

unfoldable pub order_text : Bool → List ℕ → List ℕ
order_text true order = order_word ++ (entries_text order ++ newline)
order_text false order = none_line

unfoldable pub shape_text : ℕ → ℕ → ℕ → List ℕ
shape_text m l n = named rows_word m ++ (named columns_word l ++ (named operations_word n ++ newline))

unfoldable pub list_text : ℕ → ℕ → List Op → Bool → List ℕ → List ℕ
list_text m l os ordered order = shape_text m l (length os) ++ (ops_text os ++ order_text ordered order)

unfoldable pub refused_text : ℕ → List ℕ
refused_text number = named refused_word number ++ newline

-- what is read from the form b, or the refusal
abbrev pub answer_text : Result Kept Refusal → List ℕ → List ℕ
answer_text (Ok k) b = list_text k.rows k.columns (ops_of (words_in b)) k.ordered (order_in b)
answer_text (Err e) b = refused_text (refusal_number e)

abbrev pub most_shown : ℕ
most_shown = 65536
