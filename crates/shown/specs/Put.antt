-- Text in a lent room, with a sticky count: bytes are put as operations are put into a list room.
--   byte          the word of a byte is itself
--   then          text after text
--   one, nothing  a byte, and no text
--   turn, over    a loop that puts text makes a turn, and is over
--   word_text      the text of a word of a list room
--   written        what a page holds
--   line_one, line_two   the line of an operation with one field beside its dest, and with two
--   ops_text-drop, entries_text-drop   text of what is left from a place on
-- Assumes nothing.
use Rattle.std.specs.Prelude.{ℕ, ◌+◌, ◌<◌, ◌≡◌, refl, List, [], ◌∷◌, ◌++◌, length, get_or, drop, Option, Some, None}
use Rattle.std.proofs.Common.{sym, ap, ◌∙◌, append_assoc}
use mathlib.Core.List.{append-nil}
use Rattle.loops.specs.Part.{drop-next}
use Rattle.loops.specs.Room.{Log, log, put, puts, notes, puts-append}
use Rattle.oplist.specs.declared.Op.{Op}
use Rattle.oplist.specs.Word.{meaning}
use Rattle.oplist.specs.Listed.{with_op, ops_of, ops_of-drop}
use Rattle.shown.specs.declared.Page.{Page}
use Rattle.shown.specs.Text.{newline, op_text, ops_text, named, space, entries_text}

abbrev pub byte : ℕ → ℕ
byte x = x

abbrev pub written : Page → Log
written p = log p.room.now p.used

pub then : (g h k : Log) (xs ys : List ℕ) → h ≡ puts byte g xs → k ≡ puts byte h ys → k ≡ puts byte g (xs ++ ys)
then g h k xs ys e f = f ∙ ap (λ (x : Log). puts byte x ys) e ∙ sym (puts-append byte g xs ys)

-- one byte
pub one : (g h : Log) (x : ℕ) → h ≡ put byte g x → h ≡ puts byte g (x ∷ [])
unfolding puts notes
one g h x e = e

-- no text
pub nothing : (g : Log) → g ≡ puts byte g []
unfolding puts notes
nothing g = refl

pub turn : (x g h : Log) (t xs ys : List ℕ) → x ≡ puts byte g t → t ≡ xs ++ ys → h ≡ puts byte g xs → x ≡ puts byte h ys
turn x g h t xs ys e f k = e ∙ ap (puts byte g) f ∙ puts-append byte g xs ys ∙ ap (λ (y : Log). puts byte y ys) (sym k)

pub over : (x g : Log) (t : List ℕ) → x ≡ puts byte g t → t ≡ [] → g ≡ x
unfolding puts notes
over x g t e f = sym (e ∙ ap (puts byte g) f)

-- the text of a word; an unknown kind has none
abbrev pub word_text : Option Op → List ℕ
word_text (Some o) = op_text o
word_text None = []

entries_one : (x : ℕ) → entries_text (x ∷ []) ≡ named space x
unfolding entries_text
entries_one x = append-nil (named space x)

entries_two : (x y : ℕ) → entries_text (x ∷ y ∷ []) ≡ named space x ++ named space y
unfolding entries_text
entries_two x y = ap (λ (l : List ℕ). named space x ++ l) (append-nil (named space y))

pub line_one : (word : List ℕ) (d x : ℕ) → named word d ++ (entries_text (x ∷ []) ++ newline) ≡ named word d ++ (named space x ++ newline)
line_one word d x = ap (λ (l : List ℕ). named word d ++ (l ++ newline)) (entries_one x)

pub line_two : (word : List ℕ) (d x y : ℕ) → named word d ++ (entries_text (x ∷ y ∷ []) ++ newline) ≡ named word d ++ (named space x ++ (named space y ++ newline))
line_two word d x y =
    ap (λ (l : List ℕ). named word d ++ (l ++ newline)) (entries_two x y) ∙ ap (λ (l : List ℕ). named word d ++ l) (append_assoc (named space x) (named space y) newline)

pub ops_text-drop : (ws : List ℕ) (k : ℕ) → k < length ws → ops_text (ops_of (drop k ws)) ≡ word_text (meaning (get_or ws k 0)) ++ ops_text (ops_of (drop (k + 1) ws))
unfolding ops_text
ops_text-drop ws k h = ap ops_text (ops_of-drop ws k h) ∙ of (meaning (get_or ws k 0))
  where
    of : (v : Option Op) → ops_text (with_op v (ops_of (drop (k + 1) ws))) ≡ word_text v ++ ops_text (ops_of (drop (k + 1) ws))
    of (Some o) = refl
    of None = refl

pub entries_text-drop : (xs : List ℕ) (k : ℕ) → k < length xs → entries_text (drop k xs) ≡ named space (get_or xs k 0) ++ entries_text (drop (k + 1) xs)
unfolding entries_text
entries_text-drop xs k h = rw (drop-next xs k h)
