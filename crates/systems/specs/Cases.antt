-- The cases of a text, line after line.
--   case_word         the word `case` and a space, with which the line of a case's name begins
--   Lines             how the lines after a case's name go on: up to `go`, or to where a line begins that has no place there
--   Ended, rows_of    how the lines after a `sys` line go on from a place, beside the buffers
--   lines_of          the same of the lines after a case's name
--   follow           what follows a line: one that lets the case go on, one that ends it, one that has no place in it
--   begin_with       what follows a `sys` line
--   Outcome, cases_of   the first case of lines from a place on, beside the buffers
--   read_of           what reading a text from a place on answers and leaves
--   ended, outcome   how lines go on, and an answer, beside the buffers
--   place            where the line of a case's name begins and ends, and where the text goes on
--   answered, named  the answer for a case whose name stands there, by how its lines go on; the same beside the buffers
--   FoundAt          what reading from a place gives begins at another, with a case's name, or is past the text
--   find_turn        a loop that looks for a case makes a turn
--   rows_on, rows_go, rows_bad, rows-over      a loop over the lines of a case
--   lines_head, lines_bad, lines_none   the `sys` line
--   found_here, found-over   the loop has found a case, or is over
--   read_is, read_end     a case, and none
--   read_one         two results that meet the statement are equal
-- Assumes nothing.
use Rattle.std.specs.Prelude.{ℕ, ◌+◌, ◌-◌, ◌≤◌, ◌<◌, ◌≡◌, Option, Some, None, Result, Ok, Err, true, false, cond, List, [], ◌∷◌, length, take, drop}
use Rattle.std.proofs.Common.{sym, ap, ◌∙◌, arith}
use Rattle.systems.specs.declared.told.System.{System}
use Rattle.systems.specs.declared.told.Place.{Place}
use Rattle.systems.specs.declared.told.Turn.{Turn}
use Rattle.systems.specs.declared.told.Turn.TheVariants as turn
use Rattle.systems.specs.declared.told.Read.{Read}
use Rattle.systems.specs.declared.told.Read.TheVariants.{Case, Malformed, End}
use Rattle.systems.specs.Text.{end_of, lines_in, starts_with, lines_at, lines_over, line_long}
use Rattle.systems.specs.Lined.{Buffers, turned, head_of, line_of}

-- "case "
abbrev pub case_word : List ℕ
case_word = 99 ∷ 97 ∷ 115 ∷ 101 ∷ 32 ∷ []

-- the case, and where the text goes on; or where the line begins that has no place in it
abbrev pub Lines : Type 0
Lines = Result (System × ℕ) ℕ

pub record Ended : Type 0 where
  pub lines : Lines
  pub buffers : Buffers

abbrev pub ended : Lines → Buffers → Ended
ended l b = record { lines = l; buffers = b }

-- what follows a line that lets the case go on, that ends it, that has no place in it
abbrev pub follow : Option Turn → (System → Ended) → Ended → Ended → Ended
follow (Some (turn.On s)) on done bad = on s
follow (Some turn.Go) on done bad = done
follow None on done bad = bad

-- what follows a `sys` line, and one that is none
abbrev pub begin_with : Option System → (System → Ended) → Ended → Ended
begin_with (Some s) on bad = on s
begin_with None on bad = bad

unfoldable pub rows_of : List (List ℕ) → ℕ → System → Buffers → Ended
rows_of [] at s b = ended (Err at) b
rows_of (l ∷ ls) at s b =
    follow (line_of l s b).turn
    (λ (next : System). rows_of ls (at + length l + 1) next (line_of l s b).buffers)
    (ended (Ok (s, at + length l + 1)) (line_of l s b).buffers)
    (ended (Err at) (line_of l s b).buffers)

unfoldable pub lines_of : List (List ℕ) → ℕ → Buffers → Ended
lines_of [] at b = ended (Err at) b
lines_of (l ∷ ls) at b =
    begin_with (head_of l) (λ (s : System). rows_of ls (at + length l + 1) s b) (ended (Err at) b)

pub record Outcome : Type 0 where
  pub answer : Read
  pub buffers : Buffers

abbrev pub outcome : Read → Buffers → Outcome
outcome r b = record { answer = r; buffers = b }

abbrev pub place : (from end next : ℕ) → Place
place from end next = record { from = from; end = end; next = next }

-- the answer for a case whose name's line begins and ends there
abbrev pub answered : (from end : ℕ) → Lines → Read
answered from end (Ok (s, next)) = Case s (place from end next)
answered from end (Err next) = Malformed (place from end next)

abbrev pub named : (from end : ℕ) → Ended → Outcome
named from end e = outcome (answered from end e.lines) e.buffers

unfoldable pub cases_of : List (List ℕ) → ℕ → Buffers → Outcome
cases_of [] at b = outcome End b
cases_of (l ∷ ls) at b = cond (starts_with case_word l) (named at (at + length l) (lines_of ls (at + length l + 1) b)) (cases_of ls (at + length l + 1) b)

unfoldable pub read_of : List ℕ → ℕ → Buffers → Outcome
read_of text from b = cases_of (lines_in (drop from text)) from b

pub record FoundAt (text : List ℕ) (from at : ℕ) : Type 0 where
  pub same : (b : Buffers) → read_of text from b ≡ read_of text at b
  pub is : at < length text → starts_with case_word (take (end_of (drop at text)) (drop at text)) ≡ true

pub rows-over : (text : List ℕ) (at : ℕ) (s : System) (b : Buffers) → length text ≤ at
    → rows_of (lines_in (drop at text)) at s b ≡ ended (Err at) b
unfolding rows_of
rows-over text at s b h = rw (lines_over text at h)

pub lines_none : (text : List ℕ) (at : ℕ) (b : Buffers) → length text ≤ at → lines_of (lines_in (drop at text)) at b ≡ ended (Err at) b
unfolding lines_of
lines_none text at b h = rw (lines_over text at h)

pub read_end : (text : List ℕ) (at : ℕ) (b : Buffers) → length text ≤ at → read_of text at b ≡ outcome End b
unfolding read_of cases_of
read_end text at b h = rw (lines_over text at h)

-- the line at a place, which ends at `end`
module _ (text : List ℕ) (at end : ℕ) (h : at < length text) (e : end ≡ at + end_of (drop at text)) where
  abbrev line : List ℕ
  line = take (end - at) (drop at text)

  module _ (s : System) (b : Buffers) {t : Option Turn} {c : Buffers} (l : turned t c ≡ line_of line s b) where
    -- what follows the line
    rows_at : (x : Option Turn) → t ≡ x → rows_of (lines_in (drop at text)) at s b
        ≡ follow x (λ (next : System). rows_of (lines_in (drop (end + 1) text)) (end + 1) next c) (ended (Ok (s, end + 1)) c) (ended (Err at) c)
    unfolding rows_of
    rows_at x q = rw (lines_at text at end h e, ← l, line_long text at end h e, q)

    pub rows_on : {next : System} → t ≡ Some (turn.On next) → rows_of (lines_in (drop at text)) at s b ≡ rows_of (lines_in (drop (end + 1) text)) (end + 1) next c
    rows_on {next} q = rows_at (Some (turn.On next)) q

    pub rows_go : t ≡ Some turn.Go → rows_of (lines_in (drop at text)) at s b ≡ ended (Ok (s, end + 1)) c
    rows_go q = rows_at (Some turn.Go) q

    pub rows_bad : t ≡ None → rows_of (lines_in (drop at text)) at s b ≡ ended (Err at) c
    rows_bad q = rows_at None q

  module _ (b : Buffers) {t : Option System} (l : t ≡ head_of line) where
    head_at : (x : Option System) → t ≡ x → lines_of (lines_in (drop at text)) at b
        ≡ begin_with x (λ (s : System). rows_of (lines_in (drop (end + 1) text)) (end + 1) s b) (ended (Err at) b)
    unfolding lines_of
    head_at x q = rw (lines_at text at end h e, ← l, line_long text at end h e, q)

    pub lines_head : {s : System} → t ≡ Some s → lines_of (lines_in (drop at text)) at b ≡ rows_of (lines_in (drop (end + 1) text)) (end + 1) s b
    lines_head {s} q = head_at (Some s) q

    pub lines_bad : t ≡ None → lines_of (lines_in (drop at text)) at b ≡ ended (Err at) b
    lines_bad q = head_at None q

  pub find_turn : starts_with case_word line ≡ false → (b : Buffers) → read_of text at b ≡ read_of text (end + 1) b
  unfolding read_of cases_of
  find_turn w b = rw (lines_at text at end h e, line_long text at end h e, w)

  read_case : starts_with case_word line ≡ true → (b : Buffers) → read_of text at b ≡ named at end (lines_of (lines_in (drop (end + 1) text)) (end + 1) b)
  unfolding read_of cases_of
  read_case w b = rw (lines_at text at end h e, line_long text at end h e, w)

count : (text : List ℕ) (at end : ℕ) → end ≡ at + end_of (drop at text) → end - at ≡ end_of (drop at text)
count text at end e = omega arith

module _ {text : List ℕ} {from at : ℕ} (end : ℕ) (e : end ≡ at + end_of (drop at text)) where
  pub found_here : ((b : Buffers) → read_of text from b ≡ read_of text at b) → starts_with case_word (take (end - at) (drop at text)) ≡ true → FoundAt text from at
  found_here f w = record { same = f; is = λ _. rw (count text at end e) at w }

  -- a case that was found, whose lines are read
  pub read_is : FoundAt text from at → at < length text → (b : Buffers) {l x : Lines} {c : Buffers}
      → ended l c ≡ lines_of (lines_in (drop (end + 1) text)) (end + 1) b → l ≡ x → outcome (answered at end x) c ≡ read_of text from b
  read_is f h b {l} {x} {c} r q =
      ap (λ (y : Lines). outcome (answered at end y) c) (sym q) ∙ ap (named at end) r
      ∙ sym (f.same b ∙ read_case text at end h e (rw (count text at end e) (f.is h)) b)

pub found-over : {text : List ℕ} {from at : ℕ} → ((b : Buffers) → read_of text from b ≡ read_of text at b) → length text ≤ at → FoundAt text from at
found-over f h = record { same = f; is = λ k. absurd (omega arith) }

pub read_one : (text : List ℕ) (from : ℕ) (b : Buffers) (x y : Outcome) → x ≡ read_of text from b → y ≡ read_of text from b → x ≡ y
read_one text from b x y e f = e ∙ sym f
