-- A text with one case, read byte by byte: 27 columns, one row of bits, a slab of one byte.
--   text           five lines: a name, `sys 10 0 1 1`, `b 80000020`, `s 0f`, `go`
--   before, after  buffers with an entry more than the case has
--   example_read   what reading the text answers and leaves
-- Assumes nothing.
use Rattle.std.specs.Prelude.{ℕ, ◌≡◌, refl, false, List, [], ◌∷◌, ◌++◌, replicate}
use Rattle.loops.specs.Part.{put}
use Rattle.params.specs.Params.{params_of, answer, first}
use Rattle.params.specs.Table.{table}
use Rattle.systems.specs.declared.told.Read.TheVariants.{Case}
use Rattle.systems.specs.Text.{lines_in, starts_with, digits_of, number_of}
use Rattle.systems.specs.Digits.{nibble_of, are_digits, bytes_of, bits_in, clear, is_row, is_bytes}
use Rattle.systems.specs.Lined.{columns_of, head_of, placed, row_on, only_if, line_of, system, Buffers, buffers}
use Rattle.systems.specs.Cases.{rows_of, lines_of, cases_of, read_of, outcome, place}

abbrev pub text : List ℕ
text =
    99 ∷ 97 ∷ 115 ∷ 101 ∷ 32 ∷ 97 ∷ 10 ∷ 115 ∷ 121 ∷ 115 ∷ 32 ∷ 49 ∷ 48 ∷ 32 ∷ 48 ∷ 32 ∷ 49 ∷ 32 ∷ 49 ∷ 10 ∷ 98 ∷ 32 ∷ 56 ∷ 48 ∷ 48 ∷ 48 ∷ 48 ∷ 48 ∷ 50 ∷ 48 ∷ 10
    ∷ 115 ∷ 32 ∷ 48 ∷ 102 ∷ 10 ∷ 103 ∷ 111 ∷ 10 ∷ []

abbrev pub before : Buffers
before = buffers (replicate 28 7) (7 ∷ []) (7 ∷ 7 ∷ [])

abbrev pub after : Buffers
after = buffers (1 ∷ replicate 25 0 ++ (1 ∷ 7 ∷ [])) (7 ∷ []) (15 ∷ 7 ∷ [])

pub example_read : read_of text 0 before ≡ outcome (Case (system 10 false 1 1 27 27 0 1 false) (place 0 6 39)) after
unfolding read_of cases_of lines_of rows_of lines_in starts_with digits_of number_of nibble_of are_digits bytes_of bits_in clear is_row is_bytes columns_of head_of placed row_on only_if line_of put params_of answer first table
example_read = refl
