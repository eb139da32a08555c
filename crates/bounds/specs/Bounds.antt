-- The bounds of a system and of its list.
--   most_rows    the most rows of a system, and so its most columns
--   most_bytes   the most bytes of a symbol
--   most_ops     the most operations of a list, and the largest room for one
-- Assumes nothing.
use Rattle.std.specs.Prelude.{ℕ}

abbrev pub most_rows : ℕ
most_rows = 256

abbrev pub most_bytes : ℕ
most_bytes = 65535

abbrev pub most_ops : ℕ
most_ops = 1048576
