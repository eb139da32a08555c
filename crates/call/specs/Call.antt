-- What a call answers and leaves, for every input.
--   Octets, octets_in, rows_in   the octet rows of a call, or none; their entries; how many they are: H of the table, or 0
--   rows_of             the octet rows that a caller lends, or that it has none
--   Working, Buffers, Outcome   the working slices; all lent buffers; an answer beside them
--   working, buffers, outcome   one of each, made of its parts
--   wiped, wiped_are   working slices that were cleared
--   shaped, entered, roomy   the tests for 2, 3 and 4
--   bitwise            every entry is 0 or 1: what the test for 3 asks of the rows before the octet rows, and of those after them
--   roomy_in, roomy_for   the test for 4, of the lengths of what is lent, and of lent buffers
--   report_of, answer_of, left   what a run's answer reports, its answer, and the buffers after it
--   counts_at           the additions and multiplications of one phase, by its place
--   named              the answer with a number: 0 Ok with its report, 5 ListFull, 6 NoPivot, else Singular
--   ended              the answer of a run, beside the buffers after it
--   shape_of            the shape of m rows, of which h are octet rows, by the sizes of the table
--   told               what the defined run, plain, answers in a list room of so many operations
--   checked            a call whose count is in the table: the lowest of 2, 3 and 4 that applies, and nothing changes; else the run
--   counted            a call by what the table says of its count: it is checked, or the answer is 1 and nothing changes
--   call_of             a call with K source symbols, M rows of T bytes, the binary matrix, the octet rows and the lent buffers
-- Assumes nothing.
use Rattle.std.specs.Prelude.{◌≡◌, Bool, true, false, cond, ◌&&◌, List, [], ◌∷◌, map, ℕ, ◌+◌, ◌*◌, leb, eqb, length, get_or, take, drop, Option, Some, None, Ok, Err}
use Rattle.bounds.specs.Bounds.{most_rows, most_bytes, most_ops}
use Rattle.params.specs.Params.{params_of, Parameters}
use Rattle.params.specs.declared.Sizes.{Sizes}
use Rattle.oplist.specs.Word.{packed}
use Rattle.algebra.specs.Flat.{acts}
use Rattle.phases.specs.System.{Shape, combined}
use Rattle.phases.specs.Run.{Answer as Told, answer, defined}
use Rattle.answers.specs.declared.Counts.{Counts}
use Rattle.answers.specs.declared.Report.{Report}
use Rattle.answers.specs.declared.Rooms.{Rooms}
use Rattle.answers.specs.Answers.{Answer}
use Rattle.answers.specs.declared.Refusal.TheVariants.{BadCount, BadShape, BadEntry, NoRoom, ListFull, NoPivot, Singular}
use Rattle.answers.specs.Rooms.{rooms_of}
use Rattle.call.specs.declared.Lengths.{Lengths}
use Rattle.call.specs.Over.{over, blank}

pub data Octets : Type 0 where
  given : List ℕ → Octets
  none : Octets

abbrev pub octets_in : Octets → List ℕ
octets_in (given xs) = xs
octets_in none = []

-- the octet rows that a caller lends, or that it has none
unfoldable pub rows_of : Option (List ℕ) → Octets
rows_of (Some xs) = given xs
rows_of None = none

-- H of the table where octet rows are given, else 0
abbrev pub rows_in : Octets → Sizes → ℕ
rows_in (given xs) g = g.h
rows_in none g = 0

-- the working slices
pub record Working : Type 0 where
  pub work : List ℕ
  pub scratch : List ℕ
  pub columns : List ℕ
  pub rows : List ℕ
  pub ones : List ℕ
  pub degrees : List ℕ
  pub singles : List ℕ
  pub labels : List ℕ
  pub sizes : List ℕ

abbrev pub working : (work scratch columns rows ones degrees singles labels sizes : List ℕ) → Working
working work scratch columns rows ones degrees singles labels sizes =
    record {
      work = work;
      scratch = scratch;
      columns = columns;
      rows = rows;
      ones = ones;
      degrees = degrees;
      singles = singles;
      labels = labels;
      sizes = sizes;
    }

abbrev pub wiped : Working → Working
wiped w =
    working (blank w.work) (blank w.scratch) (blank w.columns) (blank w.rows) (blank w.ones) (blank w.degrees) (blank w.singles)
    (blank w.labels) (blank w.sizes)

-- nine slices that were cleared
pub wiped_are : {a' b' c' d' e' f' g' h' i' : List ℕ} (a b c d e f g h i : List ℕ) → a' ≡ blank a → b' ≡ blank b → c' ≡ blank c → d' ≡ blank d → e' ≡ blank e
    → f' ≡ blank f → g' ≡ blank g → h' ≡ blank h → i' ≡ blank i → working a' b' c' d' e' f' g' h' i' ≡ wiped (working a b c d e f g h i)
wiped_are a b c d e f g h i p q r s t u v w x = cc

-- the slab, the list room, the order, the vector, and the working slices
pub record Buffers : Type 0 where
  pub slab : List ℕ
  pub list : List ℕ
  pub order : List ℕ
  pub vector : List ℕ
  pub rooms : Working

abbrev pub buffers : (slab list order vector : List ℕ) → Working → Buffers
buffers slab list order vector w = record { slab = slab; list = list; order = order; vector = vector; rooms = w }

pub record Outcome : Type 0 where
  pub answer : Answer
  pub buffers : Buffers

abbrev pub outcome : Answer → Buffers → Outcome
outcome a b = record { answer = a; buffers = b }

-- M from L to the most rows, T from 1 to the most bytes, a list room within the most operations, and the lengths that follow
unfoldable pub shaped : (l h m t list bits octets slab : ℕ) → Bool
shaped l h m t list bits octets slab =
    leb l m && (leb m most_rows && (leb 1 t && (leb t most_bytes && (leb list most_ops
    && (eqb bits (m * l) && (eqb octets (h * l) && eqb slab (m * t)))))))

-- every entry is 0 or 1
unfoldable pub bitwise : List ℕ → Bool
bitwise [] = true
bitwise (x ∷ xs) = leb x 1 && bitwise xs

-- what the binary matrix holds in the octet rows, s to s + h - 1, is ignored
unfoldable pub entered : (l s h : ℕ) → List ℕ → Bool
entered l s h bits = bitwise (take (s * l) bits) && bitwise (drop ((s + h) * l) bits)

-- order, vector and the working slices hold their needs
unfoldable pub roomy : Rooms → (order vector work scratch columns rows ones degrees singles labels sizes : ℕ) → Bool
roomy r order vector work scratch columns rows ones degrees singles labels sizes =
    leb r.order order && (leb r.vector vector && (leb r.work work && (leb r.scratch scratch && (leb r.columns columns && (leb r.rows rows
    && (leb r.ones ones && (leb r.degrees degrees && (leb r.singles singles && (leb r.labels labels && leb r.sizes sizes)))))))))

-- the same of the lengths of what is lent
abbrev pub roomy_in : Rooms → Lengths → Bool
roomy_in r n = roomy r n.order n.vector n.work n.scratch n.columns n.rows n.ones n.degrees n.singles n.labels n.sizes

abbrev pub roomy_for : (l m : ℕ) → Buffers → Bool
roomy_for l m b =
    let w : Working = b.rooms in
    roomy (rooms_of m l) (length b.order) (length b.vector) (length w.work) (length w.scratch) (length w.columns) (length w.rows)
    (length w.ones) (length w.degrees) (length w.singles) (length w.labels) (length w.sizes)

-- the additions and multiplications of the phase at place k
abbrev pub counts_at : Told → ℕ → Counts
counts_at a k = record { adds = get_or a.additions k 0; muls = get_or a.multiplications k 0 }

abbrev pub report_of : Told → Report
report_of a =
    record { operations = length a.list; one = counts_at a 0; two = counts_at a 1; three = counts_at a 2; four = counts_at a 3; five = counts_at a 4 }

-- 0 Ok, 5 ListFull, 6 NoPivot, 7 Singular
abbrev pub named : ℕ → Report → Answer
named k r = cond (eqb k 0) (Ok r) (cond (eqb k 5) (Err ListFull) (cond (eqb k 6) (Err NoPivot) (Err Singular)))

unfoldable pub answer_of : Told → Answer
answer_of a = named a.number (report_of a)

-- the list applied to the slab; list, order and vector as answered, then zeros; working slices cleared
abbrev pub left : ℕ → Told → Buffers → Buffers
left t a b =
    buffers (acts t a.list b.slab) (over (map packed a.list) b.list) (over a.order b.order) (over a.vector b.vector)
    (wiped b.rooms)

abbrev pub ended : ℕ → Buffers → Told → Outcome
ended t b a = outcome (answer_of a) (left t a b)

-- m rows, of which h are octet rows
abbrev pub shape_of : Sizes → ℕ → ℕ → Shape
shape_of g h m = record { m = m; n = g.l; s = g.s; h = h; w = g.w }

-- the defined run, in the list's room
unfoldable pub told : Shape → List ℕ → List ℕ → ℕ → Told
told z bits octets room = answer room (defined z (combined z bits octets) false)

-- the lowest of 2, 3 and 4 that applies, and nothing changes; else the run
unfoldable pub checked : Sizes → (h m t : ℕ) → List ℕ → List ℕ → Buffers → Outcome
checked g h m t bits octets b =
    cond (shaped g.l h m t (length b.list) (length bits) (length octets) (length b.slab))
    (cond (entered g.l g.s h bits)
    (cond (roomy_for g.l m b)
    (ended t b (told (shape_of g h m) bits octets (length b.list)))
    (outcome (Err NoRoom) b))
    (outcome (Err BadEntry) b))
    (outcome (Err BadShape) b)

abbrev pub counted : Parameters → (m t : ℕ) → List ℕ → Octets → Buffers → Outcome
counted (Ok g) m t bits o b = checked g (rows_in o g) m t bits (octets_in o) b
counted (Err _) m t bits o b = outcome (Err BadCount) b

-- K source symbols, M rows of T bytes, the binary matrix, the octet rows
unfoldable pub call_of : (k m t : ℕ) → List ℕ → Octets → Buffers → Outcome
call_of k m t bits o b = counted (params_of k) m t bits o b
