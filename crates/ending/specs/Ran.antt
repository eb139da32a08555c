-- What phase two and what follows it need and leave.
--   as_shape          a shape, as the definition has it
--   Posed            a system that passed the tests
--   Placed           the slices of the last phases: columns and rows by place, room for marks, a cleared order
--   Going            the slices of phase two and of what follows it, with order and vector cleared, and a list that has not passed its room
--   Ran              what a run leaves: the list at the front of its room, order and vector written over what was there
--   ran_one          two outcomes are equal: answer, list, order and vector
--   ops_in            how many operations an answer reports
-- Assumes nothing.
use Rattle.std.specs.Prelude.{◌≡◌, true, List, map, ℕ, ◌+◌, ◌*◌, ◌≤◌, length, take}
use Rattle.std.proofs.Common.{sym, ◌∙◌}
use Rattle.bounds.specs.Bounds.{most_rows}
use Rattle.oplist.specs.Word.{packed}
use Rattle.tally.specs.declared.Tally.{Tally}
use Rattle.phases.specs.System.{Shape as Defined}
use Rattle.phases.specs.Run.{Answer as Told}
use Rattle.answers.specs.Answers.{Answer}
use Rattle.answers.specs.Answers.{report_in}
use Rattle.grid.specs.declared.shapes.Shape.{Shape}
use Rattle.call.specs.Over.{over, blank}
use Rattle.call.specs.Call.{entered, answer_of}

abbrev pub as_shape : Shape → Defined
as_shape z = record { m = z.m; n = z.l; s = z.s; h = z.h; w = z.w }

pub record Posed (z : Shape) (bits octets : List ℕ) : Type 0 where
  pub some : 1 ≤ z.l
  pub narrow : z.l ≤ z.m
  pub few : z.m ≤ most_rows
  pub rows_fit : z.s + z.h + z.h ≤ z.m
  pub cols_fit : z.w ≤ z.l
  pub bits_size : length bits ≡ z.m * z.l
  pub octets_size : length octets ≡ z.h * z.l
  pub entries : entered z.l z.s z.h bits ≡ true

pub record Placed (z : Shape) (columns rows marks order : List ℕ) : Type 0 where
  pub columns_size : length columns ≡ z.l
  pub rows-size : length rows ≡ z.m
  pub marks_size : length marks ≡ z.m
  pub order-room : z.l ≤ length order
  pub order-blank : order ≡ blank order

pub record Going (z : Shape) (columns rows work scratch marks list order vector : List ℕ) (one : Tally) : Type 0 where
  pub columns_size : length columns ≡ z.l
  pub rows-size : length rows ≡ z.m
  pub work_size : length work ≡ z.m * z.l
  pub scratch_size : length scratch ≡ z.l
  pub marks_size : length marks ≡ z.m
  pub order-room : z.l ≤ length order
  pub vector_room : z.l ≤ length vector
  pub order-blank : order ≡ blank order
  pub vector_blank : vector ≡ blank vector
  pub held : one.used ≤ length list

pub record Ran (a : Told) (r : Answer) (list order₀ vector₀ order vector : List ℕ) : Type 0 where
  pub is : r ≡ answer_of a
  pub listed : take (length a.list) list ≡ map packed a.list
  pub fits : length a.list ≤ length list
  pub ordered : order ≡ over a.order order₀
  pub vectored : vector ≡ over a.vector vector₀

pub ran_one : {a : Told} {r r' : Answer} {list list' order₀ vector₀ order order' vector vector' : List ℕ} → Ran a r list order₀ vector₀ order vector → Ran a r' list' order₀ vector₀ order' vector'
    → (r ≡ r') × (take (length a.list) list ≡ take (length a.list) list') × (order ≡ order') × (vector ≡ vector')
ran_one x y = (x.is ∙ sym y.is, x.listed ∙ sym y.listed, x.ordered ∙ sym y.ordered, x.vectored ∙ sym y.vectored)

abbrev pub ops_in : Answer → ℕ
ops_in a = (report_in a).operations
