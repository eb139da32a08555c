-- What a run is lent, and what it leaves.
--   Roomed           order and vector hold a place for each column, and no working slice is shorter than its need
--   Cut              the same, with the working slices just as long as their needs
--   Worked           what a run leaves with its working slices cleared
--   worked_one       two outcomes are equal: answer, list, order, vector and working slices
-- Assumes nothing.
use Rattle.std.specs.Prelude.{◌≡◌, List, ℕ, ◌+◌, ◌*◌, ◌≤◌, length, take}
use Rattle.std.proofs.Common.{sym, ◌∙◌}
use Rattle.phases.specs.Run.{Answer as Told}
use Rattle.answers.specs.Answers.{Answer}
use Rattle.grid.specs.declared.shapes.Shape.{Shape}
use Rattle.call.specs.Call.{Working, wiped}
use Rattle.ending.specs.Ran.{Ran, ran_one}

pub record Roomed (z : Shape) (order vector : List ℕ) (w : Working) : Type 0 where
  pub order-room : z.l ≤ length order
  pub vector_room : z.l ≤ length vector
  pub work_room : z.m * z.l ≤ length w.work
  pub scratch_room : z.l ≤ length w.scratch
  pub columns_room : z.l ≤ length w.columns
  pub rows-room : z.m ≤ length w.rows
  pub ones-room : z.m ≤ length w.ones
  pub degrees_room : z.m ≤ length w.degrees
  pub singles_room : z.m ≤ length w.singles
  pub labels_room : z.l ≤ length w.labels
  pub sizes-room : 2 * z.l + 2 ≤ length w.sizes

pub record Cut (z : Shape) (order vector : List ℕ) (w : Working) : Type 0 where
  pub order-room : z.l ≤ length order
  pub vector_room : z.l ≤ length vector
  pub work_size : length w.work ≡ z.m * z.l
  pub scratch_size : length w.scratch ≡ z.l
  pub columns_size : length w.columns ≡ z.l
  pub rows-size : length w.rows ≡ z.m
  pub ones-size : length w.ones ≡ z.m
  pub degrees_size : length w.degrees ≡ z.m
  pub singles_size : length w.singles ≡ z.m
  pub labels_size : length w.labels ≡ z.l
  pub sizes-size : length w.sizes ≡ 2 * z.l + 2

pub record Worked (a : Told) (r : Answer) (list order₀ vector₀ order vector : List ℕ) (w₀ w : Working) : Type 0 where
  pub ran : Ran a r list order₀ vector₀ order vector
  pub cleared : w ≡ wiped w₀

pub worked_one : {a : Told} {r r' : Answer} {list list' order₀ vector₀ order order' vector vector' : List ℕ} {w₀ w w' : Working} → Worked a r list order₀ vector₀ order vector w₀ w
    → Worked a r' list' order₀ vector₀ order' vector' w₀ w' → (r ≡ r') × (take (length a.list) list ≡ take (length a.list) list') × (order ≡ order') × (vector ≡ vector') × (w ≡ w')
worked_one x y = let e = ran_one x.ran y.ran in (e.0, e.1, e.2, e.3, x.cleared ∙ sym y.cleared)
