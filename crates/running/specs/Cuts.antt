-- Working slices that are cut to their needs, and slices that are as long as they were.
--   cut n xs         the first n entries of xs, as the checker has them
--   cut-is           slices with room for their needs, cut, are as long as these
--   wiped_long       cleared, slices that are as long hold the same
-- Assumes nothing.
use Rattle.std.specs.Prelude.{◌≡◌, List, [], ℕ, ◌+◌, ◌-◌, ◌*◌, ◌≤◌, length, take, drop}
use Rattle.std.proofs.Common.{ap, ◌∙◌, arith, length-take-le}
use Rattle.grid.specs.declared.shapes.Shape.{Shape}
use Rattle.call.specs.declared.Workspace.{Workspace}
use Rattle.call.specs.Over.{over_same}
use Rattle.call.specs.Call.{Working, working, wiped}
use Rattle.call.specs.Space.{working_of, Long}
use Rattle.running.specs.Lent.{Roomed, Cut}

-- the first n entries, as the checker has them
abbrev pub cut : ℕ → List ℕ → List ℕ
cut n xs = take (n - 0) (drop 0 xs)

cut-length : (n : ℕ) (xs : List ℕ) → n ≤ length xs → length (cut n xs) ≡ n
cut-length n xs h = let e : n - 0 ≡ n = omega arith in ap (λ (k : ℕ). length (take k xs)) e ∙ length-take-le n xs h

pub cut-is : (z : Shape) (order vector : List ℕ) (w : Working) → Roomed z order vector w
    → Cut z order vector (working (cut (z.m * z.l) w.work) (cut z.l w.scratch) (cut z.l w.columns) (cut z.m w.rows) (cut z.m w.ones)
    (cut z.m w.degrees) (cut z.m w.singles) (cut z.l w.labels) (cut (2 * z.l + 2) w.sizes))
cut-is z order vector w r =
    record {
      order-room = r.order-room;
      vector_room = r.vector_room;
      work_size = cut-length _ w.work r.work_room;
      scratch_size = cut-length _ w.scratch r.scratch_room;
      columns_size = cut-length _ w.columns r.columns_room;
      rows-size = cut-length _ w.rows r.rows-room;
      ones-size = cut-length _ w.ones r.ones-room;
      degrees_size = cut-length _ w.degrees r.degrees_room;
      singles_size = cut-length _ w.singles r.singles_room;
      labels_size = cut-length _ w.labels r.labels_room;
      sizes-size = cut-length _ w.sizes r.sizes-room;
    }

pub wiped_long : {v w : Workspace} → Long v w → wiped (working_of w) ≡ wiped (working_of v)
wiped_long {v} {w} h =
    cc (
      over_same [] w.work.now v.work.now h.work_long,
      over_same [] w.scratch.now v.scratch.now h.scratch_long,
      over_same [] w.columns.now v.columns.now h.columns_long,
      over_same [] w.rows.now v.rows.now h.rows-long,
      over_same [] w.ones.now v.ones.now h.ones-long,
      over_same [] w.degrees.now v.degrees.now h.degrees_long,
      over_same [] w.singles.now v.singles.now h.singles_long,
      over_same [] w.labels.now v.labels.now h.labels_long,
      over_same [] w.sizes.now v.sizes.now h.sizes-long,
    )
