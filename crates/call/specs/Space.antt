-- The working slices of a call, as a struct lends them.
--   working_of   what they hold
--   Kept         each field still lends the slice that it did
--   Long         each slice is as long as it was
-- Assumes nothing.
use Rattle.std.specs.Prelude.{◌≡◌, length}
use Rattle.call.specs.declared.Workspace.{Workspace}
use Rattle.call.specs.Call.{Working, working}

abbrev pub working_of : Workspace → Working
working_of w =
    working w.work.now w.scratch.now w.columns.now w.rows.now w.ones.now w.degrees.now w.singles.now w.labels.now w.sizes.now

abbrev pub Kept : Workspace → Workspace → Type 0
Kept v w =
    (w.work.ghost_name ≡ v.work.ghost_name) × (w.scratch.ghost_name ≡ v.scratch.ghost_name) × (w.columns.ghost_name ≡ v.columns.ghost_name) × (w.rows.ghost_name ≡ v.rows.ghost_name) × (w.ones.ghost_name ≡ v.ones.ghost_name) × (w.degrees.ghost_name ≡ v.degrees.ghost_name) × (w.singles.ghost_name ≡ v.singles.ghost_name) × (w.labels.ghost_name ≡ v.labels.ghost_name) × (w.sizes.ghost_name ≡ v.sizes.ghost_name)

pub record Long (v w : Workspace) : Type 0 where
  pub work_long : length w.work.now ≡ length v.work.now
  pub scratch_long : length w.scratch.now ≡ length v.scratch.now
  pub columns_long : length w.columns.now ≡ length v.columns.now
  pub rows-long : length w.rows.now ≡ length v.rows.now
  pub ones-long : length w.ones.now ≡ length v.ones.now
  pub degrees_long : length w.degrees.now ≡ length v.degrees.now
  pub singles_long : length w.singles.now ≡ length v.singles.now
  pub labels_long : length w.labels.now ≡ length v.labels.now
  pub sizes-long : length w.sizes.now ≡ length v.sizes.now
