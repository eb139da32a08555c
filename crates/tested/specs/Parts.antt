-- What the parts of a call need and leave.
--   Settling         n operations at the list's front are such that the slab takes them
--   Settled          they are applied to the slab, and the room after them is zeros
--   Slabbed          m rows of t bytes, and a list room within its bound
-- Assumes nothing.
use Rattle.std.specs.Prelude.{◌≡◌, true, List, ℕ, ◌*◌, ◌≤◌, length, take}
use Rattle.bounds.specs.Bounds.{most_rows, most_bytes, most_ops}
use Rattle.oplist.specs.Check.{list_fine}
use Rattle.oplist.specs.Listed.{ops_of}
use Rattle.algebra.specs.Flat.{acts}
use Rattle.grid.specs.declared.shapes.Shape.{Shape}
use Rattle.call.specs.Over.{keep}

pub record Settling (m l t n : ℕ) (list slab : List ℕ) : Type 0 where
  pub some : 1 ≤ l
  pub narrow : l ≤ m
  pub few : m ≤ most_rows
  pub some_bytes : 1 ≤ t
  pub few_bytes : t ≤ most_bytes
  pub size : length slab ≡ m * t
  pub room : length list ≤ most_ops
  pub within : n ≤ length list
  pub fine : list_fine m (take n list) ≡ true

pub record Settled (t n : ℕ) (list₀ slab₀ list slab : List ℕ) : Type 0 where
  pub applied : slab ≡ acts t (ops_of (take n list₀)) slab₀
  pub kept : list ≡ keep n list₀

pub record Slabbed (z : Shape) (t : ℕ) (list slab : List ℕ) : Type 0 where
  pub some_bytes : 1 ≤ t
  pub few_bytes : t ≤ most_bytes
  pub size : length slab ≡ z.m * t
  pub room : length list ≤ most_ops
