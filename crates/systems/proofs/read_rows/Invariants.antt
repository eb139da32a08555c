-- `systems::read_rows` meets its contract: the lines that are left do what they did. Assumes nothing.
use Prim.Native.Nat.{◌-◌}
use mathlib.Core.Path.{◌≡◌}
use lib.ListN.{length, drop}
use Rattle.systems.specs.Text.{lines_in}
use Rattle.systems.specs.Lined.{buffers}
use Rattle.systems.specs.Cases.{rows_of}
use Rattle.systems.proofs.read_rows.Given as goal

abbrev pub invariant-loop-at : goal.invariant-loop-at
invariant-loop-at l = (length l.bits ≡ length l.initial.bits) × (length l.octets ≡ length l.initial.octets) × (length l.slab ≡ length l.initial.slab) × (rows_of (lines_in (drop l.initial.at l.text)) l.initial.at l.initial.s (buffers l.initial.bits l.initial.octets l.initial.slab) ≡ rows_of (lines_in (drop l.at l.text)) l.at l.s (buffers l.bits l.octets l.slab))

abbrev pub decreases-loop-at : goal.decreases-loop-at
decreases-loop-at l = length l.text - l.at
