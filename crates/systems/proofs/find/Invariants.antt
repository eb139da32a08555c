-- `systems::find` meets its contract: what reading gives from here on is what it gave. Assumes nothing.
use Prim.Native.Nat.{◌-◌}
use mathlib.Core.Path.{◌≡◌}
use lib.ListN.{length}
use Rattle.systems.specs.Lined.{Buffers}
use Rattle.systems.specs.Cases.{read_of}
use Rattle.systems.proofs.find.Given as goal

abbrev pub invariant-loop-at : goal.invariant-loop-at
invariant-loop-at l = (b : Buffers) → read_of l.text l.from b ≡ read_of l.text l.at b

abbrev pub decreases-loop-at : goal.decreases-loop-at
decreases-loop-at l = length l.text - l.at
