-- `shown::Page::put_all` meets its contract: what is left to put makes the same text. Assumes nothing.
use mathlib.Core.Path.{◌≡◌}
use lib.ListN.{drop}
use Rattle.loops.specs.Room.{puts}
use Rattle.shown.specs.Put.{byte, written}
use Rattle.shown.proofs.Page.put_all.Given as goal

abbrev pub invariant-loop-b : goal.invariant-loop-b
invariant-loop-b l = (l.self.room.ghost_name ≡ l.initial.self.room.ghost_name) × (puts byte (written l.initial.self) l.s ≡ puts byte (written l.self) (drop l.b-index l.s))
