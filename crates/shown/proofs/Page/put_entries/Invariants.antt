-- `shown::Page::put_entries` meets its contract: what is left to put makes the same text. Assumes nothing.
use mathlib.Core.Path.{◌≡◌}
use lib.ListN.{drop}
use Rattle.loops.specs.Room.{puts}
use Rattle.shown.specs.Text.{entries_text}
use Rattle.shown.specs.Put.{byte, written}
use Rattle.shown.proofs.Page.put_entries.Given as goal

abbrev pub invariant-loop-x : goal.invariant-loop-x
invariant-loop-x l = (l.self.room.ghost_name ≡ l.initial.self.room.ghost_name) × (puts byte (written l.initial.self) (entries_text l.numbers) ≡ puts byte (written l.self) (entries_text (drop l.x-index l.numbers)))
