-- `shown::Page::put_words` meets its contract: what is left to put makes the same text. Assumes nothing.
use mathlib.Core.Path.{◌≡◌}
use lib.ListN.{drop}
use Rattle.loops.specs.Room.{puts}
use Rattle.oplist.specs.Listed.{ops_of}
use Rattle.shown.specs.Text.{ops_text}
use Rattle.shown.specs.Put.{byte, written}
use Rattle.shown.proofs.Page.put_words.Given as goal

abbrev pub invariant-loop-w : goal.invariant-loop-w
invariant-loop-w l = (l.self.room.ghost_name ≡ l.initial.self.room.ghost_name) × (puts byte (written l.initial.self) (ops_text (ops_of l.list)) ≡ puts byte (written l.self) (ops_text (ops_of (drop l.w-index l.list))))
