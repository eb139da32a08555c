-- `second::backward` meets its contract. The invariant: what is left to be noted from here makes the whole. Assumes nothing.
use Rattle.std.proofs.Common.{◌≡◌}
use Prim.Native.Nat.{◌-◌}
use lib.ListN.{take, drop}
use Rattle.tally.specs.Book.{book_of, Fair}
use Rattle.second.specs.Store.{matrix}
use Rattle.second.specs.Backward.{Backing}
use Rattle.second.proofs.backward.Given as goal

abbrev pub invariant-loop-q : goal.invariant-loop-q
invariant-loop-q l = record {
  same_room : l.journal.room.ghost_name ≡ l.initial.journal.room.ghost_name;
  fair : Fair (book_of l.journal);
  backing : Backing (matrix l.area l.work) (take (l.area.l - l.area.i) (drop l.area.i l.d)) (l.area.l - l.area.i) (l.q - l.area.i) (book_of l.initial.journal) (book_of l.journal);
}
