-- `second::forward` meets its contract. Over columns: the state is the definition's after as many turns, for any numbers of the columns. Over rows: the rows
-- passed have a zero in the column. Assumes nothing.
use mathlib.Core.Path.{◌≡◌}
use mathlib.Core.List.{List}
use Prim.Native.Nat.{ℕ, ◌-◌, ◌≤◌}
use lib.ListN.{drop}
use Rattle.rule.specs.Lists.{filter, head}
use Rattle.tally.specs.Book.{book_of}
use Rattle.second.specs.Store.{matrix}
use Rattle.second.specs.Step.{Ready}
use Rattle.second.specs.Forward.{nonzero, Going}
use Rattle.second.proofs.forward.Given as goal

abbrev pub invariant-rows : goal.invariant-rows
invariant-rows l =
    (l.q ≤ l.p)
    × (l.p ≤ l.area.m)
    × (head (filter (nonzero (matrix l.area l.work) (l.q - l.area.i)) (drop l.p l.d)) ≡ head (filter (nonzero (matrix l.area l.work) (l.q - l.area.i)) (drop l.q l.d)))

abbrev pub decreases-rows : goal.decreases-rows
decreases-rows l = l.area.m - l.p

abbrev pub invariant-loop-q : goal.invariant-loop-q
invariant-loop-q l = record {
  same_room : l.journal.room.ghost_name ≡ l.initial.journal.room.ghost_name;
  ready : Ready l.area.m l.area.l l.area.i l.work l.scratch l.d (book_of l.journal);
  going : (cols : List ℕ) → Going l.area.m l.area.l l.area.i cols l.initial.work l.initial.d (book_of l.initial.journal) l.q l.work l.d (book_of l.journal);
}
