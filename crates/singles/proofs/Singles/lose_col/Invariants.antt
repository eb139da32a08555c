use Rattle.std.proofs.Common.{◌≡◌}
use Rattle.grid.specs.Grid.{bit}
use Rattle.singles.specs.Figures.{Going, lose_one}
use Rattle.singles.proofs.Singles.lose_col.Given as goal

abbrev pub invariant-loop-y : goal.invariant-loop-y
invariant-loop-y l =
    record {
      same_room : l.self.room.ghost_name ≡ l.initial.self.room.ghost_name;
      going : Going (λ y. bit l.g.l l.g.bits.now y l.q) lose_one l.ys l.initial.ones l.initial.self.room.now l.initial.self.used l.y-index l.ones l.self.room.now l.self.used;
    }
