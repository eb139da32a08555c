use Rattle.std.proofs.Common.{◌≡◌}
use Rattle.grid.specs.Grid.{bit}
use Rattle.singles.specs.Figures.{Leaving}
use Rattle.singles.proofs.Singles.lose_cols.Given as goal

abbrev pub invariant-loop-q : goal.invariant-loop-q
invariant-loop-q l =
    record {
      same_room : l.self.room.ghost_name ≡ l.initial.self.room.ghost_name;
      leaving : Leaving (bit l.g.l l.g.bits.now) l.qs l.ys l.initial.ones l.initial.self.room.now l.initial.self.used l.q-index l.ones l.self.room.now l.self.used;
    }
