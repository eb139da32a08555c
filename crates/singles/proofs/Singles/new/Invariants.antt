use Rattle.std.proofs.Common.{◌≡◌, get_or}
use lib.Dec.{eqb}
use Rattle.singles.specs.Facts.{Picking}
use Rattle.singles.proofs.Singles.new.Given as goal

abbrev pub invariant-loop-y : goal.invariant-loop-y
invariant-loop-y l =
    record {
      same_room : l.s.room.ghost_name ≡ l.initial.s.room.ghost_name;
      picking : Picking (λ x. eqb (get_or l.ones x 0) 1) l.e l.initial.s.room.now l.s.room.now l.s.used l.y-index;
    }
