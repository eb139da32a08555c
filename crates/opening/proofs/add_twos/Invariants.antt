use Rattle.std.proofs.Common.{◌≡◌}
use Rattle.grid.specs.Grid.{bit}
use Rattle.labels.specs.Marking.{Joining}
use Rattle.opening.specs.Marks.{is_two}
use Rattle.opening.proofs.add_twos.Given as goal

abbrev pub invariant-loop-y : goal.invariant-loop-y
invariant-loop-y l =
    (l.labels.of.ghost_name ≡ l.initial.labels.of.ghost_name) × Joining (bit l.g.l l.g.bits.now) l.v (is_two l.fig) l.ys l.initial.labels.of.now l.initial.labels.next l.y-index l.labels.of.now l.labels.next
