use Rattle.std.proofs.Common.{◌≡◌}
use Rattle.grid.specs.Grid.{bit}
use Rattle.labels.specs.Marking.{Joining, is_noted}
use Rattle.labels.proofs.Labels.note_col.Given as goal

abbrev pub invariant-loop-y : goal.invariant-loop-y
invariant-loop-y l =
    (l.self.of.ghost_name ≡ l.initial.self.of.ghost_name) × Joining (bit l.g.l l.g.bits.now) l.v (is_noted (bit l.g.l l.g.bits.now) l.fig l.c l.cs) l.ys l.initial.self.of.now l.initial.self.next l.y-index l.self.of.now l.self.next
