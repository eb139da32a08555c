use Rattle.std.proofs.Common.{◌≡◌}
use Rattle.grid.specs.Grid.{bit}
use Rattle.labels.specs.Marking.{Noting}
use Rattle.labels.proofs.Labels.note_cols.Given as goal

abbrev pub invariant-loop-k : goal.invariant-loop-k
invariant-loop-k l =
    (l.self.of.ghost_name ≡ l.initial.self.of.ghost_name) × Noting (bit l.g.l l.g.bits.now) l.v l.fig l.cs l.ys l.initial.self.of.now l.initial.self.next l.k l.self.of.now l.self.next
