use Rattle.std.proofs.Common.{◌≡◌, length}
use Rattle.labels.specs.Labs.{labs}
use Rattle.opening.specs.Marks.{Numbering}
use Rattle.opening.proofs.by_least.Given as goal

abbrev pub invariant-loop-c : goal.invariant-loop-c
invariant-loop-c l =
    (l.labels.of.ghost_name ≡ l.initial.labels.of.ghost_name) × Numbering (labs l.initial.labels.of.now) l.w (length l.initial.labels.of.now) (length l.initial.least) l.c l.labels.of.now l.least
