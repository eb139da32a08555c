use Rattle.labels.specs.Facts.{Part}
use Rattle.labels.proofs.Labels.merge.Given as goal

abbrev pub invariant-loop-x : goal.invariant-loop-x
invariant-loop-x l = Part l.fn.self.of.now l.fn.self.next l.p l.q l.x-items l.x-index
