use Rattle.std.proofs.Common.{arith}
use Rattle.labels.specs.Facts.{part-next}
use Rattle.labels.proofs.Labels.merge.Goals as goal

pub loop-x-preserved : goal.loop-x-preserved
loop-x-preserved c =
    let l = c.loop-x in
    part-next c.args.self.now.of.now c.args.self.now.next c.args.p c.args.q l.x-items l.x-index _ _ l.invariant (omega arith) c.requires.3 c.requires.4 c.join-j.ensures c.renamed.ensures
