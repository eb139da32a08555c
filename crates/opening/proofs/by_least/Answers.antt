use Rattle.std.proofs.Common.{refl}
use Rattle.opening.specs.Marks.{number-start, number-none, number-next, number_end}
use Rattle.opening.proofs.by_least.Goals as goal
use Rattle.opening.proofs.by_least.Goals.{then-a-ne0, else-a-ne0}

pub loop-c-init : goal.loop-c-init
loop-c-init c = (refl, number-start _ c.requires.0 c.requires.1 c.clear.ensures)

pub loop-c-preserved : goal.loop-c-preserved
loop-c-preserved c =
    let i = c.loop-c.invariant in
    let t = c.loop-c-test.true in
    elim c.if-a-ne0.branch [
      | then-a-ne0 w ↦ rw (w.labels-is, w.least-is) (i.0, number-next i.1 t w.if-a-ne0.true w.first_seen.ensures)
      | else-a-ne0 w ↦ rw (w.labels-is, w.least-is) (i.0, number-none i.1 t w.if-a-ne0.false)
    ]

pub returns-clause-numbered : goal.returns-clause-numbered
returns-clause-numbered c = number_end c.loop-c.invariant.1 c.loop-c-test.false c.requires.2
