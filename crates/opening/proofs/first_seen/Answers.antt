use Rattle.opening.specs.Marks.{seen_first, seen_old}
use Rattle.opening.proofs.first_seen.Goals as goal
use Rattle.opening.proofs.first_seen.Goals.{then-least-a-eq0, else-least-a-eq0}

pub returns : goal.returns
returns c =
    elim c.if-least-a-eq0.branch [
      | then-least-a-eq0 w ↦ rw w.least-is (seen_first _ _ _ c.requires.0 w.if-least-a-eq0.true)
      | else-least-a-eq0 w ↦ rw w.least-is (seen_old _ _ _ w.if-least-a-eq0.false)
    ]
