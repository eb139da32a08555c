use Rattle.choice.specs.Sizes.{grow_first, grow_next, grow_stay}
use Rattle.choice.proofs.biggest.Goals as goal
use Rattle.choice.proofs.biggest.Goals.{then-b-eq0, then-b-eq0-via-then-b-eq0, then-b-eq0-via-else-b-eq0+then-sizes-b, else-b-eq0+else-sizes-b}

pub loop-c-preserved : goal.loop-c-preserved
loop-c-preserved c =
    elim c.if-b-eq0.branch [
      | then-b-eq0 w ↦ rw w.b-is (elim w.then-b-eq0.branch [
        | then-b-eq0-via-then-b-eq0 w' ↦ grow_first c.sizes_of.ensures c.loop-c.invariant c.loop-c-test.true c.requires.n_nonzero.1 w'.if-b-eq0.true
        | then-b-eq0-via-else-b-eq0+then-sizes-b w' ↦ grow_next c.sizes_of.ensures c.loop-c.invariant c.loop-c-test.true c.requires.n_nonzero.1 w'.if-sizes-b.true
      ])
      | else-b-eq0+else-sizes-b w ↦ rw w.b-is (grow_stay c.sizes_of.ensures c.loop-c.invariant c.loop-c-test.true c.requires.n_nonzero.1 w.if-b-eq0.false w.if-sizes-b.false)
    ]
