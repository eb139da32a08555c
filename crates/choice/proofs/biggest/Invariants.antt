use Rattle.choice.specs.Sizes.{Growing}
use Rattle.figures.specs.Told.{told}
use Rattle.choice.proofs.biggest.Given as goal

abbrev pub invariant-loop-c : goal.invariant-loop-c
invariant-loop-c l = Growing (told l.labels) l.v l.n l.b l.c
