use Rattle.std.proofs.Common.{length}
use Rattle.choice.specs.Sizes.{Sizing}
use Rattle.figures.specs.Told.{told}
use Rattle.choice.proofs.sizes_of.Given as goal

abbrev pub invariant-loop-q : goal.invariant-loop-q
invariant-loop-q l = Sizing (told l.labels) l.v (length l.initial.sizes) l.q-index l.sizes
