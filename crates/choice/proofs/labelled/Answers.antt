use Rattle.std.proofs.iter.Serving.{serving}
use Rattle.std.proofs.lemmas.Grind.{get_or_default_zero}
use Rattle.choice.proofs.labelled.Goals as goal

pub find-requires-clause-callable : goal.find-requires-clause-callable
find-requires-clause-callable c = let u = c.requires.at in grind (serving, get_or_default_zero)
