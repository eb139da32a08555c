use Rattle.std.proofs.iter.Serving.{serving}
use Rattle.std.proofs.lemmas.Grind.{get_or_default_zero}
use Rattle.labels.proofs.touches.Goals as goal

pub any-requires-clause-callable : goal.any-requires-clause-callable
any-requires-clause-callable c = let u = c.requires.1.at in let r = c.requires.0 in grind (serving, get_or_default_zero)
