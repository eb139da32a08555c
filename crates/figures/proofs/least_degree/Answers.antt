-- `figures::least_degree` meets its contract. Assumes nothing.
use Rattle.std.proofs.Common.{rules}
use Rattle.std.proofs.lemmas.Iterator.{YieldsList-from_slice}
use Rattle.std.proofs.lemmas.Iterator.Consumers.{YieldsList-from_copied}
use Rattle.figures.specs.Told.{told}
use Rattle.figures.specs.Picked.{asks_from_places, least_kept}
use Rattle.figures.proofs.least_degree.Goals as goal

pub reduce-requires-clause-callable : goal.reduce-requires-clause-callable
reduce-requires-clause-callable c =
    asks_from_places _ _ (told c.args.deg.now) (λ b x r q k. search rules) (YieldsList-from_copied (YieldsList-from_slice c.args.s.now cc)) c.requires
    (λ b x h k. search rules)

pub returns : goal.returns
returns c =
    least_kept _ _ (told c.args.deg.now) (λ b x r q k. search rules) (YieldsList-from_copied (YieldsList-from_slice c.args.s.now cc))
    c.reduce.result c.reduce.ensures.ran
