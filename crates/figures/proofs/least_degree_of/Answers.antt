-- `figures::least_degree_of` meets its contract. Assumes nothing.
use lib.Dec.{eqb}
use Rattle.std.proofs.Common.{rules, tests, ap, ◌∙◌}
use Rattle.std.proofs.lemmas.Iterator.{YieldsList-from_slice}
use Rattle.std.proofs.lemmas.Iterator.Adapters.{serves_from_places}
use Rattle.std.proofs.lemmas.Iterator.Consumers.{YieldsList-from_copied, YieldsList-from_filter}
use Rattle.rule.specs.Lists.{head_least}
use Rattle.grid.specs.Grid.{under_item, passing}
use Rattle.figures.specs.Told.{told}
use Rattle.figures.specs.Picked.{asks_from_places, least_kept, passing_under}
use Rattle.figures.proofs.least_degree_of.Goals as goal

pub reduce-requires-clause-can : goal.reduce-requires-clause-can
reduce-requires-clause-can c = (
  tt,
  tt,
  serves_from_places (YieldsList-from_copied (YieldsList-from_slice c.args.e.now cc)) (λ x q r. search rules)
      (λ x k h e. let u = under_item c.requires.under k h e in search rules),
)

pub reduce-requires-clause-callable : goal.reduce-requires-clause-callable
reduce-requires-clause-callable c =
    asks_from_places _ _ (told c.args.deg.now) (λ b x r q k. search rules)
    (YieldsList-from_filter _ (λ y. eqb (told c.args.ones.now y) c.args.r) (YieldsList-from_copied (YieldsList-from_slice c.args.e.now cc)) c.filter.ensures.closure
    (λ x b q k. search (rules, tests)))
    (passing_under (λ y. eqb (told c.args.ones.now y) c.args.r) c.args.e.now c.requires.under_2) (λ b x h k. search rules)

pub returns : goal.returns
returns c =
    least_kept _ _ (told c.args.deg.now) (λ b x r q k. search rules)
    (YieldsList-from_filter _ (λ y. eqb (told c.args.ones.now y) c.args.r) (YieldsList-from_copied (YieldsList-from_slice c.args.e.now cc)) c.filter.ensures.closure
    (λ x b q k. search (rules, tests)))
    c.reduce.result c.reduce.ensures.ran
    ∙ ap (head_least (told c.args.deg.now)) (passing (λ y. eqb (told c.args.ones.now y) c.args.r) c.args.e.now)
