-- `figures::least_positive` meets its contract. Assumes nothing.
use Rattle.std.specs.Prelude.{ℕ, ltb}
use Rattle.std.proofs.Common.{Option, rules, tests, ap, sym, ◌∙◌}
use Rattle.std.specs.Option.{unwrap_or}
use Rattle.std.proofs.lemmas.Iterator.{YieldsList-from_slice, YieldsList-from_map}
use Rattle.std.proofs.lemmas.Iterator.Adapters.{serves_from_places, option_map_id}
use Rattle.std.proofs.lemmas.Iterator.Consumers.{YieldsList-at, YieldsList-from_filter, min_from_yields_List}
use Rattle.grid.specs.Grid.{under_item}
use Rattle.figures.specs.Told.{told}
use Rattle.figures.specs.Least.{least-positive}
use Rattle.figures.proofs.least_positive.Goals as goal

pub min-requires-clause-can : goal.min-requires-clause-can
min-requires-clause-can c = (
  (tt, serves_from_places (YieldsList-from_slice c.args.e.now cc) (λ x q r. search rules) (λ x k h e. let u = under_item c.requires k h e in search rules)),
  tt,
  record { at = λ xs t q x u y r s. search rules },
)

pub returns : goal.returns
returns c =
    c.unwrap_or.ensures
    ∙ ap (λ (o : Option ℕ). unwrap_or o 0)
    (sym (option_map_id c.min.result)
    ∙ min_from_yields_List c.filter.result _ c.min.ensures.ran
    (YieldsList-from_filter _ (λ n. ltb 0 n)
    (YieldsList-at c.filter.ensures.source (YieldsList-from_map _ (told c.args.ones.now) (YieldsList-from_slice c.args.e.now cc) c.map.ensures.closure (λ x r q k. search rules)))
    c.filter.ensures.closure (λ x r q k. search (rules, tests))))
    ∙ least-positive (told c.args.ones.now) c.args.e.now
