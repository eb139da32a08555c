-- `columns::first_one` meets its contract. Assumes nothing.
use Rattle.std.proofs.Common.{rules}
use Rattle.std.proofs.lemmas.Iterator.{YieldsList-from_slice}
use Rattle.std.proofs.lemmas.Iterator.Adapters.{serves_from_places}
use Rattle.grid.specs.Grid.{under_item}
use Rattle.columns.proofs.first_one.Goals as goal

pub position-requires-clause-callable : goal.position-requires-clause-callable
position-requires-clause-callable c =
    serves_from_places (YieldsList-from_slice c.args.v.now cc) (λ x q r. search rules) (λ x k h e. let u = under_item c.requires.under k h e in search rules)
