-- `order::stands` meets its contract: the chain looks at each entry. Assumes nothing.
use Rattle.std.proofs.Common.{rules, ◌∙◌, eqb}
use borrow.Author.Tests.{tests}
use Rattle.std.proofs.lemmas.Iterator.{YieldsList-from_slice}
use Rattle.std.proofs.lemmas.Iterator.Search.{any_from_yields_List}
use Rattle.oplist.proofs.Chains.{has_rows}
use Rattle.oplist.proofs.order.stands.Goals as goal

pub returns : goal.returns
returns g c =
    any_from_yields_List (λ y. eqb (g.T.Entry.row y) c.args.x) _ _ _ c.any.ensures.ran (YieldsList-from_slice c.args.order.now cc) (λ x b q k. search (rules, tests))
    ∙ has_rows g.met.T.Entry.rows_each c.args.x c.args.order.now
