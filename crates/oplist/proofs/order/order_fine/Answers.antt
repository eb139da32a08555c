-- `order::order_fine` meets its contract: there is no order, or it is checked. Assumes nothing.
use Rattle.std.proofs.Common.{rules}
use borrow.Author.Tests.{tests}
use Rattle.oplist.proofs.Chains.{order_made}
use Rattle.oplist.proofs.order.order_fine.Goals as goal

pub returns : goal.returns
returns g c = order_made g.met.T.Entry.rows_each c.args.m c.args.l c.args.order (search (rules, tests))
