-- `rest::gather_one` meets its contract: the entry is a one, or it is not. Assumes nothing.
use Rattle.rest.specs.Gather.{one-noted, one_left}
use Rattle.rest.proofs.gather_one.Goals as goal

pub returns-then-has-clause-recorded : goal.returns-then-has-clause-recorded
returns-then-has-clause-recorded c = one-noted c.requires c.has.ensures c.if-has.true c.record.ensures.noted

pub returns-else-has-clause-recorded : goal.returns-else-has-clause-recorded
returns-else-has-clause-recorded c = one_left c.requires c.has.ensures c.if-has.false
