use Rattle.opening.specs.Opened.{lent_columns}
use Rattle.opening.proofs.figures.Goals as goal

pub counts-requires-clause-under : goal.counts-requires-clause-under
counts-requires-clause-under c = lent_columns c.requires
