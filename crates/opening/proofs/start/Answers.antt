use Rattle.opening.specs.Opened.{opens_lent, opened}
use Rattle.opening.proofs.start.Goals as goal

pub figures-requires : goal.figures-requires
figures-requires c = opens_lent _ c.requires c.numbers.ensures c.first_rows.ensures

pub returns-clause-opened : goal.returns-clause-opened
returns-clause-opened c = opened _ c.requires c.numbers.ensures c.first_rows.ensures c.figures.ensures.figured
