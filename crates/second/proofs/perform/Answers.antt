-- `second::perform` meets its contract. Assumes nothing.
use Rattle.second.specs.Clear.{performed_one}
use Rattle.second.proofs.perform.Goals as goal

pub returns-clause-performed : goal.returns-clause-performed
returns-clause-performed c = performed_one c.apply.ensures c.record.ensures.noted.is
