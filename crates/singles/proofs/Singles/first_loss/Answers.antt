use Rattle.singles.specs.Figures.{first_done}
use Rattle.singles.proofs.Singles.first_loss.Goals as goal

pub returns-clause-done : goal.returns-clause-done
returns-clause-done c = first_done c.requires.0 c.requires.1 c.take_one-k.ensures c.lose_first.ensures.kept
