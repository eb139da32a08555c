use Rattle.singles.specs.Figures.{lose-room, lose-done}
use Rattle.singles.proofs.Singles.lose_one.Goals as goal

pub lose-requires : goal.lose-requires
lose-requires c = (c.requires.0.used, lose-room c.requires.0 c.requires.1 c.take_one-k.ensures)

pub returns-clause-done : goal.returns-clause-done
returns-clause-done c = lose-done c.requires.0 c.requires.1 c.take_one-k.ensures c.lose.ensures.kept
