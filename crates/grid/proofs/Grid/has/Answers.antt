use Rattle.loops.specs.Entry.{entry_within}
use Rattle.grid.specs.Grid.{bit}
use Rattle.grid.proofs.Grid.has.Goals as goal

pub returns : goal.returns
unfolding bit
returns c = let h = c.requires.1 in rw entry_within
