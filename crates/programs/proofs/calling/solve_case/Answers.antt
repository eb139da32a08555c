-- What `calling::solve_case` promises. Assumes nothing.
use Rattle.programs.specs.Calls.{solves_is}
use Rattle.programs.proofs.calling.solve_case.Goals as goal

pub returns : goal.returns
returns c = solves_is c.min-b.ensures c.min-o.ensures c.min-n.ensures c.call.ensures
