-- What `calling::call` promises. Assumes nothing.
use Rattle.programs.specs.Calls.{calls_is}
use Rattle.programs.proofs.calling.call.Goals as goal

pub returns : goal.returns
returns c = calls_is c.args.octets.now c.args.s.octet c.octet_rows.ensures c.solve.ensures.called.is
