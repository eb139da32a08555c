-- `singles::Singles::take_out` meets its contract. Assumes nothing.
use Rattle.singles.specs.Facts.{kept_out, kept_same}
use Rattle.singles.proofs.Singles.take_out.Goals as goal

pub returns-in-Some-clause-kept : goal.returns-in-Some-clause-kept
returns-in-Some-clause-kept c = kept_out c.args.self.now.room.now c.args.self.now.used c.args.y c.requires c.in-Some.k c.in-Some.ensures

pub returns-in_default-clause-kept : goal.returns-in_default-clause-kept
returns-in_default-clause-kept c = kept_same c.args.self.now.room.now c.args.self.now.used c.args.y c.requires c.in_default.ensures
