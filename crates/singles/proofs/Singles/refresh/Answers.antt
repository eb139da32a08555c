use Rattle.std.proofs.Common.{take}
use Rattle.singles.specs.Figures.{renew-room, renew-done}
use Rattle.singles.specs.Facts.{refresh_in, refresh-not}
use Rattle.singles.proofs.Singles.refresh.Goals as goal

pub put_in-requires : goal.put_in-requires
put_in-requires c = renew-room c.requires.0 c.requires.1 c.take_out.ensures.kept

pub returns-then-ones_of-eq1-clause-done : goal.returns-then-ones_of-eq1-clause-done
returns-then-ones_of-eq1-clause-done c =
    renew-done c.requires.0 c.requires.1 c.ones_of.ensures
    (refresh_in (take c.args.self.now.used c.args.self.now.room.now) c.args.y _ c.if-ones_of-eq1.true c.take_out.ensures.kept c.put_in.ensures.kept)

pub returns-else-ones_of-eq1-clause-done : goal.returns-else-ones_of-eq1-clause-done
returns-else-ones_of-eq1-clause-done c =
    renew-done c.requires.0 c.requires.1 c.ones_of.ensures
    (refresh-not (take c.args.self.now.used c.args.self.now.room.now) c.args.y _ c.if-ones_of-eq1.false c.take_out.ensures.kept)
