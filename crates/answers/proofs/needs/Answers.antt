-- `needs` meets its contract. Assumes nothing.
use Rattle.std.proofs.Common.{◌≤◌, arith}
use mathlib.Core.Path.{ap}
use borrow.Author.Tests.{le-leb, lt-leb}
use Rattle.std.specs.Prelude.{Ok}
use Rattle.answers.specs.Rooms.{need_of, need_met}
use Rattle.answers.proofs.needs.Goals as goal

pub returns-then-m-l : goal.returns-then-m-l
unfolding need_of
returns-then-m-l c = let some : 1 ≤ c.args.l = omega arith in need_met (rw (le-leb _ _ some, lt-leb _ _ c.if-m-l.true))

pub returns-then-m-gt-MOST_ROWS : goal.returns-then-m-gt-MOST_ROWS
unfolding need_of
returns-then-m-gt-MOST_ROWS c =
    let some : 1 ≤ c.args.l = omega arith in
    need_met (rw (le-leb _ _ some, le-leb _ _ c.if-m-l.false, lt-leb _ _ c.if-m-gt-MOST_ROWS.true))

pub returns : goal.returns
unfolding need_of
returns c =
    let some : 1 ≤ c.args.l = omega arith in
    need_met (rw (le-leb _ _ some, le-leb _ _ c.if-m-l.false, le-leb _ _ c.if-m-gt-MOST_ROWS.false)
    (ap Ok c.rooms_for.ensures))
