use Rattle.std.proofs.Common.{refl, arith}
use Rattle.opening.specs.Marks.{blank_ready, given_columns, given_long, given_upto, given_low, given_outside, given_marked}
use Rattle.opening.proofs.first_marks.Goals as goal

pub add_twos-requires : goal.add_twos-requires
add_twos-requires c =
    let p = c.requires in
    (p.rows, p.figured, given_columns p, p.right, blank_ready c.clear.ensures (omega arith), given_long p c.clear.ensures)

pub by_least-requires : goal.by_least-requires
by_least-requires c =
    let p = c.requires in
    let f = c.clear.ensures in
    let m = c.add_twos.ensures.marked in
    (given_upto p f m, given_low p f m, given_outside p f m)

pub returns-clause-marked : goal.returns-clause-marked
returns-clause-marked c =
    given_marked c.requires c.clear.ensures c.add_twos.ensures.marked c.by_least.ensures.numbered (omega arith) refl
