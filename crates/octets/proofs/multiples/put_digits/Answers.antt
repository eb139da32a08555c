-- `multiples::put_digits` meets its contract. Assumes nothing.
use native.Mathlib.Omega.{arith}
use Rattle.octet.specs.Octet.{add}
use Rattle.octets.specs.Multiples.{filled_at_lem, twice_twice}
use Rattle.octets.proofs.multiples.put_digits.Goals as goal

pub returns : goal.returns
unfolding add
returns c =
    let a = c.args in
    let y = c.twice-y in
    (filled_at_lem a.at a.x y.result a.room.now (omega arith) y.ensures, twice_twice a.x y.result c.twice.result y.ensures c.twice.ensures)
