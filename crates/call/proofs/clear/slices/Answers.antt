-- `clear::slices` meets its contract. Assumes nothing.
use Rattle.call.specs.Call.{wiped_are}
use Rattle.call.proofs.clear.slices.Goals as goal

pub returns-clause-wiped : goal.returns-clause-wiped
returns-clause-wiped c =
    wiped_are _ _ _ _ _ _ _ _ _
    c.bytes.ensures
    c.bytes-2.ensures
    c.numbers.ensures
    c.numbers-2.ensures
    c.numbers-3.ensures
    c.numbers-4.ensures
    c.numbers-5.ensures
    c.numbers-6.ensures
    c.numbers-7.ensures
