-- `tally::Journal::record` meets its contract: the room's own step, and the counts by whether there was room. Assumes nothing.
use native.Mathlib.Omega.{arith}
use Rattle.tally.specs.Book.{noted-stored, noted-full}
use Rattle.tally.proofs.Journal.record.Goals as goal
use Rattle.tally.proofs.Journal.record.Goals.{then-t-room, else-t-room}

pub returns-clause-noted : goal.returns-clause-noted
returns-clause-noted c =
    let r = c.record-used in
    elim c.if-t-room.branch [
      | then-t-room w ↦ rw w.self-is (noted-stored _ _ r.ensures (omega (arith, r.auto.list, w.if-t-room.true)) w.adds_of.ensures w.muls_of.ensures)
      | else-t-room w ↦ rw w.self-is (noted-full _ _ r.ensures (omega (arith, r.auto.list, w.if-t-room.false)))
    ]
