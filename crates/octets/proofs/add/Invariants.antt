-- `octets::add` meets its contract. The loop makes the result from the front. Assumes nothing.
use Rattle.loops.specs.Front.{Front}
use Rattle.octets.specs.Rows.{add_row}
use Rattle.octets.proofs.add.Given as goal

abbrev pub invariant-loop-i : goal.invariant-loop-i
invariant-loop-i l = Front (add_row l.initial.dest l.src) l.initial.dest l.dest l.i
