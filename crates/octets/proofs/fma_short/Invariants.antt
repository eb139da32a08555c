-- `octets::fma_short` meets its contract. The loop makes the result from the front. Assumes nothing.
use Rattle.loops.specs.Front.{Front}
use Rattle.octets.specs.Rows.{fma_row}
use Rattle.octets.proofs.fma_short.Given as goal

abbrev pub invariant-loop-i : goal.invariant-loop-i
invariant-loop-i l = Front (fma_row l.initial.dest l.src l.k) l.initial.dest l.dest l.i
