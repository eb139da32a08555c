-- `octets::scale` meets its contract. The loop makes the result from the front. Assumes nothing.
use Rattle.loops.specs.Front.{Front}
use Rattle.octets.specs.Rows.{scale_row}
use Rattle.octets.proofs.scale.Given as goal

abbrev pub invariant-loop-d : goal.invariant-loop-d
invariant-loop-d l = Front (scale_row l.k l.initial.dest) l.initial.dest l.dest l.d-index
