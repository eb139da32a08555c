use Rattle.std.proofs.Common.{length, arith}
use Rattle.loops.specs.Front.{begin, turn, end}
use Rattle.phases.specs.Matrix.{length-range}
use Rattle.opening.specs.Rows.{number_at}
use Rattle.opening.proofs.numbers.Goals as goal

pub loop-k-init : goal.loop-k-init
loop-k-init c = begin (length-range 0 _)

pub loop-k-preserved : goal.loop-k-preserved
loop-k-preserved c = turn c.loop-k.invariant (omega arith) (number_at (length c.args.s.now) c.loop-k.invariant (omega arith))

pub returns : goal.returns
returns c = end c.loop-k.invariant (omega arith)
