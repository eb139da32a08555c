-- `octets::fma_block` meets its contract. Assumes nothing.
use mathlib.Core.Path.{ap₂}
use native.Mathlib.Omega.{arith}
use Rattle.octet.specs.Octet.{add}
use Rattle.octets.specs.Spans.{span_next}
use Rattle.octets.proofs.fma_block.Goals as goal

pub loop-i-preserved : goal.loop-i-preserved
unfolding add
loop-i-preserved c =
    let l = c.loop-i in
    span_next l.invariant (omega arith) (omega arith) (omega arith)
    (ap₂ add (l.invariant.high l.i (omega arith)) c.product.ensures)
