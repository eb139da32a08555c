-- `octets::fma_last` meets its contract. Assumes nothing.
use mathlib.Core.Path.{refl, ap}
use Prim.Native.Nat.{◌+◌, ◌-◌}
use native.Mathlib.Omega.{arith}
use lib.ListN.{length, get_or}
use Rattle.octet.specs.Octet.{add}
use Rattle.octets.specs.Spans.{span_next}
use Rattle.octets.proofs.fma_last.Goals as goal

pub loop-j-preserved : goal.loop-j-preserved
unfolding add
loop-j-preserved c =
    let l = c.loop-j in
    let d = c.args.dest.now in
    span_next l.invariant (omega arith) (omega arith) refl (ap (add (get_or d (length d - 16 + l.j) 0)) c.product.ensures)
