-- `octets::fma_short` meets its contract. The loop makes the sum from the front. Assumes nothing.
use mathlib.Core.Path.{sym, ap₂, ◌∙◌}
use native.Mathlib.Omega.{arith}
use Rattle.loops.specs.Front.{begin, unread, turn, end}
use Rattle.octet.specs.Octet.{add}
use Rattle.octets.specs.Laws.{length-fma_row, get_or-fma_row}
use Rattle.octets.proofs.fma_short.Goals as goal

pub loop-i-init : goal.loop-i-init
loop-i-init c = begin (length-fma_row _ _ _)

pub loop-i-preserved : goal.loop-i-preserved
unfolding add
loop-i-preserved c =
    let l = c.loop-i in
    let a = c.args in
    turn l.invariant (omega arith)
    (ap₂ add (unread l.invariant (omega arith)) c.product.ensures
    ∙ sym (get_or-fma_row a.dest.now a.src.now a.k l.i (omega arith)))

pub returns : goal.returns
returns c = record { is = end c.loop-i.invariant (omega arith) }
