-- `octets::scale` meets its contract. The loop makes the multiple from the front. Assumes nothing.
use mathlib.Core.Path.{sym, ap, ◌∙◌}
use native.Mathlib.Omega.{arith}
use Rattle.loops.specs.Front.{begin, unread, turn, end}
use Rattle.octet.specs.Octet.{mul}
use Rattle.octets.specs.Laws.{length-scale_row, get_or-scale_row}
use Rattle.octets.proofs.scale.Goals as goal

pub loop-d-init : goal.loop-d-init
loop-d-init c = begin (length-scale_row _ _)

pub loop-d-preserved : goal.loop-d-preserved
loop-d-preserved c =
    let l = c.loop-d in
    let a = c.args in
    turn l.invariant (omega arith)
    (c.product.ensures ∙ ap (mul a.scalar.value) (unread l.invariant (omega arith)) ∙ sym (get_or-scale_row a.scalar.value a.dest.now l.d-index))

pub returns : goal.returns
returns c = record { is = end c.loop-d.invariant (omega arith) }
