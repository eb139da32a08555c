-- `octets::add` meets its contract. The loop makes the sum from the front. Assumes nothing.
use mathlib.Core.Path.{sym, ap, ◌∙◌}
use native.Mathlib.Omega.{arith}
use lib.ListN.{get_or}
use Rattle.loops.specs.Front.{begin, unread, turn, end}
use Rattle.octet.specs.Octet.{add}
use Rattle.octets.specs.Laws.{length-add_row, get_or-add_row}
use Rattle.octets.proofs.add.Goals as goal

pub loop-i-init : goal.loop-i-init
loop-i-init c = begin (length-add_row _ _)

pub loop-i-preserved : goal.loop-i-preserved
unfolding add
loop-i-preserved c =
    let l = c.loop-i in
    let a = c.args in
    turn l.invariant (omega arith)
    (ap (λ x. add x (get_or a.src.now l.i 0)) (unread l.invariant (omega arith)) ∙ sym (get_or-add_row a.dest.now a.src.now l.i (omega arith)))

pub returns : goal.returns
returns c = record { is = end c.loop-i.invariant (omega arith) }
