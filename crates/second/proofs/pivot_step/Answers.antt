-- `second::pivot_step` meets its contract: the row is exchanged into its place, scaled, and clears the rows after it. Assumes nothing.
use Rattle.oplist.specs.Facts.{Order}
use Rattle.second.specs.Clear.{performed_fair}
use Rattle.second.specs.Step.{order-swapped, tail_rows, stepped}
use native.Mathlib.Omega.{arith}
use Rattle.second.proofs.pivot_step.Goals as goal

pub scale_pivot-requires-clause-y_lt_m : goal.scale_pivot-requires-clause-y_lt_m
scale_pivot-requires-clause-y_lt_m c =
    let a = c.args in
    let o : Order a.area.m a.area.m c.swap.new.d = order-swapped a.area.m a.q a.p a.d.now c.swap.new.d c.requires.ready.order c.requires.i_le_q.2 c.requires.i_le_q.3 c.swap.ensures in
    (o.rows.below a.q (omega (arith, o.size, c.requires.i_le_q)), c.requires.i_le_q.0, c.requires.i_le_q.1)

pub clear_below-requires-clause-fair : goal.clear_below-requires-clause-fair
clear_below-requires-clause-fair c = performed_fair c.scale_pivot.ensures.performed c.requires.ready.fair

pub clear_below-requires-clause-rows : goal.clear_below-requires-clause-rows
clear_below-requires-clause-rows c =
    let a = c.args in
    let o : Order a.area.m a.area.m c.swap.new.d = order-swapped a.area.m a.q a.p a.d.now c.swap.new.d c.requires.ready.order c.requires.i_le_q.2 c.requires.i_le_q.3 c.swap.ensures in
    tail_rows _ a.q (omega (arith, o.size, c.requires.i_le_q)) a.area.m o.rows

pub returns-clause-stepped : goal.returns-clause-stepped
returns-clause-stepped c =
    let a = c.args in
    stepped a.area.m a.q a.p a.d.now c.swap.new.d c.requires.ready.order c.requires.i_le_q.2 c.requires.i_le_q.3 c.swap.ensures a.area.l a.area.i a.work.now
    c.scale_pivot.ensures.performed c.clear_below.ensures.performed
