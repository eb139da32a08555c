-- `order::rows_fine` meets its contract: what is left to look at decides the same. Assumes nothing.
use Rattle.std.proofs.Common.{sym, ◌∙◌}
use Rattle.oplist.proofs.Chains.{rows_over, rows_high, rows_twice, rows_next}
use Rattle.oplist.proofs.order.rows_fine.Goals as goal
use Rattle.oplist.proofs.order.rows_fine.Goals.{then-m-row-via-then-m-row, then-m-row-via-else-m-row+then-stands}

pub returns-then-m-row : goal.returns-then-m-row
returns-then-m-row g c =
    let law = g.met.T.Entry.rows_each in
    elim c.then-m-row.branch [
      | then-m-row-via-then-m-row w ↦ sym (c.loop-x.invariant ∙ rows_high law c.args.m c.in-Some.ensures.cases.0 (rw c.row.ensures at w.if-m-row.true))
      | then-m-row-via-else-m-row+then-stands w ↦ sym (c.loop-x.invariant ∙ rows_twice law c.args.m c.in-Some.ensures.cases.0 (rw c.row.ensures at w.if-m-row.false) (rw w.row-else-m-row.ensures at (sym w.stands.ensures ∙ w.if-stands.true)))
    ]

pub loop-x-preserved : goal.loop-x-preserved
loop-x-preserved g c =
    c.loop-x.invariant
    ∙ rows_next g.met.T.Entry.rows_each c.args.m c.in-Some.ensures.cases.0 (rw c.row.ensures at c.if-m-row.false) (rw c.row-else-m-row.ensures at (sym c.stands.ensures ∙ c.if-stands.false))

pub returns : goal.returns
returns g c = rows_over g.met.T.Entry.rows_each c.args.m _ c.in_default.ensures.cases ∙ sym c.loop-x.invariant
