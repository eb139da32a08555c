-- `clearing::clear_rows` meets its contract: what is left to record of ys. Assumes nothing.
use mathlib.Core.Path.{sym, ◌∙◌}
use Rattle.clearing.specs.Clear.{clear_none, clear-one, clear_end, bit-one, bit-none}
use Rattle.clearing.proofs.clear_rows.Goals as goal
use Rattle.clearing.proofs.clear_rows.Goals.{then-has, else-has}

pub loop-y-preserved : goal.loop-y-preserved
loop-y-preserved c =
    let i = c.loop-y.invariant in
    let t = c.loop-y-test.true in
    let e = c.has.ensures in
    let p = c.requires.rows in
    elim c.if-has.branch [
      | then-has w ↦
          rw w.journal-is record {
            same_room = w.record.ensures.same_room ∙ i.same_room;
            clearing = clear-one i.clearing t (bit-one _ _ _ _ (sym e ∙ w.if-has.true)) w.record.ensures.noted;
          }
      | else-has w ↦
          rw w.journal-is record {
            same_room = i.same_room;
            clearing = clear_none i.clearing t (bit-none _ _ _ _ (p.1.at _ t) (sym e ∙ w.if-has.false));
          }
    ]

pub returns-clause-listed : goal.returns-clause-listed
returns-clause-listed c = clear_end c.loop-y.invariant.clearing c.loop-y-test.false
