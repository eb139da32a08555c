-- `stored::judge_list` meets its contract: a list of a shape within the bounds has a size that fits. Assumes nothing.
use mathlib.Core.Path.{sym, ◌∙◌}
use native.Mathlib.Omega.{arith}
use borrow.Author.Tests.{not-false}
use Rattle.oplist.specs.Facts.{shape_fine-shape}
use Rattle.stored.proofs.judge_list.Goals as goal

pub overflow_add-need-2 : goal.overflow_add-need-2
overflow_add-need-2 c = let s = shape_fine-shape _ _ _ (sym c.shape_fine.ensures ∙ not-false _ c.if-not-shape_fine.false-raw) in omega (arith, s.ops, s.narrow, s.rows)

pub returns-clause-sized : goal.returns-clause-sized
returns-clause-sized c =
    let s = shape_fine-shape _ _ _ (sym c.shape_fine.ensures ∙ not-false _ c.if-not-shape_fine.false-raw) in
    record {
      long = omega arith;
      small = omega (arith, s.ops, s.narrow, s.rows);
      rows = omega (arith, s.rows);
      columns = omega (arith, s.narrow, s.rows);
      few = omega (arith, s.ops);
    }
