-- `columns::front_one` meets its contract. Assumes nothing.
use Rattle.columns.specs.Sweep.{moved_kept, moved_found, moved_none, under_part}
use Rattle.grid.specs.Grid.{bit}
use mathlib.Core.Path.{sym, ◌∙◌}
use Prim.Native.Nat.{◌-◌}
use native.Mathlib.Omega.{arith}
use Rattle.columns.proofs.front_one.Goals as goal

pub returns-then-has : goal.returns-then-has
returns-then-has c =
    moved_kept (bit c.args.g.l c.args.g.bits.now c.args.x) c.args.v.now c.requires.under c.args.k (omega arith) (sym c.has.ensures ∙ c.if-has.true)

pub first_one-requires-clause-under : goal.first_one-requires-clause-under
first_one-requires-clause-under c = under_part c.args.v.now 1 (c.args.k - 1) c.requires.under (omega arith)

pub returns-in-Some : goal.returns-in-Some
returns-in-Some c =
    moved_found (bit c.args.g.l c.args.g.bits.now c.args.x) c.args.v.now c.requires.under c.args.k (omega arith) (omega arith)
    (sym c.has.ensures ∙ c.if-has.false) c.in-Some.j c.in-Some.ensures c.swap.ensures

pub returns-in_default : goal.returns-in_default
returns-in_default c =
    moved_none (bit c.args.g.l c.args.g.bits.now c.args.x) c.args.v.now c.requires.under c.args.k (omega arith) (omega arith)
    (sym c.has.ensures ∙ c.if-has.false) c.in_default.ensures
