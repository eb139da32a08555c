-- `second::fill_row` meets its contract. Assumes nothing.
use mathlib.Core.Path.{◌∙◌}
use mathlib.Core.List.{List}
use Prim.Native.Nat.{ℕ}
use Rattle.second.specs.Store.{row_made}
use Rattle.second.specs.Fill.{picked, picked_as}
use native.Mathlib.Omega.{arith}
use Rattle.second.proofs.fill_row.Goals as goal

pub returns : goal.returns
returns c =
    let a = c.args in
    row_made a.area.m a.area.l a.area.i a.work.now c.requires.sized a.y c.requires.y_lt_m.0 c.span-a.ensures.start c.span-a.ensures.stop
    (λ (_ : List ℕ). picked a.area.l a.src.now a.j a.cols.now)
    (c.gather.ensures ∙ picked_as a.h a.area.l a.j a.src.now a.cols.now c.cell-p.ensures c.cell-e.ensures c.requires.by_index) (omega arith)
