-- `second::scale_row` meets its contract: the part of the row is lent, and comes back changed. Assumes nothing.
use mathlib.Core.Path.{◌∙◌}
use Rattle.octets.specs.Rows.{scale_row}
use Rattle.second.specs.Store.{row_made, act_scale}
use native.Mathlib.Omega.{arith}
use Rattle.second.proofs.scale_row.Goals as goal

pub returns : goal.returns
returns c =
    let a = c.args in
    let s = c.span-a.ensures in
    row_made a.area.m a.area.l a.area.i a.work.now c.requires.sized a.y c.requires.y_lt_m s.start s.stop (scale_row a.c) c.scale.ensures.is (omega arith)
    ∙ act_scale a.area.m a.area.l a.area.i a.work.now c.requires.sized a.y c.requires.y_lt_m a.c
