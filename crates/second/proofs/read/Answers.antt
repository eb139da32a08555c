-- `second::read` meets its contract. Assumes nothing.
use mathlib.Core.Path.{sym}
use Rattle.second.specs.Store.{at-store_of}
use Rattle.second.proofs.read.Goals as goal

pub returns : goal.returns
returns c =
    let a = c.args in
    sym (at-store_of a.area.m a.area.l a.area.i a.work.now c.requires.sized a.y c.requires.y_lt_m.0 a.q c.cell-k.result c.requires.y_lt_m.1 c.requires.y_lt_m.2 c.cell-k.ensures.is)
