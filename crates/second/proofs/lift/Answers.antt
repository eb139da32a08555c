-- `second::lift` meets its contract. Assumes nothing.
use mathlib.Core.Path.{◌∙◌}
use Rattle.second.specs.Store.{row-part}
use Rattle.second.proofs.lift.Goals as goal

pub returns : goal.returns
returns c =
    let a = c.args in
    c.copy_from_slice.ensures.after
    ∙ row-part a.area.m a.area.l a.area.i a.work.now c.requires.sized a.x c.requires.x_lt_m.0 c.span-a.ensures.start c.span-a.ensures.stop
