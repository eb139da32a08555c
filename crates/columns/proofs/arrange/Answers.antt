-- `columns::arrange` meets its contract. Assumes nothing.
use Rattle.columns.specs.Sweep.{laid_end}
use Rattle.grid.specs.Grid.{bit}
use Rattle.columns.proofs.arrange.Goals as goal

pub returns : goal.returns
returns c =
    laid_end (bit c.args.g.l c.args.g.bits.now) c.args.x c.args.v.now _ _ c.args.r c.requires.l_in_bounds.2 c.requires.l_in_bounds.1 c.front_one.ensures c.sweep.ensures
