-- `columns::swap` meets its contract. Assumes nothing.
use mathlib.Core.Path.{◌∙◌}
use Rattle.columns.specs.Exchange.{swapped-is}
use Rattle.columns.proofs.swap.Goals as goal

pub returns : goal.returns
returns c = c.swap.ensures.after ∙ swapped-is c.args.d.now c.args.i c.args.j c.requires.0 c.requires.1
