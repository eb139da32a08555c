-- `row::scale_part` meets its contract. Assumes nothing.
use Rattle.symbol_slab.specs.Placed.{scale_span}
use Rattle.symbol_slab.proofs.row.scale_part.Goals as goal

pub returns : goal.returns
returns c = scale_span _ _ _ _ c.requires _ c.scale.ensures.is
