-- `row::fma_part` meets its contract. Assumes nothing.
use mathlib.Core.Path.{refl}
use Rattle.symbol_slab.specs.Placed.{ready_none}
use Rattle.symbol_slab.proofs.row.fma_part.Goals as goal

pub returns : goal.returns
returns c =
    let p = c.requires in
    let o = c.fma_once.ensures in
    (o.0, ready_none p.1 refl o.1)
