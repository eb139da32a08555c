-- `row::fma_once` meets its contract. Assumes nothing.
use Rattle.symbol_slab.specs.Placed.{copy_span, copy_blank}
use Rattle.symbol_slab.proofs.row.fma_once.Goals as goal

pub returns : goal.returns
returns c =
    let a = c.args in
    let p = c.requires in
    let f = c.copy_from_slice.ensures.after in
    (copy_span a.slab.now p.0 p.1 p.2 f a.k c.fma.ensures.is, copy_blank a.slab.now p.0 p.1 p.2 f)
