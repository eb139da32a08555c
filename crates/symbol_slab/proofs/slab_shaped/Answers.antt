-- `slab_shaped` meets its contract. Assumes nothing.
use Rattle.std.proofs.Common.{sym, ◌∙◌}
use Rattle.symbol_slab.specs.Passed.{fits_word}
use Rattle.symbol_slab.proofs.slab_shaped.Goals as goal

pub overflow_mul-result : goal.overflow_mul-result
overflow_mul-result c =
    let p = c.if-t-le-MOST_BYTES.true in
    record { fits = fits_word c.args.m c.args.l c.args.n c.args.t (sym c.shape_fine.ensures ∙ p.0) p.2 }
