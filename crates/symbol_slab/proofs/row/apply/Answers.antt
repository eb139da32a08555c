-- `row::apply` meets its contract: what each arm did to parts of rows is its operation. Assumes nothing.
use mathlib.Core.Path.{refl}
use Rattle.symbol_slab.specs.Placed.{ready_none}
use Rattle.symbol_slab.specs.Columns.{cols-add, cols_scale, cols_fma}
use Rattle.symbol_slab.proofs.row.apply.Goals as goal

pub returns-in-AddAssign : goal.returns-in-AddAssign
returns-in-AddAssign c =
    let p = c.args.part in
    rw c.in-AddAssign.is
    (record {
      cols = cols-add p.t p.at p.n p.within p.some _ _ (rw (c.start.ensures, c.start-in-AddAssign.ensures) at c.add_part.ensures);
      ready = ready_none p.some refl c.requires.1.blank;
    })

pub returns-in-MulAssign : goal.returns-in-MulAssign
returns-in-MulAssign c =
    let p = c.args.part in
    rw c.in-MulAssign.is
    (record {
      cols = cols_scale p.t p.at p.n p.within p.some _ _ (rw c.start-in-MulAssign.ensures at c.scale_part.ensures);
      ready = ready_none p.some refl c.requires.1.blank;
    })

pub returns-in-FMA : goal.returns-in-FMA
returns-in-FMA c =
    let p = c.args.part in
    let e = c.fma_part.ensures in
    rw c.in-FMA.is (record { cols = cols_fma p.t p.at p.n p.within p.some _ _ _ (rw (c.start-in-FMA.ensures, c.start-in-FMA-2.ensures) at e.0); ready = e.1 })
