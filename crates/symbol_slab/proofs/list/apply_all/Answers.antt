-- `list::apply_all` meets its contract. Assumes nothing.
use Rattle.octets.specs.Multiples.{blank-zeros}
use Rattle.symbol_slab.specs.Columns.{cols-start, cols_join, cols-all}
use native.Mathlib.Omega.{arith}
use Rattle.symbol_slab.proofs.list.apply_all.Goals as goal

pub loop-at-init : goal.loop-at-init
loop-at-init c = (omega arith, cols-start, blank-zeros)

pub apply_columns-requires : goal.apply_columns-requires
apply_columns-requires c = (rw (c.new-part.ensures.rows, c.loop-at.invariant.1.long) c.requires, c.loop-at.invariant.2)

pub loop-at-preserved : goal.loop-at-preserved
loop-at-preserved c =
    let now = c.loop-at in
    let call = rw (c.new-part.ensures.rows, c.new-part.ensures.place) at c.apply_columns.ensures in
    (omega arith, cols_join now.invariant.1 call.0 (omega arith) (omega arith), call.1)

pub returns : goal.returns
returns c = cols-all c.loop-at.invariant.1 c.loop-at.invariant.0 (omega arith) c.requires
