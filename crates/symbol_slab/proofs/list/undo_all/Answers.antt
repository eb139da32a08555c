-- `list::undo_all` meets its contract. Assumes nothing.
use lib.ListN.{length}
use Rattle.octets.specs.Multiples.{blank-zeros}
use Rattle.oplist.specs.Listed.{ops_of}
use Rattle.symbol_slab.specs.Turns.{all-inverse}
use Rattle.symbol_slab.specs.Columns.{cols-start, cols_join, cols-all}
use native.Mathlib.Omega.{arith}
use Rattle.symbol_slab.proofs.list.undo_all.Goals as goal

pub loop-at-init : goal.loop-at-init
loop-at-init c = (omega arith, cols-start, blank-zeros)

pub undo_columns-requires : goal.undo_columns-requires
undo_columns-requires c = (rw (c.new-part.ensures.rows, c.loop-at.invariant.1.long) c.requires, c.loop-at.invariant.2)

pub loop-at-preserved : goal.loop-at-preserved
loop-at-preserved c =
    let now = c.loop-at in
    let call = rw (c.new-part.ensures.rows, c.new-part.ensures.place) at c.undo_columns.ensures in
    (omega arith, cols_join now.invariant.1 call.0 (omega arith) (omega arith), call.1)

pub returns : goal.returns
returns c =
    cols-all c.loop-at.invariant.1 c.loop-at.invariant.0 (omega arith) (all-inverse c.args.t (length c.args.slab.now) (ops_of c.args.list.now) c.requires)
