-- `list::apply_columns` meets its contract. Assumes nothing.
use Rattle.std.proofs.Common.{refl, length, arith}
use Rattle.symbol_slab.specs.Placed.{ready_none}
use Rattle.symbol_slab.specs.Turns.{up_start, up_next, up_end, placed_at}
use Rattle.symbol_slab.proofs.list.apply_columns.Goals as goal

pub loop-i-init : goal.loop-i-init
loop-i-init c = (up_start _ _ _ _ _, ready_none c.args.part.some refl c.requires.1)

pub apply_word-requires : goal.apply_word-requires
apply_word-requires c =
    let now = c.loop-i in
    (rw (c.unpack-word.ensures, now.invariant.0.is.long) (placed_at c.args.part.t c.args.list.now (length c.args.slab.now) c.requires.0 now.i (omega arith)), now.invariant.1)

pub loop-i-preserved : goal.loop-i-preserved
loop-i-preserved c =
    let call = c.apply_word.ensures in
    (up_next _ _ _ _ _ c.loop-i.invariant.0 (omega arith) (rw c.unpack-word.ensures at call.cols), call.ready)

pub returns : goal.returns
returns c = (up_end _ _ _ _ _ c.loop-i.invariant.0 (omega arith), c.loop-i.invariant.1.blank)
