-- `list::undo_columns` meets its contract. Assumes nothing.
use Rattle.std.proofs.Common.{rules, ◌≡◌, refl, ◌-◌, length, option_map, arith}
use Rattle.algebra.specs.Rows.{inverse}
use Rattle.symbol_slab.specs.Placed.{ready_none}
use Rattle.symbol_slab.specs.Turns.{down_start, down_next, down_end, placed_at, placed_undone, word_undone}
use Rattle.symbol_slab.proofs.list.undo_columns.Goals as goal

pub loop-i-init : goal.loop-i-init
loop-i-init c = (down_start _ _ _ _ _, ready_none c.args.part.some refl c.requires.1)

pub apply_word-requires : goal.apply_word-requires
apply_word-requires c =
    let now = c.loop-i in
    let undone : c.map-word.result ≡ option_map inverse c.unpack.result = search rules in
    (rw (undone, c.unpack.ensures, now.invariant.0.is.long) (placed_undone _ _ _ (placed_at c.args.part.t c.args.list.now (length c.args.slab.now) c.requires.0 (now.i - 1) (omega arith))), now.invariant.1)

pub loop-i-preserved : goal.loop-i-preserved
loop-i-preserved c =
    let call = c.apply_word.ensures in
    let undone : c.map-word.result ≡ option_map inverse c.unpack.result = search rules in
    (down_next _ _ _ _ _ c.loop-i.invariant.0 (omega arith) (rw (undone, word_undone, c.unpack.ensures) at call.cols), call.ready)

pub returns : goal.returns
returns c = (down_end _ _ _ _ _ c.loop-i.invariant.0 c.loop-i-test.false, c.loop-i.invariant.1.blank)
