-- `stored::fill_order` meets its contract: the room is filled from the front. Assumes nothing.
use native.Mathlib.Omega.{arith}
use Rattle.loops.specs.Front.{end}
use Rattle.stored.specs.Bytes.{fill_begin, fill_turn}
use Rattle.stored.proofs.fill_order.Goals as goal

pub loop-i-init : goal.loop-i-init
loop-i-init c = fill_begin _ _ c.requires

pub loop-i-preserved : goal.loop-i-preserved
loop-i-preserved c = fill_turn _ c.loop-i.invariant (omega (arith, c.loop-i.invariant.long)) c.entry_or_zero.ensures

pub returns : goal.returns
returns c = end c.loop-i.invariant (omega (arith, c.loop-i.invariant.long))
