-- `stored::fill_list` meets its contract: the room is filled from the front. Assumes nothing.
use native.Mathlib.Omega.{arith}
use Rattle.loops.specs.Front.{end}
use Rattle.stored.specs.Bytes.{fill_begin, fill_turn}
use Rattle.stored.specs.Scan.{length-words_at}
use Rattle.stored.proofs.fill_list.Goals as goal

pub loop-i-init : goal.loop-i-init
loop-i-init c = fill_begin _ _ (let h = length-words_at c.args.form.now 13 c.args.n in omega arith)

pub loop-i-preserved : goal.loop-i-preserved
loop-i-preserved c = fill_turn _ c.loop-i.invariant (omega (arith, c.loop-i.invariant.long)) c.word_or_zero.ensures

pub returns : goal.returns
returns c = end c.loop-i.invariant (omega (arith, c.loop-i.invariant.long))
