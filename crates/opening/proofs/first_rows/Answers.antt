use Rattle.opening.specs.Rows.{exchange_start, exchange_next, exchange_end}
use Rattle.opening.proofs.first_rows.Goals as goal

pub loop-j-init : goal.loop-j-init
loop-j-init c = exchange_start c.requires c.numbers.ensures

pub loop-j-preserved : goal.loop-j-preserved
loop-j-preserved c = exchange_next c.loop-j.invariant c.loop-j-test.true c.swap.ensures

pub returns : goal.returns
returns c = exchange_end c.loop-j.invariant c.loop-j-test.false c.numbers.auto.s
