-- `second::apply_list` meets its contract. The invariant: what is left of the list makes the whole from here. Assumes nothing.
use Rattle.second.specs.Listed.{applying_within, applying_next, applying_end}
use Rattle.second.proofs.apply_list.Goals as goal

pub apply_word-requires-clause-each : goal.apply_word-requires-clause-each
apply_word-requires-clause-each c = applying_within c.loop-w.invariant c.loop-w-test.true

pub loop-w-preserved : goal.loop-w-preserved
loop-w-preserved c = applying_next c.loop-w.invariant c.loop-w-test.true c.apply_word.ensures

pub returns : goal.returns
returns c = applying_end c.loop-w.invariant c.loop-w-test.false
