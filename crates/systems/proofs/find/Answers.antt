-- `systems::find` meets its contract: what reading gives from here on is what it gave. Assumes nothing.
use Rattle.std.proofs.Common.{sym, ◌∙◌}
use Rattle.systems.specs.Text.{starts_is}
use Rattle.systems.specs.Cases.{case_word, find_turn, found_here, found-over}
use Rattle.systems.proofs.find.Goals as goal

pub returns-then-starts_with : goal.returns-then-starts_with
returns-then-starts_with c = found_here _ c.line_end-end.ensures c.loop-at.invariant (sym (starts_is case_word _) ∙ sym c.starts_with.ensures.value ∙ c.if-starts_with.true)

pub loop-at-preserved : goal.loop-at-preserved
loop-at-preserved c = λ b. c.loop-at.invariant b ∙ find_turn _ _ _ c.loop-at-test.true c.line_end-end.ensures (sym (starts_is case_word _) ∙ sym c.starts_with.ensures.value ∙ c.if-starts_with.false) b

pub returns : goal.returns
returns c = found-over c.loop-at.invariant c.loop-at-test.false
