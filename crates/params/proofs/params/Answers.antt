-- `params::params` meets its contract: the code's table is the table, packed. Assumes nothing.
use Rattle.std.proofs.Common.{◌≡◌, arith}
use mathlib.Core.Path.{sym, ◌∙◌}
use Rattle.params.specs.Table.{table}
use Rattle.params.specs.Answers.{at_zero, at_some, answered}
use Rattle.params.proofs.Packing.{scan-table, word-packed, word-answer, none-answer}
use Rattle.params.proofs.params.Goals as goal

pub returns-then-k-eq0 : goal.returns-then-k-eq0
returns-then-k-eq0 c = answered _ _ (sym (at_zero _ c.if-k-eq0.true))

pub answer-requires : goal.answer-requires
unfolding table
answer-requires c = word-packed c.args.k _ (c.in-Some.ensures ∙ scan-table c.args.k)

pub returns-in-Some : goal.returns-in-Some
unfolding table
returns-in-Some c =
    let k = c.args.k in
    let h : k ≡ 0 → ⊥ = omega arith in
    answered k _ (c.answer.ensures ∙ word-answer k _ (c.in-Some.ensures ∙ scan-table k) ∙ sym (at_some k h))

pub returns-in-None : goal.returns-in-None
unfolding table
returns-in-None c =
    let k = c.args.k in
    let h : k ≡ 0 → ⊥ = omega arith in
    answered k _ (none-answer k (c.in-None.ensures ∙ scan-table k) ∙ sym (at_some k h))
