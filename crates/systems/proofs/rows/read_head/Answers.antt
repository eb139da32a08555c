-- `rows::read_head` meets its contract: each way through a `sys` line is a case of the definition. Assumes nothing.
use Rattle.std.proofs.Common.{sym, ◌∙◌}
use borrow.Author.Tests.{not-true, not-false}
use Rattle.systems.specs.Text.{starts_is}
use Rattle.systems.specs.Lined.{sys_word, head-none, head_first, head-second, head-third, head-fourth, head_long, head-flag, head-is}
use Rattle.systems.proofs.rows.read_head.Goals as goal
use Rattle.systems.proofs.rows.read_head.Goals.{then-end-line-via-then-end-line, then-end-line-via-else-end-line+then-h-gt1}

pub returns-then-not-starts_with : goal.returns-then-not-starts_with
returns-then-not-starts_with c = head-none c.args.line.now (sym (starts_is sys_word _) ∙ sym c.starts_with.ensures.value ∙ not-true _ c.if-not-starts_with.true-raw)

pub returns-in_err-k : goal.returns-in_err-k
returns-in_err-k c = c.from_residual.ensures ∙ head_first c.args.line.now (sym (starts_is sys_word _) ∙ sym c.starts_with.ensures.value ∙ not-false _ c.if-not-starts_with.false-raw) (sym c.read_number.ensures ∙ c.in_err-k.was)

pub returns-in_err-h : goal.returns-in_err-h
returns-in_err-h c = c.from_residual-in_err-h.ensures ∙ head-second c.args.line.now (sym (starts_is sys_word _) ∙ sym c.starts_with.ensures.value ∙ not-false _ c.if-not-starts_with.false-raw) (sym c.read_number.ensures ∙ c.in_ok-k.was) (sym c.read_number-2.ensures ∙ c.in_err-h.was)

pub returns-in_err-m : goal.returns-in_err-m
returns-in_err-m c = c.from_residual-in_err-m.ensures ∙ head-third c.args.line.now (sym (starts_is sys_word _) ∙ sym c.starts_with.ensures.value ∙ not-false _ c.if-not-starts_with.false-raw) (sym c.read_number.ensures ∙ c.in_ok-k.was) (sym c.read_number-2.ensures ∙ c.in_ok-h.was) (sym c.read_number-3.ensures ∙ c.in_err-m.was)

pub returns-in_err-t : goal.returns-in_err-t
returns-in_err-t c = c.from_residual-in_err-t.ensures ∙ head-fourth c.args.line.now (sym (starts_is sys_word _) ∙ sym c.starts_with.ensures.value ∙ not-false _ c.if-not-starts_with.false-raw) (sym c.read_number.ensures ∙ c.in_ok-k.was) (sym c.read_number-2.ensures ∙ c.in_ok-h.was) (sym c.read_number-3.ensures ∙ c.in_ok-m.was) (sym c.read_number-4.ensures ∙ c.in_err-t.was)

pub returns-then-end-line : goal.returns-then-end-line
returns-then-end-line c =
    elim c.then-end-line.branch [
      | then-end-line-via-then-end-line w ↦ head_long c.args.line.now (sym (starts_is sys_word _) ∙ sym c.starts_with.ensures.value ∙ not-false _ c.if-not-starts_with.false-raw) (sym c.read_number.ensures ∙ c.in_ok-k.was) (sym c.read_number-2.ensures ∙ c.in_ok-h.was) (sym c.read_number-3.ensures ∙ c.in_ok-m.was) (sym c.read_number-4.ensures ∙ c.in_ok-t.was) w.if-end-line.true
      | then-end-line-via-else-end-line+then-h-gt1 w ↦ head-flag c.args.line.now (sym (starts_is sys_word _) ∙ sym c.starts_with.ensures.value ∙ not-false _ c.if-not-starts_with.false-raw) (sym c.read_number.ensures ∙ c.in_ok-k.was) (sym c.read_number-2.ensures ∙ c.in_ok-h.was) (sym c.read_number-3.ensures ∙ c.in_ok-m.was) (sym c.read_number-4.ensures ∙ c.in_ok-t.was) w.if-end-line.false w.if-h-gt1.true
    ]

pub returns : goal.returns
returns c = head-is c.args.line.now (sym (starts_is sys_word _) ∙ sym c.starts_with.ensures.value ∙ not-false _ c.if-not-starts_with.false-raw) (sym c.read_number.ensures ∙ c.in_ok-k.was) (sym c.read_number-2.ensures ∙ c.in_ok-h.was) (sym c.read_number-3.ensures ∙ c.in_ok-m.was) (sym c.read_number-4.ensures ∙ c.in_ok-t.was) c.if-end-line.false c.if-h-gt1.false c.columns.ensures
