-- `systems::read_lines` meets its contract: the `sys` line, then the others. Assumes nothing.
use Rattle.std.proofs.Common.{◌≡◌, sym, ap, ◌∙◌}
use Rattle.std.specs.Result.{result_ok}
use Rattle.std.proofs.lemmas.Result.{err_from_is_err_and}
use Rattle.systems.specs.Cases.{lines_none, lines_head, lines_bad}
use Rattle.systems.proofs.read_lines.Goals as goal

pub returns-then-text-from : goal.returns-then-text-from
returns-then-text-from c = sym (lines_none _ _ _ c.if-text-from.true)

pub returns-in_err-s : goal.returns-in_err-s
returns-in_err-s c =
    let n = c.ok_or.ensures.ok_part ∙ ap result_ok c.in_err-s.was in
    let e : c.in_err-s.field-0.0 ≡ c.args.from = cc (rw n at c.ok_or.ensures.value) in
    let p = err_from_is_err_and c.from_residual.result c.from_residual.ensures.1 in
    rw (p.1, p.2, e) (sym (lines_bad _ _ _ c.if-text-from.false c.line_end-end.ensures _ c.read_head.ensures n))

pub returns : goal.returns
returns c = c.read_rows.ensures ∙ sym (lines_head _ _ _ c.if-text-from.false c.line_end-end.ensures _ c.read_head.ensures (c.ok_or.ensures.ok_part ∙ ap result_ok c.in_ok-s.was))
