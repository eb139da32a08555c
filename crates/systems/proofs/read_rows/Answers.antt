-- `systems::read_rows` meets its contract: the lines that are left do what they did. Assumes nothing.
use Rattle.std.proofs.Common.{◌≡◌, Some, ap, sym, ◌∙◌, arith}
use Rattle.std.specs.Result.{result_ok}
use Rattle.std.proofs.lemmas.Result.{err_from_is_err_and}
use Rattle.systems.specs.Cases.{rows_on, rows_go, rows_bad, rows-over}
use Rattle.systems.proofs.read_rows.Goals as goal

pub returns-in_err-next : goal.returns-in_err-next
returns-in_err-next c =
    let n = c.ok_or.ensures.ok_part ∙ ap result_ok c.in_err-next.was in
    let e : c.in_err-next.field-0.0 ≡ c.loop-at.at = cc (rw n at c.ok_or.ensures.value) in
    let p = err_from_is_err_and c.from_residual.result c.from_residual.ensures.1 in
    rw (p.1, p.2, e) (sym (c.loop-at.invariant.3 ∙ rows_bad _ _ _ c.loop-at-test.true c.line_end-end.ensures _ _ c.read_line.ensures n))

pub loop-at-preserved : goal.loop-at-preserved
loop-at-preserved c =
    (omega arith, omega arith, omega arith, c.loop-at.invariant.3 ∙ rows_on _ _ _ c.loop-at-test.true c.line_end-end.ensures _ _ c.read_line.ensures (c.ok_or.ensures.ok_part ∙ ap result_ok c.in_ok-next.was ∙ ap Some c.in-On.is))

pub returns-in-Go : goal.returns-in-Go
returns-in-Go c = sym (c.loop-at.invariant.3 ∙ rows_go _ _ _ c.loop-at-test.true c.line_end-end.ensures _ _ c.read_line.ensures (c.ok_or.ensures.ok_part ∙ ap result_ok c.in_ok-next.was ∙ ap Some c.in-Go.is))

pub returns : goal.returns
returns c = sym (c.loop-at.invariant.3 ∙ rows-over _ _ _ _ c.loop-at-test.false)
