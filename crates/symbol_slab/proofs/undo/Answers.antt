-- `undo` meets its contract. Assumes nothing.
use Rattle.std.proofs.Common.{refl, sym, ◌∙◌}
use Rattle.std.proofs.lemmas.Result.{err_from_is_err_and}
use borrow.Author.Tests.{not-true, not-false}
use Rattle.symbol_slab.specs.Replay.{undone, undo_met, undo_kept}
use Rattle.symbol_slab.specs.Passed.{passed, all_placed}
use Rattle.symbol_slab.proofs.undo.Goals as goal

pub returns-in_err-check_call : goal.returns-in_err-check_call
returns-in_err-check_call c =
    let p = err_from_is_err_and c.from_residual.result c.from_residual.ensures.1 in
    rw (p.1, p.2) (undo_kept _ refl c.in_err-check_call.ensures)

pub returns-then-not-can_undo : goal.returns-then-not-can_undo
unfolding undone
returns-then-not-can_undo c = undo_met (rw (sym c.in_ok-check_call.ensures, sym c.can_undo.ensures ∙ not-true _ c.if-not-can_undo.true-raw))

pub undo_all-requires : goal.undo_all-requires
undo_all-requires c = all_placed (passed _ _ _ _ _ _ _ (sym c.in_ok-check_call.ensures))

pub returns : goal.returns
unfolding undone
returns c = undo_met (rw (sym c.in_ok-check_call.ensures, sym c.can_undo.ensures ∙ not-false _ c.if-not-can_undo.false-raw, c.undo_all.ensures))
