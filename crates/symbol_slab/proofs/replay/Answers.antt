-- `replay` meets its contract. Assumes nothing.
use Rattle.std.proofs.Common.{refl, sym}
use Rattle.std.proofs.lemmas.Result.{err_from_is_err_and}
use Rattle.symbol_slab.specs.Replay.{replayed, replay_met, replay_kept}
use Rattle.symbol_slab.specs.Passed.{passed, all_placed}
use Rattle.symbol_slab.proofs.replay.Goals as goal

pub returns-in_err-check_call : goal.returns-in_err-check_call
returns-in_err-check_call c =
    let p = err_from_is_err_and c.from_residual.result c.from_residual.ensures.1 in
    rw (p.1, p.2) (replay_kept _ refl c.in_err-check_call.ensures)

pub apply_all-requires : goal.apply_all-requires
apply_all-requires c = all_placed (passed _ _ _ _ _ _ _ (sym c.in_ok-check_call.ensures))

pub returns-in-Some : goal.returns-in-Some
unfolding replayed
returns-in-Some c = replay_met (rw (sym c.in_ok-check_call.ensures, c.in-Some.is, c.apply_all.ensures))

pub returns-in-None : goal.returns-in-None
unfolding replayed
returns-in-None c = replay_met (rw (sym c.in_ok-check_call.ensures, c.in-None.is, c.apply_all.ensures))
