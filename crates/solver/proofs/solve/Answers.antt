-- `solve` meets its contract. Assumes nothing.
use mathlib.Core.Path.{refl, ◌∙◌}
use mathlib.Core.List.{List}
use Prim.Native.Nat.{ℕ}
use Rattle.std.proofs.Common.{Bor}
use Rattle.std.proofs.lemmas.Result.{err_from_is_err_and}
use Rattle.call.specs.Called.{call_met}
use Rattle.solver.specs.Judge.{flagged_is, refused-is, ready_is}
use Rattle.solver.proofs.solve.Goals as goal

pub returns-in_err-z-clause-called : goal.returns-in_err-z-clause-called
returns-in_err-z-clause-called c =
    let y = flagged_is (λ (x : Bor (List ℕ)). x.now) c.args.octets c.is_some-given.ensures c.unwrap_or-octets.ensures refl in
    let p = err_from_is_err_and c.from_residual.result c.from_residual.ensures.1 in
    rw (p.1, p.2) (call_met (refused-is _ _ _ _ y _ c.in_err-z.ensures))

pub solve_tested-requires-clause-posed : goal.solve_tested-requires-clause-posed
solve_tested-requires-clause-posed c =
    let y = flagged_is (λ (x : Bor (List ℕ)). x.now) c.args.octets c.is_some-given.ensures c.unwrap_or-octets.ensures refl in
    (ready_is _ _ _ _ y _ c.in_ok-z.ensures).posed

pub solve_tested-requires-clause-roomed : goal.solve_tested-requires-clause-roomed
solve_tested-requires-clause-roomed c =
    let y = flagged_is (λ (x : Bor (List ℕ)). x.now) c.args.octets c.is_some-given.ensures c.unwrap_or-octets.ensures refl in
    (ready_is _ _ _ _ y _ c.in_ok-z.ensures).roomed

pub solve_tested-requires-clause-slabbed : goal.solve_tested-requires-clause-slabbed
solve_tested-requires-clause-slabbed c =
    let y = flagged_is (λ (x : Bor (List ℕ)). x.now) c.args.octets c.is_some-given.ensures c.unwrap_or-octets.ensures refl in
    (ready_is _ _ _ _ y _ c.in_ok-z.ensures).slabbed

pub returns-clause-called : goal.returns-clause-called
returns-clause-called c =
    let y = flagged_is (λ (x : Bor (List ℕ)). x.now) c.args.octets c.is_some-given.ensures c.unwrap_or-octets.ensures refl in
    call_met (c.solve_tested.ensures.is ∙ (ready_is _ _ _ _ y _ c.in_ok-z.ensures).is)
