-- `row::fma_run` meets its contract. Assumes nothing.
use Rattle.symbol_slab.specs.Placed.{fma_span, ready_after}
use native.Mathlib.Omega.{arith}
use Rattle.symbol_slab.proofs.row.fma_run.Goals as goal

pub returns : goal.returns
returns c =
    let a = c.args in
    let p = c.requires in
    let h = c.hold.ensures in
    let s = fma_span a.slab.now _ a.dest a.n p.0.dest_in a.src a.k (omega arith) h.0 c.gather.ensures in
    (s, rw h.2 (ready_after p.0 s h.0 h.1))
