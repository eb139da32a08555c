-- `second::gather` meets its contract. The loop makes the row from the front. Assumes nothing.
use mathlib.Core.Path.{sym, ◌∙◌}
use Prim.Native.Nat.{ℕ}
use lib.ListN.{get_or, length-map}
use Rattle.phases.specs.Matrix.{get_d_map}
use Rattle.loops.specs.Front.{begin, turn, end}
use native.Mathlib.Omega.{arith}
use Rattle.second.proofs.gather.Goals as goal

pub loop-k-init : goal.loop-k-init
loop-k-init c = begin (length-map c.args.cols.now (λ (q : ℕ). get_or c.args.row.now q 0) ∙ sym c.requires.dest_len)

pub loop-k-preserved : goal.loop-k-preserved
loop-k-preserved c =
    let a = c.args in
    let o = c.loop-k in
    turn o.invariant (omega arith) (sym (get_d_map (λ (q : ℕ). get_or a.row.now q 0) a.cols.now o.k (omega arith)))

pub returns : goal.returns
returns c = end c.loop-k.invariant (omega arith)
