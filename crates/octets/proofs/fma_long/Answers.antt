-- `octets::fma_long` meets its contract. The loop makes the sum from the front, a block at a time; the last block was made before.
-- Assumes nothing.
use mathlib.Core.Path.{refl, ap, ◌∙◌}
use Prim.Native.Nat.{◌-◌}
use native.Mathlib.Omega.{arith}
use lib.ListN.{length, get_or}
use Rattle.octet.specs.Octet.{add, mul}
use Rattle.octets.specs.Laws.{length-fma_row, get_or-fma_row}
use Rattle.octets.specs.Spans.{fma_at, span_join, span_all}
use Rattle.octets.proofs.fma_long.Goals as goal

pub loop-i-preserved : goal.loop-i-preserved
loop-i-preserved c =
    let a = c.args in
    let i = c.loop-i.invariant.1 in (
      omega arith,
      span_join i c.fma_block.ensures (omega arith) (omega arith)
          (λ x p q. ap (λ y. add y (mul a.k (get_or a.src.now x 0))) (i.high x p)),
    )

pub returns : goal.returns
returns c =
    let a = c.args in
    let i = c.loop-i.invariant.1 in
    let d = c.args.dest.now in
    let n = length c.loop-i.dest - 16 in
    let all = span_join i c.store_last.ensures (omega arith) (omega (arith, i.long))
    (λ x p q. c.fma_last-last.ensures.has (x - n) (omega arith) ∙ ap (fma_at d a.src.now a.k) (omega (arith, i.long))) in
    record { is = span_all all refl (omega (arith, i.long)) (length-fma_row _ _ _) (get_or-fma_row d a.src.now a.k) }
