-- `row::add_part` meets its contract. Assumes nothing.
use mathlib.Core.Path.{ap, ap₂, ◌∙◌}
use mathlib.Core.Logic.{⊎_elim}
use Prim.Native.Nat.{ℕ, ◌+◌}
use lib.ListN.{get_or}
use Rattle.octet.specs.Octet.{add}
use Rattle.octets.specs.Spans.{span_start, span_next, span_upto}
use native.Mathlib.Omega.{arith}
use Rattle.symbol_slab.proofs.row.add_part.Goals as goal

pub loop-i-init : goal.loop-i-init
loop-i-init c = (omega arith, span_start (omega arith))

pub loop-i-preserved : goal.loop-i-preserved
unfolding add
loop-i-preserved c =
    let l = c.loop-i in
    let a = c.args in
    let s = c.loop-i.invariant.1 in
    let r = c.requires in (
      omega arith,
      span_next s (omega arith) (omega (arith, r.dest_in)) (omega arith)
          (ap₂ add (s.high (a.dest + l.i) (omega arith))
          (⊎_elim (λ z. s.high (a.src + l.i) (omega arith)) (λ z. s.low (a.src + l.i) (omega arith)) r.apart
          ∙ ap (λ (x : ℕ). get_or a.slab.now x 0) (omega arith))),
    )

pub returns : goal.returns
returns c = span_upto c.loop-i.invariant.1 (omega arith)
