-- `octets::fma_last` meets its contract. Assumes nothing.
use Prim.Native.Nat.{◌+◌}
use Rattle.octets.specs.Spans.{Span, fma_at}
use Rattle.octets.proofs.fma_last.Given as goal

abbrev pub invariant-loop-j : goal.invariant-loop-j
invariant-loop-j l = Span (λ x. fma_at l.dest l.src l.k (l.at + x)) l.initial.x-items 0 l.j l.x-items
