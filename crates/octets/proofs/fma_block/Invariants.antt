-- `octets::fma_block` meets its contract. Assumes nothing.
use Rattle.octets.specs.Spans.{Span, fma_at}
use Rattle.octets.proofs.fma_block.Given as goal

abbrev pub invariant-loop-i : goal.invariant-loop-i
invariant-loop-i l = Span (fma_at l.initial.dest l.src l.k) l.initial.dest l.at l.i l.dest
