-- `multiples::gather` meets its contract. Assumes nothing.
use Rattle.octets.specs.Spans.{Span}
use Rattle.octets.specs.Multiples.{digits_at}
use Rattle.octets.proofs.multiples.gather.Given as goal

abbrev pub invariant-loop-i : goal.invariant-loop-i
invariant-loop-i l = Span (digits_at l.initial.dest l.room l.k) l.initial.dest 0 l.i l.dest
