-- `multiples::fill` meets its contract. Assumes nothing.
use Rattle.octets.specs.Multiples.{Blank, Multiples, entry}
use Rattle.octets.proofs.multiples.fill.Given as goal

abbrev pub invariant-loop-i : goal.invariant-loop-i
invariant-loop-i l = Multiples l.i (entry l.src 0) l.room × Blank l.room
