-- `rest::vector_of` meets its contract: the values from a place on are in the vector. Assumes nothing.
use Rattle.rest.specs.Vector.{Substituting}
use Rattle.rest.proofs.vector_of.Given as goal

abbrev pub invariant-loop-p : goal.invariant-loop-p
invariant-loop-p l = Substituting l.work l.l l.c l.d l.i l.q l.initial.vector l.p l.vector
