use Rattle.std.proofs.Common.{length}
use Rattle.opening.specs.Rows.{Exchanging}
use Rattle.opening.proofs.first_rows.Given as goal

abbrev pub invariant-loop-j : goal.invariant-loop-j
invariant-loop-j l = Exchanging (length l.initial.d) l.s l.h l.b l.j l.d
