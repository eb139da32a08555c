use mathlib.Core.Path.{subst}
use Rattle.grid.specs.Grid.{Under}
use mathlib.Core.Path.{ap}
use mathlib.Core.List.{List, ◌++◌}
use Prim.Native.Nat.{ℕ, ◌-◌}
use lib.ListN.{take, drop}
use Rattle.loops.specs.Part.{part, put}
use Rattle.stepping.proofs.places.Goals as goal

pub bring_row-requires : goal.bring_row-requires
unfolding part
bring_row-requires c = c.requires.4

pub arrange-requires-clause-l_in_bounds : goal.arrange-requires-clause-l_in_bounds
unfolding part
arrange-requires-clause-l_in_bounds c = (c.requires.5, c.requires.6, c.requires.7)

pub arrange-requires-clause-under : goal.arrange-requires-clause-under
unfolding part
arrange-requires-clause-under c = c.requires.8

pub returns : goal.returns
unfolding part put
returns c = (ap (λ (z : List ℕ). take c.args.i c.args.d.now ++ (z ++ drop (c.args.top - c.args.i) (drop c.args.i c.args.d.now))) c.bring_row.ensures, ap (λ (z : List ℕ). take c.args.i c.args.c.now ++ (z ++ drop (c.args.e - c.args.i) (drop c.args.i c.args.c.now))) c.arrange.ensures.is, subst (Under _) c.arrange.ensures.is c.arrange.ensures.under)
