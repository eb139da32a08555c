-- `second::eliminate` meets its contract, by how the columns end. Assumes nothing.
use Prim.Native.Nat.{◌-◌}
use lib.ListN.{replicate, length-replicate}
use Rattle.second.specs.Whole.{eliminated_fair, eliminated_done}
use native.Mathlib.Omega.{arith}
use Rattle.second.proofs.eliminate.Goals as goal

pub backward-requires : goal.backward-requires
backward-requires c =
    let a = c.args in
    let f = c.forward in
    let p = c.requires in
    record {
      store = record { size = omega (arith, f.auto, p.rooms.store.size); from = p.rooms.store.from };
      few = p.rooms.few;
      wide = p.wide;
      order = f.ensures.eliminated.order;
      fair = eliminated_fair c.in_ok-forward.was f.ensures.eliminated p.fair (replicate (a.area.l - a.area.i) 0) (length-replicate (a.area.l - a.area.i) 0);
    }

pub returns-clause-eliminated : goal.returns-clause-eliminated
returns-clause-eliminated c = eliminated_done c.in_ok-forward.was c.forward.ensures.eliminated c.backward.ensures.cleared
