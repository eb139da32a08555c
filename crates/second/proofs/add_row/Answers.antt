-- `second::add_row` meets its contract: the source row is copied first, since two parts of one store are not lent at once. Assumes nothing.
use mathlib.Core.Path.{◌∙◌, ap}
use mathlib.Core.List.{List, []}
use Prim.Native.Nat.{ℕ}
use lib.ListN.{get_or, set}
use Rattle.octets.specs.Rows.{add_row}
use Rattle.second.specs.Store.{matrix, row_made, act-add}
use native.Mathlib.Omega.{arith}
use Rattle.second.proofs.add_row.Goals as goal

pub returns : goal.returns
returns c =
    let a = c.args in
    let s = c.span-a.ensures in
    let X = matrix a.area a.work.now in
    row_made a.area.m a.area.l a.area.i a.work.now c.requires.rooms.store a.y c.requires.y_lt_m.0 s.start s.stop (λ (z : List ℕ). add_row z c.lift.new.scratch) c.add.ensures.is (omega arith)
    ∙ ap (λ (r : List ℕ). set X a.y (add_row (get_or X a.y []) r)) c.lift.ensures
    ∙ act-add a.area.m a.area.l a.area.i a.work.now c.requires.rooms.store a.y c.requires.y_lt_m.0 a.x c.requires.y_lt_m.1
