-- `rest::row_value` meets its contract: a part of the row, beside its columns. Assumes nothing.
use Prim.Native.Nat.{◌+◌, ◌-◌, ◌*◌}
use native.Mathlib.Omega.{arith}
use Rattle.rest.specs.Vector.{valuing_value}
use Rattle.rest.proofs.row_value.Goals as goal

pub returns : goal.returns
returns c =
    let a = c.args in
    valuing_value c.requires (a.x * a.l + a.b + (a.g - a.b) - (a.x * a.l + a.b)) (omega arith) c.weigh_row.ensures
