-- `row_start` stays within the largest slab. Assumes nothing.
use Rattle.std.proofs.Common.{◌≤◌, arith}
use Rattle.std.proofs.Math.Nat.{mul-le-mul_left, mul-le-mul_right}
use Rattle.recover.proofs.row_start.Goals as goal

pub returns : goal.returns
returns c =
    let r : c.min.result ≤ 256 = omega arith in
    let b : c.min-2.result ≤ 65535 = omega arith in
    omega (arith, mul-le-mul_left c.min.result b, mul-le-mul_right 65535 r)
