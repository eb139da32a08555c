-- `octets::product` meets its contract: the multiples that the digits pick add up to the product. Assumes nothing.
use native.Mathlib.Omega.{arith}
use lib.Dec.{lit<}
use Rattle.octet.specs.Octet.{add}
use Rattle.octets.proofs.Doubling.{sum-start, sum-next, sum-all}
use Rattle.octets.proofs.product.Goals as goal

pub returns : goal.returns
unfolding add
returns c =
    let a = c.args in
    let s0 = sum-start a.k a.x (omega arith) in
    let s1 = sum-next s0 c.digit.ensures (lit< tt) c.twice-k1.ensures in
    let s2 = sum-next s1 c.digit-2.ensures (lit< tt) c.twice-k2.ensures in
    let s3 = sum-next s2 c.digit-3.ensures (lit< tt) c.twice-k3.ensures in
    let s4 = sum-next s3 c.digit-4.ensures (lit< tt) c.twice-k4.ensures in
    let s5 = sum-next s4 c.digit-5.ensures (lit< tt) c.twice-k5.ensures in
    let s6 = sum-next s5 c.digit-6.ensures (lit< tt) c.twice-k6.ensures in
    let s7 = sum-next s6 c.digit-7.ensures (lit< tt) c.twice-k7.ensures in
    sum-all (omega arith) s7 c.digit-8.ensures
