-- `multiples::fill` meets its contract. Assumes nothing.
use mathlib.Core.Path.{◌≡◌, ap}
use Prim.Native.Nat.{ℕ}
use native.Mathlib.Omega.{arith}
use lib.ListN.{get_or}
use Rattle.octets.specs.Multiples.{filled, filled_is, multiples_next, blank-next}
use Rattle.octets.proofs.multiples.fill.Goals as goal

pub loop-i-preserved : goal.loop-i-preserved
loop-i-preserved c =
    let l = c.loop-i in
    let a = c.args in
    let x = get_or a.src.now l.i 0 in
    let e : c.put_digits.new.room ≡ filled l.i x l.room = filled_is l.i x _ _ _ l.room _ _ _ _
    c.put_digits-x.ensures.0 c.put_digits-x.ensures.1
    c.put_digits-y.ensures.0 c.put_digits-y.ensures.1
    c.put_digits-z.ensures.0 c.put_digits-z.ensures.1 c.put_digits.ensures.0 in
    (rw e (multiples_next l.invariant.1 l.i x (omega arith) l.invariant.0 (ap (λ (k : ℕ). get_or a.src.now k 0) (omega arith))), rw e (blank-next l.invariant.1 l.i x (omega arith)))
