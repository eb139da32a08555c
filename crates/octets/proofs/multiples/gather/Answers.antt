-- `multiples::gather` meets its contract. Assumes nothing.
use mathlib.Core.Path.{ap}
use Prim.Native.Nat.{ℕ, ◌+◌, ◌*◌, ◌/◌, ◌%◌}
use native.Mathlib.Omega.{arith}
use lib.ListN.{get_or}
use Rattle.octet.specs.Octet.{add}
use Rattle.octets.specs.Spans.{span_next}
use Rattle.octets.proofs.multiples.gather.Goals as goal

pub loop-i-preserved : goal.loop-i-preserved
unfolding add
loop-i-preserved c =
    let l = c.loop-i in
    let room = c.args.room.now in
    let k = c.from-k.result in
    span_next l.invariant (omega arith) (omega arith) (omega arith)
    (ap (λ (x : ℕ). add (add (add (add x (get_or room (k % 4 * 1280 + l.i) 0)) (get_or room (5120 + k / 4 % 4 * 1280 + l.i) 0))
    (get_or room (10240 + k / 16 % 4 * 1280 + l.i) 0)) (get_or room (15360 + k / 64 % 4 * 1280 + l.i) 0)) (l.invariant.high l.i (omega arith)))
