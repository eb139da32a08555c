-- `rooms_for` meets its contract. Assumes nothing.
use native.Mathlib.Omega.{arith}
use Rattle.answers.specs.Rooms.{small_product}
use Rattle.answers.proofs.rooms_for.Goals as goal

pub overflow_mul-result : goal.overflow_mul-result
overflow_mul-result c = record { fits = omega (arith, small_product c.args.m c.args.l (omega arith) (omega arith)) }

pub overflow_mul-result-3 : goal.overflow_mul-result-3
overflow_mul-result-3 c = record { fits = omega (arith, small_product c.args.m c.args.l (omega arith) (omega arith)) }

pub overflow_add-result-2 : goal.overflow_add-result-2
overflow_add-result-2 c = omega (arith, small_product c.args.m c.args.l (omega arith) (omega arith))

pub overflow_add-result-3 : goal.overflow_add-result-3
overflow_add-result-3 c = omega (arith, small_product c.args.m c.args.l (omega arith) (omega arith))

pub overflow_add-result-4 : goal.overflow_add-result-4
overflow_add-result-4 c = omega (arith, small_product c.args.m c.args.l (omega arith) (omega arith))
