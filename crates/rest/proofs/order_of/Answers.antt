-- `rest::order_of` meets its contract: the places from one on are in the room. Assumes nothing.
use mathlib.Core.Path.{refl}
use native.Mathlib.Omega.{arith}
use Rattle.rest.specs.Columns.{placing_start, placing_next}
use Rattle.rest.proofs.order_of.Goals as goal

pub loop-k-init : goal.loop-k-init
loop-k-init c = placing_start _ _ _ _ c.requires.blank c.requires.rows

pub loop-k-preserved : goal.loop-k-preserved
loop-k-preserved c = placing_next c.loop-k.invariant c.loop-k-test.true (c.requires.under.at _ (omega arith)) refl
