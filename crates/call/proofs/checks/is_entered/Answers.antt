-- `checks::is_entered` meets its contract. Assumes nothing.
use mathlib.Core.Path.{◌∙◌}
use Rattle.call.specs.Tests.{entered-front, entered-back}
use Rattle.call.proofs.checks.is_entered.Goals as goal

pub returns-then-is_binary : goal.returns-then-is_binary
returns-then-is_binary c = entered-back _ _ _ _ c.is_binary.ensures c.if-is_binary.true c.is_binary-then-is_binary.ensures

pub returns-else-is_binary : goal.returns-else-is_binary
returns-else-is_binary c = c.if-is_binary.false ∙ entered-front _ _ _ _ c.is_binary.ensures c.if-is_binary.false
