-- `systems::read` meets its contract: the case that was found, or none. Assumes nothing.
use Rattle.std.proofs.Common.{sym, ◌∙◌}
use Rattle.systems.specs.Cases.{read_is, read_end}
use Rattle.systems.proofs.read.Goals as goal

pub returns-then-text-at : goal.returns-then-text-at
returns-then-text-at c = sym (c.find-at.ensures.same _ ∙ read_end _ _ _ c.if-text-at.true)

pub returns-in-Ok : goal.returns-in-Ok
returns-in-Ok c = read_is _ c.line_end-end.ensures c.find-at.ensures c.if-text-at.false _ c.read_lines.ensures c.in-Ok.is

pub returns-in-Err : goal.returns-in-Err
returns-in-Err c = read_is _ c.line_end-end.ensures c.find-at.ensures c.if-text-at.false _ c.read_lines.ensures c.in-Err.is
