-- `rows::columns` meets its contract: an entry of the table, or none. Assumes nothing.
use mathlib.Core.Path.{sym, ap, ◌∙◌}
use Rattle.systems.specs.Lined.{columns_in, columns_of}
use Rattle.systems.proofs.rows.columns.Goals as goal

pub returns-in-Ok : goal.returns-in-Ok
unfolding columns_of
returns-in-Ok c = ap columns_in (sym c.in-Ok.is ∙ c.params.ensures.is)

pub returns-in-Err : goal.returns-in-Err
unfolding columns_of
returns-in-Err c = ap columns_in (sym c.in-Err.is ∙ c.params.ensures.is)
