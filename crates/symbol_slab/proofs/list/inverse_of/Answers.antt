-- `list::inverse_of` meets its contract. Assumes nothing.
use Rattle.symbol_slab.specs.Turns.{inverse-value, inverse-zero}
use Rattle.symbol_slab.proofs.list.inverse_of.Goals as goal

pub returns-in-Ok : goal.returns-in-Ok
returns-in-Ok c = inverse-value c.div.ensures c.in-Ok.is

pub returns-in-Err : goal.returns-in-Err
returns-in-Err c = inverse-zero c.div.ensures c.in-Err.is
