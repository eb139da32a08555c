-- `params::answer` meets its contract: the digits are the figures. Assumes nothing.
use borrow.Author.Rules.{Fits-under}
use Rattle.params.proofs.Packing.{front_small}
use Rattle.params.proofs.answer.Goals as goal

pub overflow_add-l : goal.overflow_add-l
overflow_add-l c = Fits-under _ _ 65_536 (front_small _ _ _ c.requires.l_small) tt
