-- `oplist::can_undo` meets its contract: the chain looks at each word. Assumes nothing.
use Rattle.std.proofs.Common.{rules, ◌∙◌}
use borrow.Author.Tests.{tests}
use Rattle.std.proofs.lemmas.Iterator.{YieldsList-from_slice}
use Rattle.std.proofs.lemmas.Iterator.Search.{all_from_yields_List}
use Rattle.oplist.specs.Word.{meaning}
use Rattle.oplist.specs.Check.{word_undoable}
use Rattle.oplist.proofs.Chains.{undoable_all}
use Rattle.oplist.proofs.can_undo.Goals as goal

pub returns : goal.returns
returns c =
    all_from_yields_List (λ w. word_undoable (meaning w)) _ _ _ c.all.ensures.ran (YieldsList-from_slice c.args.list.now cc) (λ x b q k. search (rules, tests))
    ∙ undoable_all c.args.list.now
