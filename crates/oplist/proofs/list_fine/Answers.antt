-- `oplist::list_fine` meets its contract: the chain looks at each word. Assumes nothing.
use Rattle.std.proofs.Common.{rules, ◌∙◌}
use borrow.Author.Tests.{tests}
use Rattle.std.proofs.lemmas.Iterator.{YieldsList-from_slice}
use Rattle.std.proofs.lemmas.Iterator.Search.{all_from_yields_List}
use Rattle.oplist.specs.Word.{meaning}
use Rattle.oplist.specs.Check.{word_fine}
use Rattle.oplist.proofs.Chains.{list_fine_all}
use Rattle.oplist.proofs.list_fine.Goals as goal

pub returns : goal.returns
returns c =
    all_from_yields_List (λ w. word_fine c.args.m (meaning w)) _ _ _ c.all.ensures.ran (YieldsList-from_slice c.args.list.now cc) (λ x b q k. search (rules, tests))
    ∙ list_fine_all c.args.m c.args.list.now
