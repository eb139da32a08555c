-- `second::phase_two` meets its contract, by its parts. Assumes nothing.
use Rattle.tally.specs.Book.{book_of}
use Rattle.second.specs.Whole.{reduced}
use Rattle.second.proofs.phase_two.Goals as goal

pub returns-clause-reduced : goal.returns-clause-reduced
returns-clause-reduced c = reduced (book_of c.args.journal.now) _ c.requires.columns c.fill.ensures c.words.ensures c.apply_list.ensures c.next_phase.ensures.begun c.eliminate.ensures.eliminated
