-- `rest::again` meets its contract: one whose operation is kept, one whose operation is not, a word that says nothing. Assumes nothing.
use mathlib.Core.Path.{sym, ◌∙◌}
use Rattle.rest.specs.Again.{word_unknown, word_small, word-noted, word-left}
use Rattle.rest.proofs.again.Goals as goal

pub record-requires-clause-small : goal.record-requires-clause-small
record-requires-clause-small c = word_small c.requires (sym c.unpack.ensures ∙ c.in-Some.is)

pub returns-in-Some-clause-recorded : goal.returns-in-Some-clause-recorded
returns-in-Some-clause-recorded c = word-noted c.requires (sym c.unpack.ensures ∙ c.in-Some.is) c.dest_of.ensures c.if-marks-dest_of-eq1.true c.record.ensures.noted

pub returns-else-marks-dest_of-eq1-clause-recorded : goal.returns-else-marks-dest_of-eq1-clause-recorded
returns-else-marks-dest_of-eq1-clause-recorded c = word-left c.requires (sym c.unpack.ensures ∙ c.in-Some.is) c.dest_of.ensures c.if-marks-dest_of-eq1.false

pub returns-in-None-clause-recorded : goal.returns-in-None-clause-recorded
returns-in-None-clause-recorded c = word_unknown c.requires (sym c.unpack.ensures ∙ c.in-None.is)
