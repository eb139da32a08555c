-- `rest::vector_of` meets its contract: the values from a place on are in the vector. Assumes nothing.
use lib.ListN.{get_or}
use Rattle.rest.specs.Vector.{last-column, substituting_start, substituting_value, substituting_next, substituting_done}
use Rattle.rest.proofs.vector_of.Goals as goal

pub loop-p-init : goal.loop-p-init
loop-p-init c = substituting_start c.requires.singular c.requires.blank

pub row_value-v-requires : goal.row_value-v-requires
row_value-v-requires c = substituting_value c.loop-p.invariant c.loop-p-test.true c.max-b.ensures

pub loop-p-preserved : goal.loop-p-preserved
loop-p-preserved c = substituting_next c.loop-p.invariant c.loop-p-test.true c.max-b.ensures c.row_value-v.ensures

pub returns : goal.returns
returns c =
    let a = c.args in
    substituting_done a.vector.now (get_or a.c.now a.q 0) c.loop-p.invariant (last-column c.requires.singular) c.loop-p-test.false
