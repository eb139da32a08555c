-- `clearing::clear_octets` meets its contract: what is left to record of the octet rows. Assumes nothing.
use Prim.Native.Nat.{◌+◌, ◌*◌}
use mathlib.Core.Path.{◌∙◌}
use lib.ListN.{get_or}
use native.Mathlib.Omega.{arith}
use Rattle.oplist.specs.Multiple.{small_multiple}
use Rattle.clearing.specs.Clear.{octet_none, octet_next, octet_end}
use Rattle.clearing.proofs.clear_octets.Goals as goal
use Rattle.clearing.proofs.clear_octets.Goals.{then-c-ne0, else-c-ne0}

pub record-requires-clause-small : goal.record-requires-clause-small
record-requires-clause-small c =
    let a = c.args in
    let j = c.loop-j.j in
    small_multiple (get_or a.octets.now (j * a.l + a.q) 0) (a.s + j) a.x (omega (arith, c.type_inv.octets (j * a.l + a.q))) (omega arith) (omega arith)
    c.multiple_of.ensures

pub loop-j-preserved : goal.loop-j-preserved
loop-j-preserved c =
    let i = c.loop-j.invariant in
    let t = c.loop-j-test.true in
    elim c.if-c-ne0.branch [
      | then-c-ne0 w ↦
          rw w.journal-is record {
            same_room = w.record.ensures.same_room ∙ i.same_room;
            multiples = octet_next i.multiples t w.if-c-ne0.true w.multiple_of.ensures w.record.ensures.noted;
          }
      | else-c-ne0 w ↦
          rw w.journal-is record {
            same_room = i.same_room;
            multiples = octet_none i.multiples t w.if-c-ne0.false;
          }
    ]

pub returns-clause-listed : goal.returns-clause-listed
returns-clause-listed c = octet_end c.loop-j.invariant.multiples c.loop-j-test.false
