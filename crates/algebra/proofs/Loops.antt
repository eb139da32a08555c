-- Operations that change nothing.
--   restored   a list between the undo of another and that other, which leaves alone what it meets, changes nothing
-- Assumes nothing.
use Rattle.std.specs.Prelude.{◌≡◌, List, ◌++◌, ℕ}
use Rattle.std.proofs.Common.{ap, ◌∙◌}
use Rattle.octet.specs.Field.{Octets}
use Rattle.oplist.specs.declared.Op.{Op}
use Rattle.oplist.specs.Ops.{Each}
use Rattle.algebra.specs.Rows.{run, undo, Good, run-append}
use Rattle.algebra.proofs.Rows.{run-undo}

-- phases three to five: p are phase one's additions among the first rows, q what phase four records
pub restored : (p q : List Op) (v : ℕ → ℕ) → Each Good p → Octets v → run q (run (undo p) v) ≡ run (undo p) v
    → run (undo p ++ q ++ p) v ≡ v
restored p q v g h e =
    run-append (undo p ++ q) p v
    ∙ ap (run p) (run-append (undo p) q v ∙ e)
    ∙ run-undo p v g h
