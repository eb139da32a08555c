-- `put_bytes` is safe and ends: a block has at most 256 bytes. Assumes nothing.
use Rattle.std.proofs.Common.{◌≡◌}
use Rattle.std.specs.Slice.Iter.{chunks_size}
use Rattle.programs.proofs.writing.put_bytes.Given as goal

abbrev pub invariant-loop-block : goal.invariant-loop-block
invariant-loop-block g l =
    (goal.iterator-loop-block g).can_next l.block-iterator × (goal.iterator-loop-block g).is_finite l.block-iterator × (chunks_size l.block-iterator ≡ 256)
