use Rattle.std.proofs.Common.{◌+◌}
use Rattle.labels.specs.Marking.{Hit, hit_at, has_label, both_there, pair_marked, row_marked}
use Rattle.grid.specs.Grid.{bit}
use Rattle.labels.proofs.Labels.add_row.Goals as goal

pub returns-clause-marked : goal.returns-clause-marked
returns-clause-marked c =
    let row = bit c.args.g.l c.args.g.bits.now in
    let a : Hit (row c.args.y) c.args.v.now 0 c.unwrap-a.result = hit_at 0 c.unwrap-a.ensures c.next_one.ensures in
    let b : Hit (row c.args.y) c.args.v.now (c.unwrap-a.result + 1) c.unwrap-b.result = hit_at (c.unwrap-a.result + 1) c.unwrap-b.ensures c.next_one-2.ensures in
    row_marked row c.args.v.now c.args.y (both_there row c.args.y c.args.v.now c.requires.2 a b)
    (pair_marked _ _ _ _ _ _ c.requires.3 (has_label c.requires.1 a.within c.requires.4) c.add_pair.ensures.kept c.add_pair.ensures.next c.add_pair.ensures.each)
