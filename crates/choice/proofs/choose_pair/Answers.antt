use Rattle.choice.specs.Choose.{pair_none, pair_some, found_under}
use Rattle.figures.specs.Told.{told}
use Rattle.grid.specs.Grid.{bit}
use Rattle.choice.proofs.choose_pair.Goals as goal

pub returns-in_err-node : goal.returns-in_err-node
returns-in_err-node c =
    rw c.from_residual.ensures (pair_none (bit c.args.g.l c.args.g.bits.now) c.args.v.now c.args.e.now (told c.args.labels.now) c.args.n c.biggest-b.ensures c.in_err-node.ensures)

pub at_node-requires-clause-q_lt_l : goal.at_node-requires-clause-q_lt_l
at_node-requires-clause-q_lt_l c = found_under c.args.v.now _ c.requires.columns c.in_ok-node.ensures

pub returns : goal.returns
returns c =
    pair_some (bit c.args.g.l c.args.g.bits.now) c.args.v.now c.args.e.now (told c.args.labels.now) c.args.n c.biggest-b.ensures c.in_ok-node.ensures c.requires.figures c.at_node.ensures
