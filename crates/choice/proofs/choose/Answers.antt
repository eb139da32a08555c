use Rattle.std.proofs.Common.{arith}
use Rattle.figures.specs.Told.{told}
use Rattle.grid.specs.Grid.{bit}
use Rattle.choice.specs.Choose.{chosen_more}
use Rattle.choice.proofs.choose.Goals as goal

pub returns-in_default : goal.returns-in_default
returns-in_default c =
    chosen_more (bit c.args.g.l c.args.g.bits.now) (told c.args.deg.now) c.args.v.now c.args.e.now c.args.s.now (told c.args.labels.now) c.args.n c.requires.r_value c.args.sizes.now (λ e. omega arith) (λ e. omega arith) (λ e. omega arith) c.requires.ready.figures c.least_degree_of.ensures
