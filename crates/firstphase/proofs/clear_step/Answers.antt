use Rattle.std.proofs.Common.{get_or}
use Rattle.firstphase.specs.Clears.{below_at}
use Rattle.loops.specs.Part.{part}
use Rattle.clearing.specs.Clear.{cleared}
use Rattle.stepping.specs.Turns.{as_shape}
use Rattle.firstphase.proofs.clear_step.Goals as goal

pub clear_rows-requires : goal.clear_rows-requires
unfolding part
clear_rows-requires c =
    record {
      rows = (c.requires.clear.rows, c.requires.clear.binary, c.requires.clear.few, c.requires.clear.pivot, c.requires.clear.row);
      fair = c.requires.fair;
    }

pub clear_octets-requires : goal.clear_octets-requires
clear_octets-requires c =
    record {
      l_in_bounds = (c.requires.clear.octets, c.requires.clear.small, c.requires.clear.pivot, c.requires.clear.row);
      fair = c.clear_rows.ensures.listed.fair;
    }

pub returns-clause-listed : goal.returns-clause-listed
unfolding part
returns-clause-listed c = cleared (as_shape c.args.z) c.args.bits.now c.args.octets.now (get_or c.args.c.now c.args.i 0) (get_or c.args.d.now c.args.i 0) (below_at (as_shape c.args.z) c.args.i c.args.d.now) c.requires.clear.out c.clear_rows.ensures.listed c.clear_octets.ensures.listed
