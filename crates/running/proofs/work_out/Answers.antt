-- `work_out` meets its contract. Assumes nothing.
use mathlib.Core.Path.{◌∙◌}
use Rattle.running.specs.Cuts.{wiped_long}
use Rattle.running.proofs.work_out.Goals as goal

pub returns-clause-worked : goal.returns-clause-worked
returns-clause-worked c =
    record {
      ran = c.run_within-a.ensures.ran;
      cleared = c.slices.ensures.wiped ∙ wiped_long c.run_within-a.ensures.long;
    }
