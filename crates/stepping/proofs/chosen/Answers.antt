use Rattle.std.proofs.Common.{◌∙◌, arith, rules}
use Rattle.loops.specs.Part.{part}
use Rattle.stepping.specs.Stands.{bounds, rule_ready, least_is, elig_under, singles_under, chosen_is}
use Rattle.stepping.proofs.chosen.Goals as goal

pub offset_bounds-c-st : goal.offset_bounds-c-st
offset_bounds-c-st c = let h = bounds c.requires.given c.requires.standing in search rules

pub slice_bounds-v-count : goal.slice_bounds-v-count
slice_bounds-v-count c = omega (arith, (bounds c.requires.given c.requires.standing).0)

pub slice_bounds-v-start : goal.slice_bounds-v-start
slice_bounds-v-start c = omega (arith, (bounds c.requires.given c.requires.standing).0)

pub offset_bounds-d-st : goal.offset_bounds-d-st
offset_bounds-d-st c = let h = bounds c.requires.given c.requires.standing in search rules

pub slice_bounds-e-count : goal.slice_bounds-e-count
slice_bounds-e-count c = omega (arith, (bounds c.requires.given c.requires.standing).2)

pub slice_bounds-e-start : goal.slice_bounds-e-start
slice_bounds-e-start c = omega (arith, (bounds c.requires.given c.requires.standing).2)

pub least_positive-r-requires : goal.least_positive-r-requires
unfolding part
least_positive-r-requires c = elig_under c.requires.given c.requires.standing _ c.requires.standing.long

pub choose-requires : goal.choose-requires
unfolding part
choose-requires c =
    record {
      ready = rule_ready c.requires.given c.requires.standing _ c.requires.deg_len.2;
      under = elig_under c.requires.given c.requires.standing _ c.requires.deg_len.0;
      under_2 = singles_under c.requires.given c.requires.standing _ c.requires.deg_len.0;
      r_value = c.least_positive-r.ensures ∙ least_is c.requires.given c.requires.standing;
    }

pub returns : goal.returns
unfolding part
returns c = c.choose.ensures.row ∙ chosen_is c.requires.given c.requires.standing c.args.deg.now c.requires.deg_len.1
