-- `oplist::additions` meets its contract: the chain counts in each word. Assumes nothing.
use Rattle.std.proofs.Common.{rules, ◌≡◌, ◌∙◌, refl, map, arith}
use Rattle.std.specs.List.{sum}
use Rattle.std.proofs.lemmas.Iterator.{YieldsList-from_slice, YieldsList-from_map}
use Rattle.std.proofs.lemmas.Iterator.Consumers.{fits_by_from_yields_list}
use Rattle.oplist.specs.Word.{meaning}
use Rattle.oplist.specs.Count.{word_adds}
use Rattle.oplist.proofs.Chains.{adds_sum, adds_few}
use Rattle.oplist.proofs.additions.Goals as goal

pub sum-requires-clause-fits : goal.sum-requires-clause-fits
sum-requires-clause-fits c =
    fits_by_from_yields_list (λ w. word_adds (meaning w)) c.args.list.now _ _
    (YieldsList-from_map _ (λ w. word_adds (meaning w)) (YieldsList-from_slice c.args.list.now cc) refl (λ x r q k. search rules))
    (omega (arith, adds_few c.args.list.now, c.iter.ensures.bound))

pub returns : goal.returns
returns c =
    let h : c.sum.result ≡ sum (map (λ w. word_adds (meaning w)) c.args.list.now) = search rules in
    h ∙ adds_sum c.args.list.now
