-- `Grid::count` meets its contract: the tests, each a number, are added. Assumes nothing.
use Rattle.std.proofs.Common.{rules, ap, sym, length, ◌≡◌, ◌∙◌, refl, map, arith, cond, Bool, true, false}
use Rattle.std.specs.Int.{from_bool}
use Rattle.std.specs.List.{sum}
use Rattle.std.proofs.lemmas.Iterator.{YieldsList-from_slice, YieldsList-from_map}
use Rattle.std.proofs.lemmas.Iterator.Adapters.{serves_from_places}
use Rattle.std.proofs.lemmas.Iterator.Consumers.{fits_by_from_yields_list}
use Rattle.std.proofs.lemmas.List.Sums.{sum-map, length-filter, count_by-le-length}
use Rattle.grid.specs.Grid.{bit, under_item, passing}
use Rattle.grid.proofs.Grid.count.Goals as goal

pub sum-requires-clause-can : goal.sum-requires-clause-can
sum-requires-clause-can c = (
  tt,
  serves_from_places (YieldsList-from_slice c.args.v.now cc) (λ x q r. search rules)
      (λ x k h e. let u = under_item c.requires.under k h e in search rules),
)

counted : (b : Bool) → from_bool b ≡ cond b 1 0
counted true = refl
counted false = refl

pub sum-requires-clause-fits : goal.sum-requires-clause-fits
sum-requires-clause-fits c =
    let p = bit c.args.self.l c.args.self.bits.now c.args.x in
    fits_by_from_yields_list (λ q. cond (p q) 1 0) c.args.v.now _ _
    (YieldsList-from_map _ (λ q. cond (p q) 1 0) (YieldsList-from_slice c.args.v.now cc) refl (λ x r q k. search (rules, counted)))
    (omega (arith, count_by-le-length p c.args.v.now, c.iter.ensures.bound))

pub returns : goal.returns
returns c =
    let p = bit c.args.self.l c.args.self.bits.now c.args.x in
    let h : c.sum.result ≡ sum (map (λ q. cond (p q) 1 0) c.args.v.now) = search (rules, counted) in
    h ∙ sum-map (λ q. cond (p q) 1 0) c.args.v.now ∙ sym (length-filter p c.args.v.now) ∙ ap length (passing p c.args.v.now)
