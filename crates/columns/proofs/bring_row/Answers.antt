-- `columns::bring_row` meets its contract. Assumes nothing.
use Rattle.columns.specs.First.{first_in, first_found, first_some}
use Rattle.columns.specs.Exchange.{is, swapped, brought}
use Rattle.std.specs.Prelude.{ℕ}
use mathlib.Core.Path.{refl, sym, ap, ◌∙◌}
use borrow.Author.Tests.{eq-eqb}
use native.Mathlib.Omega.{arith}
use Rattle.columns.proofs.bring_row.Goals as goal

pub unwrap-k-requires : goal.unwrap-k-requires
unwrap-k-requires c =
    rw c.place.ensures (first_some (is c.args.x) c.args.e.now (first_in (is c.args.x) c.args.e.now c.args.x c.requires (eq-eqb c.args.x c.args.x refl)))

pub swap-requires : goal.swap-requires
swap-requires c = let f = first_found (is c.args.x) c.args.e.now c.unwrap-k.result (sym c.unwrap-k.ensures ∙ c.place.ensures) in (omega (arith, f.1), f.1)

pub returns : goal.returns
returns c =
    let f = first_found (is c.args.x) c.args.e.now c.unwrap-k.result (sym c.unwrap-k.ensures ∙ c.place.ensures) in
    c.swap.ensures ∙ ap (λ (k : ℕ). swapped 0 k c.args.e.now) f.0 ∙ brought c.args.x c.args.e.now c.requires
