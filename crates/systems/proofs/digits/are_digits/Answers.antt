-- `digits::are_digits` meets its contract: the library's test is the definition. Assumes nothing.
use Rattle.std.proofs.Common.{ℕ, leb, sym, ◌∙◌, rules, tests}
use Rattle.std.proofs.lemmas.Iterator.{YieldsList-from_slice}
use Rattle.std.proofs.lemmas.Iterator.Search.{all_from_yields_List}
use Rattle.systems.specs.Digits.{nibble_of, digits_is}
use Rattle.systems.proofs.digits.are_digits.Goals as goal

pub returns : goal.returns
returns c =
    all_from_yields_List (λ (c : ℕ). leb (nibble_of c) 15) _ _ c.all.result c.all.ensures.ran (YieldsList-from_slice c.args.digits.now cc) (λ x b q k. search (rules, tests))
    ∙ sym (digits_is c.args.digits.now)
