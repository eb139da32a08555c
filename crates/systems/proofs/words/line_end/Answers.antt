-- `words::line_end` meets its contract: the first newline's place is the definition. Assumes nothing.
use Rattle.std.proofs.Common.{◌≡◌, ℕ, ◌+◌, ◌-◌, eqb, take, drop, length, ap, ◌∙◌, rules, tests}
use Rattle.std.specs.List.{position}
use Rattle.std.proofs.lemmas.Iterator.{YieldsList-from_slice}
use Rattle.std.proofs.lemmas.Iterator.Search.{position_from_yields_List}
use Rattle.loops.specs.Part.{rest_part}
use Rattle.systems.specs.Text.{end_of, end_found}
use Rattle.systems.proofs.words.line_end.Goals as goal

pub returns : goal.returns
returns c =
    let a = c.args in
    let rest = take (length a.text.now - a.from) (drop a.from a.text.now) in
    let e : c.position.result ≡ position (λ (x : ℕ). eqb x 10) rest =
    position_from_yields_List (λ (x : ℕ). eqb x 10) _ _ c.position.result c.position.ensures.ran (YieldsList-from_slice rest cc) (λ x b q k. search (rules, tests))
    in
    ap (λ (n : ℕ). a.from + n) (rw e at c.unwrap_or.ensures ∙ end_found rest ∙ ap end_of (rest_part a.text.now a.from))
