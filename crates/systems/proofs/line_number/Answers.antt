-- `systems::line_number` meets its contract: the library's count is the definition. Assumes nothing.
use Rattle.std.proofs.Common.{◌≡◌, ℕ, ◌+◌, cond, eqb, take, ap, sym, refl, ◌∙◌, arith, rules}
use Rattle.std.specs.List.{count_by}
use Rattle.std.proofs.lemmas.List.{take_min}
use Rattle.std.proofs.lemmas.List.Sums.{count_by-le-length}
use Rattle.std.proofs.lemmas.Iterator.{YieldsList-from_slice, YieldsList-from_map}
use Rattle.std.proofs.lemmas.Iterator.Consumers.{fits_by_from_yields_list}
use Rattle.systems.specs.Text.{line_number_of, newlines-count}
use Rattle.systems.proofs.line_number.Goals as goal

pub sum-requires-clause-fits : goal.sum-requires-clause-fits
sum-requires-clause-fits c =
    let t = take c.min.result c.args.text.now in
    fits_by_from_yields_list (λ x. cond (eqb x 10) 1 0) t _ _
    (YieldsList-from_map _ (λ x. cond (eqb x 10) 1 0) (YieldsList-from_slice t cc) refl (λ x r q k. search rules))
    (omega (arith, count_by-le-length (λ x. eqb x 10) t, c.iter.ensures.bound))

pub overflow_add-result : goal.overflow_add-result
overflow_add-result c =
    let t = take c.min.result c.args.text.now in
    let e : c.sum.result ≡ count_by (λ (x : ℕ). eqb x 10) t = search rules in
    omega (arith, e, count_by-le-length (λ x. eqb x 10) t, c.iter.ensures.bound)

pub returns : goal.returns
unfolding line_number_of
returns c =
    let t = c.args.text.now in
    let e : c.sum.result ≡ count_by (λ (x : ℕ). eqb x 10) (take c.min.result t) = search rules in
    let f : take c.min.result t ≡ take c.args.place t = rw c.min.ensures (take_min c.args.place t) in
    ap (λ (n : ℕ). 1 + n) (e ∙ ap (count_by (λ (x : ℕ). eqb x 10)) f ∙ sym (newlines-count _))
