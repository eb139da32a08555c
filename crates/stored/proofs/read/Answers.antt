-- `stored::read` meets its contract: a form that is kept fits the rooms, and a refusal leaves them. Assumes nothing.
use Prim.Native.Nat.{ℕ}
use mathlib.Core.Path.{refl, sym, ap, ◌∙◌}
use mathlib.Core.List.{List}
use lib.ListN.{length}
use Rattle.std.proofs.lemmas.Result.{err_from_is_err_and}
use Rattle.loops.specs.Part.{rest_part}
use Rattle.stored.specs.Bytes.{padded}
use Rattle.stored.specs.Answers.{read_as, read_met}
use Rattle.stored.specs.Accepted.{judged_accepted, kept_read}
use Rattle.stored.proofs.read.Goals as goal

pub returns-in_err-kept : goal.returns-in_err-kept
returns-in_err-kept c =
    let a = c.args in
    let p = err_from_is_err_and c.from_residual.result c.from_residual.ensures.1 in
    rw (p.1, p.2) (read_met (read_as a.form.now a.list.now a.order.now c.in_err-kept.ensures.answer refl))

pub fill_order-requires : goal.fill_order-requires
fill_order-requires c = rw (rest_part c.args.form.now _) c.in_ok-kept.ensures.placed.order

pub returns : goal.returns
returns c =
    let a = c.args in
    read_met
    (kept_read a.form.now a.list.now a.order.now _ _ _ (judged_accepted a.form.now (length a.list.now) (length a.order.now) _ (sym c.in_ok-kept.ensures.answer)) c.fill_list.ensures
    (c.fill_order.ensures ∙ ap (λ (x : List ℕ). padded x (length a.order.now)) (rest_part a.form.now _)))
