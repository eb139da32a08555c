-- `stored::write` meets its contract: a list that passed its checks is laid out as its form, and a refusal leaves the room. Assumes nothing.
use Prim.Native.Nat.{ℕ}
use mathlib.Core.Path.{refl, sym, ap, ◌∙◌}
use mathlib.Core.List.{List, []}
use Rattle.std.specs.Prelude.{is_some, unwrap_or}
use Rattle.std.specs.Option.{option_copied}
use lib.ListN.{length}
use Rattle.std.proofs.lemmas.Result.{err_from_is_err_and}
use Rattle.stored.specs.Bytes.{padded}
use Rattle.stored.specs.Answers.{write_as, write_met}
use Rattle.stored.specs.Accepted.{judged_accepts, done-size, done_write}
use Rattle.stored.specs.Laid.{laid_done, length-done}
use Rattle.stored.proofs.write.Goals as goal

pub returns-in_err-size : goal.returns-in_err-size
returns-in_err-size c =
    let a = c.args in
    let o = option_copied a.order in
    let p = err_from_is_err_and c.from_residual.result c.from_residual.ensures.1 in
    rw (p.1, p.2) (write_met (write_as a.m a.l a.list.now (is_some o) (unwrap_or o []) a.out.now c.in_err-size.ensures.answer refl))

pub fill_form-requires : goal.fill_form-requires
fill_form-requires c =
    let a = c.args in
    let o = option_copied a.order in
    let d = sym c.in_ok-size.ensures.answer in
    let A = judged_accepts a.m a.l a.list.now (is_some o) (unwrap_or o []) (length a.out.now) _ d in
    let e = done-size a.m a.l a.list.now (is_some o) (unwrap_or o []) (length a.out.now) _ d in
    length-done a.m a.l a.list.now o (length a.out.now) A _ e _ c.head-first.ensures

pub returns : goal.returns
returns c =
    let a = c.args in
    let o = option_copied a.order in
    let d = sym c.in_ok-size.ensures.answer in
    let A = judged_accepts a.m a.l a.list.now (is_some o) (unwrap_or o []) (length a.out.now) _ d in
    let e = done-size a.m a.l a.list.now (is_some o) (unwrap_or o []) (length a.out.now) _ d in
    write_met
    (done_write a.m a.l a.list.now (is_some o) (unwrap_or o []) (length a.out.now) a.out.now _ _ d
    (c.fill_form.ensures ∙ ap (λ (x : List ℕ). padded x (length a.out.now)) (laid_done a.m a.l a.list.now o (length a.out.now) A _ e _ c.head-first.ensures)))
