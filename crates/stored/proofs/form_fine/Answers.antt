-- `stored::form_fine` meets its contract: past its tests a form is well made just where its unused bytes are zeros. Assumes nothing.
use mathlib.Core.Path.{sym, ap, ◌∙◌}
use native.Mathlib.Omega.{arith}
use Rattle.stored.specs.Form.{unused_fine}
use Rattle.stored.specs.Formed.{formed_rest, flag_at, size-at}
use Rattle.stored.proofs.form_fine.Goals as goal

pub returns-clause-fine : goal.returns-clause-fine
returns-clause-fine c =
    let b = c.args.form.now in
    let n = c.number4-n.ensures.0 in
    let s = size-at b _ _ _ n c.number2-l.ensures.0 c.order_size.ensures.0 in
    let f = flag_at b _ n in
    c.unused_fine.ensures ∙ ap (unused_fine b 13) n
    ∙ sym (formed_rest b c.if-size-lt14.false (omega (arith, c.number4.ensures.0, c.if-number4-size.false)) c.if-form-ne1.false (omega arith) (c.if-size-at-2.false ∙ s))
