-- `octet::Octet::mul` meets its contract: exponents add. Assumes nothing.
use mathlib.Core.Path.{sym, ap₂, ◌∙◌}
use Prim.Native.Nat.{◌+◌}
use Rattle.octet.specs.Octet.{mul, power}
use Rattle.octet.specs.Products.{mul-zero_l, mul-zero-r}
use Rattle.octet.specs.Powers.{power-add}
use Rattle.octet.proofs.Octet.mul.Goals as goal
use Rattle.octet.proofs.Octet.mul.Goals.{then-a-eq0-via-then-a-eq0, then-a-eq0-via-else-a-eq0+then-b-eq0}

pub returns-then-a-eq0 : goal.returns-then-a-eq0
returns-then-a-eq0 c =
    elim c.then-a-eq0.branch [
      | then-a-eq0-via-then-a-eq0 w ↦ rw w.if-a-eq0.true (sym (mul-zero_l _))
      | then-a-eq0-via-else-a-eq0+then-b-eq0 w ↦ rw w.if-b-eq0.true (sym (mul-zero-r _))
    ]

pub returns : goal.returns
returns c =
    c.exp.ensures ∙ ap₂ (λ i j. power 2 (i + j)) c.from.ensures c.from-2.ensures
    ∙ power-add 2 c.log.result c.log-2.result ∙ ap₂ mul c.log.ensures.1 c.log-2.ensures.1
