-- `octet::Octet::div` meets its contract: exponents subtract. Assumes nothing.
use mathlib.Core.Path.{sym, ap₂, ◌∙◌}
use Prim.Native.Nat.{◌+◌, ◌-◌}
use native.Mathlib.Omega.{arith}
use Rattle.octet.specs.Octet.{power}
use Rattle.octet.specs.Answers.{divided_zero, divided_value}
use Rattle.octet.specs.Powers.{quotient-zero}
use Rattle.octet.proofs.Powers.{quotient-powers}
use Rattle.octet.proofs.Octet.div.Goals as goal

pub returns-then-b-eq0 : goal.returns-then-b-eq0
returns-then-b-eq0 c = divided_zero c.if-b-eq0.true

pub returns-then-a-eq0 : goal.returns-then-a-eq0
returns-then-a-eq0 c = divided_value (omega arith) (rw c.if-a-eq0.true (sym (quotient-zero _)))

pub returns : goal.returns
returns c = let x = c.log in
    let y = c.log-2 in
    divided_value (omega arith)
    (c.exp.ensures
    ∙ ap₂ (λ i j. power 2 (255 + i - j)) c.from.ensures c.from-2.ensures
    ∙ quotient-powers _ _ x.result y.result (omega arith) (omega arith) (omega arith) x.ensures.1 y.ensures.1 (omega arith))
