-- `words::read_digits` meets its contract: what is left says the same number. Assumes nothing.
use Rattle.std.proofs.Common.{◌≡◌, ℕ, ◌+◌, Some, ap, sym, ◌∙◌, length, arith}
use Rattle.systems.specs.Text.{digits_space, digits_bad, digits_next, digits_over}
use Rattle.systems.proofs.words.read_digits.Goals as goal

pub returns-in-32 : goal.returns-in-32
returns-in-32 c = sym (c.loop-i.invariant.1 ∙ digits_space _ _ _ c.loop-i-test.true c.in-32.is)

pub returns-in_default : goal.returns-in_default
returns-in_default c = sym (c.loop-i.invariant.1 ∙ digits_bad _ _ _ c.loop-i-test.true (λ e. omega arith) (λ a b. omega arith))

pub returns-in_default-2 : goal.returns-in_default-2
returns-in_default-2 c = sym (c.loop-i.invariant.1 ∙ digits_bad _ _ _ c.loop-i-test.true (λ e. omega arith) (λ a b. omega arith))

pub returns-in_default-3 : goal.returns-in_default-3
returns-in_default-3 c = sym (c.loop-i.invariant.1 ∙ digits_bad _ _ _ c.loop-i-test.true (λ e. omega arith) (λ a b. omega arith))

pub loop-i-preserved : goal.loop-i-preserved
loop-i-preserved c =
    let e = c.loop-i.invariant.1 ∙ digits_next _ _ _ c.loop-i-test.true (λ e. omega arith) (omega arith) (omega arith) c.if-value-lt1000000.true in
    (omega (arith, c.from.ensures), rw c.from.ensures e)

pub returns : goal.returns
returns c =
    let e : c.loop-i.i ≡ length c.args.line.now = omega arith in
    sym (c.loop-i.invariant.1 ∙ digits_over _ _ _ c.loop-i-test.false ∙ ap (λ (n : ℕ). Some (c.loop-i.value, n + 1)) e)
