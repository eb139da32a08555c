use Rattle.std.specs.Prelude.{◌≡◌, Some, None, Err}
use Rattle.std.proofs.Common.{refl, sym, subst, ◌∙◌, arith}
use Rattle.stepping.specs.Turns.{Turned}
use Rattle.firstphase.specs.Ended.{loop_start, step_clear, loop_next, ended-none, ended_spent, sum_fits, Outcome}
use Rattle.firstphase.proofs.steps.Goals as goal

pub loop-st-init : goal.loop-st-init
loop-st-init c = record { same_room = refl; looping = loop_start _ _ c.requires.i_value.0 c.requires.i_value.2 c.requires.standing }

pub overflow_add-st : goal.overflow_add-st
overflow_add-st c = omega (arith, sum_fits c.requires.given c.loop-st.invariant.looping)

pub returns-in_err-next-clause-outcome : goal.returns-in_err-next-clause-outcome
returns-in_err-next-clause-outcome c =
    let e : c.turn-turned.result ≡ None = grind arith in
    let q : c.from_residual.result ≡ Err (record {}) = grind arith in
    let t = subst (Turned _ _ _ _ _ _ _ _ _ _) e c.turn-turned.ensures.turned in
    subst (Outcome _ _ _ _ _ _ _ _) (sym q) (ended-none c.requires.given c.loop-st.invariant.looping t c.loop-st-test.true)

pub clear_step-requires-clause-clear : goal.clear_step-requires-clause-clear
clear_step-requires-clause-clear c =
    let e : c.turn-turned.result ≡ Some c.in_ok-next.next = grind arith in
    let t = subst (Turned _ _ _ _ _ _ _ _ _ _) e c.turn-turned.ensures.turned in
    step_clear c.requires.given c.loop-st.invariant.looping t.0 t.1 c.requires.i_value.1

pub loop-st-preserved : goal.loop-st-preserved
loop-st-preserved c =
    let e : c.turn-turned.result ≡ Some c.in_ok-next.next = grind arith in
    let t = subst (Turned _ _ _ _ _ _ _ _ _ _) e c.turn-turned.ensures.turned in
    record {
      same_room = c.clear_step.ensures.same_room ∙ c.loop-st.invariant.same_room;
      looping = loop_next c.requires.given c.loop-st.invariant.looping t.0 t.1 t.2.0 t.2.1 c.clear_step.ensures.listed c.turn-turned.auto.sizes;
    }

pub returns-clause-outcome : goal.returns-clause-outcome
returns-clause-outcome c = ended_spent c.requires.given c.loop-st.invariant.looping c.loop-st-test.false
