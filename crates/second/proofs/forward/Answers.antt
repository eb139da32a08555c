-- `second::forward` meets its contract. Over columns: the state is the definition's after as many turns, for any numbers of the columns. Over rows: the rows
-- passed have a zero in the column. Assumes nothing.
use mathlib.Core.Path.{refl, sym, ◌∙◌}
use mathlib.Core.List.{[]}
use Prim.Native.Nat.{◌-◌, ◌≤◌}
use lib.ListN.{length}
use Rattle.second.specs.Store.{matrix}
use Rattle.second.specs.Clear.{performed_fair}
use Rattle.second.specs.Forward.{search_here, search_none, going_start, going_next, going_chosen, going_done, going_stuck}
use native.Mathlib.Omega.{arith}
use borrow.Author.Rules.{rules}
use Rattle.second.proofs.forward.Goals as goal

pub loop-q-init : goal.loop-q-init
loop-q-init c = record { same_room = refl; ready = c.requires; going = λ cols. going_start c.requires.rooms.store.from }

pub loop-q-preserved : goal.loop-q-preserved
loop-q-preserved c =
    let a = c.args in
    let o = c.loop-q in
    let p = c.rows in
    let t = c.pivot_step in
    let n = o.invariant.ready.order.size in
    let wide : a.area.l ≤ a.area.m = o.invariant.ready.wide in
    let e = sym p.invariant.2 ∙ search_here (matrix a.area o.work) (o.q - a.area.i) o.d p.p (omega arith) (λ z. c.if-read-ne0.true (c.read.ensures ∙ z)) in
    record {
      same_room = t.ensures.same_room ∙ o.invariant.same_room;
      ready = record {
        rooms = search rules;
        order = t.ensures.stepped.rows;
        wide = wide;
        fair = performed_fair t.ensures.stepped.done o.invariant.ready.fair;
      };
      going = λ cols. going_next (o.invariant.going cols) (omega arith) c.loop-q-test.true (omega arith) e t.ensures.stepped;
    }

pub returns-after-loop-q-clause-eliminated : goal.returns-after-loop-q-clause-eliminated
returns-after-loop-q-clause-eliminated c =
    let a = c.args in
    let o = c.loop-q in
    let n : a.area.i ≤ length a.d.now = omega (arith, c.requires.order.size, c.requires.wide, c.requires.rooms.store.from) in
    record {
      order = o.invariant.ready.order;
      chosen = going_chosen (o.invariant.going []) (omega arith) n;
      is = λ cols e. going_done (o.invariant.going cols) (omega arith) n e c.loop-q-test.false;
    }

pub returns-then-p-area-clause-eliminated : goal.returns-then-p-area-clause-eliminated
returns-then-p-area-clause-eliminated c =
    let a = c.args in
    let o = c.loop-q in
    let p = c.rows in
    let n : a.area.i ≤ length a.d.now = omega (arith, c.requires.order.size, c.requires.wide, c.requires.rooms.store.from) in
    record {
      order = o.invariant.ready.order;
      chosen = going_chosen (o.invariant.going []) (omega arith) n;
      is =
          λ cols e. going_stuck (o.invariant.going cols) (omega arith) n e c.loop-q-test.true
          (sym p.invariant.2 ∙ search_none (matrix a.area o.work) (o.q - a.area.i) o.d p.p (omega (arith, c.if-p-area.true, o.invariant.ready.order.size)));
    }
