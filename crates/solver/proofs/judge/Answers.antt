-- `judge` meets its contract. Assumes nothing.
use mathlib.Core.Path.{sym, ◌∙◌}
use borrow.Author.Tests.{not-true, not-false}
use Rattle.std.proofs.lemmas.Result.{err_from_is_err_and}
use Rattle.solver.specs.Checked.{shaped_facts, few_octets, entering}
use Rattle.solver.specs.Judge.{tabled_is, judge_count, judge_shape, judge_entry, judge_room, judge_taken, rooms_tell}
use Rattle.solver.proofs.judge.Goals as goal

pub returns-in_err-g : goal.returns-in_err-g
returns-in_err-g c =
    let p = err_from_is_err_and c.from_residual.result c.from_residual.ensures.1 in
    rw (p.1, p.2) (judge_count _ _ _ _ _ _ (sym c.in_err-g.ensures.is))

pub is_shaped-requires : goal.is_shaped-requires
is_shaped-requires c = few_octets (tabled_is _ _ _ (sym c.in_ok-g.ensures.is) c.if_given-h.ensures)

pub returns-then-not-is_shaped : goal.returns-then-not-is_shaped
returns-then-not-is_shaped c = judge_shape _ _ _ _ _ _ (sym c.in_ok-g.ensures.is) c.if_given-h.ensures (sym c.is_shaped.ensures ∙ not-true _ c.if-not-is_shaped.true-raw)

pub is_entered-requires : goal.is_entered-requires
is_entered-requires c = entering (tabled_is _ _ _ (sym c.in_ok-g.ensures.is) c.if_given-h.ensures) c.args.bits.now (shaped_facts _ _ _ _ _ _ _ _ (sym c.is_shaped.ensures ∙ not-false _ c.if-not-is_shaped.false-raw))

pub returns-then-not-is_entered : goal.returns-then-not-is_entered
returns-then-not-is_entered c = judge_entry _ _ _ _ _ _ (sym c.in_ok-g.ensures.is) c.if_given-h.ensures (sym c.is_shaped.ensures ∙ not-false _ c.if-not-is_shaped.false-raw) (sym c.is_entered.ensures ∙ not-true _ c.if-not-is_entered.true-raw)

pub rooms_for-requires : goal.rooms_for-requires
rooms_for-requires c = ((shaped_facts _ _ _ _ _ _ _ _ (sym c.is_shaped.ensures ∙ not-false _ c.if-not-is_shaped.false-raw)).few, (tabled_is _ _ _ (sym c.in_ok-g.ensures.is) c.if_given-h.ensures).most)

pub returns-then-not-has_room : goal.returns-then-not-has_room
returns-then-not-has_room c = judge_room _ _ _ _ _ _ (sym c.in_ok-g.ensures.is) c.if_given-h.ensures (sym c.is_shaped.ensures ∙ not-false _ c.if-not-is_shaped.false-raw) (sym c.is_entered.ensures ∙ not-false _ c.if-not-is_entered.false-raw) (rooms_tell _ _ c.args.n c.rooms_for.ensures c.has_room.ensures (not-true _ c.if-not-has_room.true-raw))

pub returns : goal.returns
returns c = judge_taken _ _ _ _ _ _ (sym c.in_ok-g.ensures.is) c.if_given-h.ensures (sym c.is_shaped.ensures ∙ not-false _ c.if-not-is_shaped.false-raw) (sym c.is_entered.ensures ∙ not-false _ c.if-not-is_entered.false-raw) (rooms_tell _ _ c.args.n c.rooms_for.ensures c.has_room.ensures (not-false _ c.if-not-has_room.false-raw))
