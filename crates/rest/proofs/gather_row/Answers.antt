-- `rest::gather_row` meets its contract: the row has what it gets up to a place. Assumes nothing.
use Rattle.std.proofs.lemmas.List.{length_push}
use Rattle.std.proofs.lemmas.Slice.Zip.{zip_turn, zip_end}
use Rattle.std.specs.Slice.Iter.{iter_rest}
use Rattle.std.specs.Iterator.Adapters.{zip_first, zip_second}
use mathlib.Core.Path.{◌≡◌, ◌∙◌}
use native.Mathlib.Omega.{arith}
use borrow.Author.Rules.{rules}
use Rattle.rest.specs.Gather.{passing_next, passing_end}
use Rattle.rest.proofs.gather_row.Goals as goal

pub loop-q-preserved : goal.loop-q-preserved
loop-q-preserved c =
    let cs : iter_rest (zip_first c.into_iter-q-iterator.result) ≡ c.args.cs.now = search rules in
    let ys : iter_rest (zip_second c.into_iter-q-iterator.result) ≡ c.args.ys.now = search rules in
    let t = zip_turn _ _ c.loop-q.yielded _ _ c.next.new.self _ cs ys c.loop-q.yielded_by _ c.in-Some.is c.next.ensures.steps in
    record {
      same_room = c.gather_one.ensures.same_room ∙ c.loop-q.invariant.same_room;
      recorded = rw length_push (passing_next c.loop-q.invariant.recorded t.0 (rw (t.2 0, t.3 0) at c.gather_one.ensures.recorded));
    }

pub returns-clause-recorded : goal.returns-clause-recorded
returns-clause-recorded c =
    let cs : iter_rest (zip_first c.into_iter-q-iterator.result) ≡ c.args.cs.now = search rules in
    let ys : iter_rest (zip_second c.into_iter-q-iterator.result) ≡ c.args.ys.now = search rules in
    let t = zip_end _ _ c.loop-q.yielded _ _ c.next.new.self _ cs ys c.loop-q.yielded_by c.in-None.is c.next.ensures.steps in
    passing_end c.loop-q.invariant.recorded (omega (arith, t, c.requires.same))
