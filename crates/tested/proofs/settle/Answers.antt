-- `settle` meets its contract. Assumes nothing.
use mathlib.Core.Path.{sym, ap, ◌∙◌, subst}
use lib.ListN.{length, take}
use Rattle.oplist.specs.Listed.{ops_of}
use Rattle.algebra.specs.Flat.{acts}
use Rattle.tested.specs.Parts.{Settling}
use Prim.Native.Nat.{ℕ, ◌≤◌}
use borrow.Author.Rules.{rules}
use Rattle.call.specs.Over.{keep}
use Rattle.tested.specs.Settle.{settled_slab}
use Rattle.tested.proofs.settle.Goals as goal

pub slice_bounds-replay-end : goal.slice_bounds-replay-end
slice_bounds-replay-end c =
    let h : c.operations-n.result ≤ length c.args.list.now =
    subst (λ (k : ℕ). k ≤ length c.args.list.now) (sym c.operations-n.ensures) c.requires.within in
    search rules

pub words-requires : goal.words-requires
words-requires c = subst (λ (k : ℕ). k ≤ length c.args.list.now) (sym c.operations-n.ensures) c.requires.within

pub returns : goal.returns
returns c =
    let e = c.operations-n.ensures in
    let s : Settling c.args.m c.args.l c.args.t c.operations-n.result c.args.list.now c.args.slab.now =
    subst (λ (k : ℕ). Settling c.args.m c.args.l c.args.t k c.args.list.now c.args.slab.now) (sym e) c.requires in
    record {
      applied = settled_slab s _ c.replay.ensures.is ∙ ap (λ (k : ℕ). acts c.args.t (ops_of (take k c.args.list.now)) c.args.slab.now) e;
      kept = c.words.ensures ∙ ap (λ (k : ℕ). keep k c.args.list.now) e;
    }
