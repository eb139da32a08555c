-- `rows::read_slab` meets its contract: bytes that are due, are good and have room are put at the front. Assumes nothing.
use native.Mathlib.Omega.{arith}
use Prim.Native.Nat.{ℕ, ◌-◌, ◌*◌, ◌/◌, ◌≤◌}
use mathlib.Core.Path.{refl, sym, ap, ◌∙◌}
use lib.ListN.{length}
use borrow.Author.Tests.{not-true, not-false}
use Rattle.systems.specs.Digits.{bytes_are}
use Rattle.systems.specs.Lined.{part_long, placed-full, placed_bad, placed_in, only_not, only_so}
use Rattle.systems.proofs.rows.read_slab.Goals as goal

pub returns-then-not-s : goal.returns-then-not-s
returns-then-not-s c =
    let a = c.args in
    only_not a.s.due a.slab.now _ (not-true _ c.if-not-s.true)

pub returns-then-slab-n : goal.returns-then-slab-n
returns-then-slab-n c =
    let a = c.args in
    placed-full _ 0 (length a.digits.now / 2) _ a.slab.now _ (omega arith) ∙ only_so a.s.due a.slab.now _ (not-false _ c.if-not-s.false)

pub returns-then-not-is_bytes : goal.returns-then-not-is_bytes
returns-then-not-is_bytes c =
    let a = c.args in
    placed_bad _ 0 (length a.digits.now / 2) _ a.slab.now _ (omega arith) (sym c.is_bytes.ensures ∙ not-true _ c.if-not-is_bytes.true-raw)
    ∙ only_so a.s.due a.slab.now _ (not-false _ c.if-not-s.false)

pub fill_bytes-requires : goal.fill_bytes-requires
fill_bytes-requires c =
    let a = c.args in
    let n = length a.digits.now / 2 in
    let h : n ≤ length a.slab.now - 0 = omega arith in
    let p = part_long a.slab.now 0 n _ h refl in
    let g = bytes_are n a.digits.now (sym c.is_bytes.ensures ∙ not-false _ c.if-not-is_bytes.false-raw) in
    (g.0, g.1 ∙ ap (λ (n : ℕ). 2 * n) (sym p))

pub returns : goal.returns
returns c =
    let a = c.args in
    let n = length a.digits.now / 2 in
    let h : n ≤ length a.slab.now - 0 = omega arith in
    placed_in _ 0 n _ a.slab.now _ h (sym c.is_bytes.ensures ∙ not-false _ c.if-not-is_bytes.false-raw) refl c.fill_bytes.ensures
    ∙ only_so a.s.due a.slab.now _ (not-false _ c.if-not-s.false)
