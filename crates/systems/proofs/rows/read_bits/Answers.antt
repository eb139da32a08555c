-- `rows::read_bits` meets its contract: a row that is good and has room is put after the others. Assumes nothing.
use native.Mathlib.Omega.{arith}
use Prim.Native.Nat.{ℕ, ◌+◌, ◌-◌, ◌≤◌}
use mathlib.Core.Path.{◌≡◌, sym, ap, ◌∙◌}
use lib.ListN.{length, take}
use borrow.Author.Tests.{not-true, not-false}
use Rattle.systems.specs.Digits.{bits_in, row_within}
use Rattle.systems.specs.Lined.{row-none, row-some, part_long, placed-full, placed_bad, placed_in}
use Rattle.systems.proofs.rows.read_bits.Goals as goal

pub returns-then-s-eq0 : goal.returns-then-s-eq0
returns-then-s-eq0 c = let a = c.args in row-none a.s a.bits.now _ c.if-s-eq0.true

pub returns-then-saturating_sub-s : goal.returns-then-saturating_sub-s
returns-then-saturating_sub-s c =
    let a = c.args in
    placed-full _ _ _ _ _ _ (rw c.saturating_sub.ensures at c.if-saturating_sub-s.true) ∙ row-some a.s a.bits.now _ c.if-s-eq0.false

pub returns-then-not-is_row : goal.returns-then-not-is_row
returns-then-not-is_row c =
    let a = c.args in
    placed_bad _ _ _ _ _ _ (rw c.saturating_sub.ensures at c.if-saturating_sub-s.false) (sym c.is_row.ensures ∙ not-true _ c.if-not-is_row.true-raw) ∙ row-some a.s a.bits.now _ c.if-s-eq0.false

pub fill_bits-requires : goal.fill_bits-requires
fill_bits-requires c =
    let a = c.args in
    let s = c.args.s in
    let h : s.l ≤ length a.bits.now - s.bits = rw c.saturating_sub.ensures at c.if-saturating_sub-s.false in
    let e : s.bits + s.l - s.bits ≡ s.l = omega arith in
    let p = part_long a.bits.now s.bits s.l _ h e in
    let g = row_within s.l a.digits.now (sym c.is_row.ensures ∙ not-false _ c.if-not-is_row.false-raw) in
    omega (arith, p, g)

pub returns : goal.returns
returns c =
    let a = c.args in
    let s = c.args.s in
    let h : s.l ≤ length a.bits.now - s.bits = rw c.saturating_sub.ensures at c.if-saturating_sub-s.false in
    let e : s.bits + s.l - s.bits ≡ s.l = omega arith in
    placed_in _ _ _ _ _ _ h (sym c.is_row.ensures ∙ not-false _ c.if-not-is_row.false-raw) e (c.fill_bits.ensures ∙ ap (λ (n : ℕ). take n (bits_in a.digits.now)) (part_long a.bits.now s.bits s.l _ h e)) ∙ row-some s a.bits.now _ c.if-s-eq0.false
