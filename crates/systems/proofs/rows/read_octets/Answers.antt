-- `rows::read_octets` meets its contract: a row that the case may have, that is good and has room is put after the others. Assumes nothing.
use native.Mathlib.Omega.{arith}
use Prim.Native.Nat.{ℕ, ◌+◌, ◌-◌, ◌*◌, ◌≤◌}
use mathlib.Core.Path.{◌≡◌, sym, ap, ◌∙◌}
use lib.ListN.{length}
use borrow.Author.Tests.{not-true, not-false}
use Rattle.systems.specs.Digits.{bytes_are}
use Rattle.systems.specs.Lined.{row-none, row-some, part_long, placed-full, placed_bad, placed_in, only_not, only_so}
use Rattle.systems.proofs.rows.read_octets.Goals as goal

pub returns-then-not-s : goal.returns-then-not-s
returns-then-not-s c =
    let a = c.args in
    only_not a.s.octet a.octets.now _ (not-true _ c.if-not-s.true)

pub returns-then-s-eq0 : goal.returns-then-s-eq0
returns-then-s-eq0 c =
    let a = c.args in
    row-none a.s a.octets.now _ c.if-s-eq0.true
    ∙ only_so a.s.octet a.octets.now _ (not-false _ c.if-not-s.false)

pub returns-then-saturating_sub-s : goal.returns-then-saturating_sub-s
returns-then-saturating_sub-s c =
    let a = c.args in
    placed-full _ _ _ _ _ _ (rw c.saturating_sub.ensures at c.if-saturating_sub-s.true) ∙ row-some a.s a.octets.now _ c.if-s-eq0.false
    ∙ only_so a.s.octet a.octets.now _ (not-false _ c.if-not-s.false)

pub returns-then-not-is_bytes : goal.returns-then-not-is_bytes
returns-then-not-is_bytes c =
    let a = c.args in
    placed_bad _ _ _ _ _ _ (rw c.saturating_sub.ensures at c.if-saturating_sub-s.false) (sym c.is_bytes.ensures ∙ not-true _ c.if-not-is_bytes.true-raw) ∙ row-some a.s a.octets.now _ c.if-s-eq0.false
    ∙ only_so a.s.octet a.octets.now _ (not-false _ c.if-not-s.false)

pub fill_bytes-requires : goal.fill_bytes-requires
fill_bytes-requires c =
    let a = c.args in
    let s = c.args.s in
    let h : s.l ≤ length a.octets.now - s.octets = rw c.saturating_sub.ensures at c.if-saturating_sub-s.false in
    let e : s.octets + s.l - s.octets ≡ s.l = omega arith in
    let p = part_long a.octets.now s.octets s.l _ h e in
    let g = bytes_are s.l a.digits.now (sym c.is_bytes.ensures ∙ not-false _ c.if-not-is_bytes.false-raw) in
    (g.0, g.1 ∙ ap (λ (n : ℕ). 2 * n) (sym p))

pub returns : goal.returns
returns c =
    let a = c.args in
    let s = c.args.s in
    let h : s.l ≤ length a.octets.now - s.octets = rw c.saturating_sub.ensures at c.if-saturating_sub-s.false in
    let e : s.octets + s.l - s.octets ≡ s.l = omega arith in
    placed_in _ _ _ _ _ _ h (sym c.is_bytes.ensures ∙ not-false _ c.if-not-is_bytes.false-raw) e c.fill_bytes.ensures ∙ row-some s a.octets.now _ c.if-s-eq0.false
    ∙ only_so a.s.octet a.octets.now _ (not-false _ c.if-not-s.false)
