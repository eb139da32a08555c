-- `clear::words` meets its contract. Assumes nothing.
use mathlib.Core.Path.{◌≡◌, ap, ◌∙◌}
use mathlib.Core.List.{List, [], ◌++◌, append-nil}
use Prim.Native.Nat.{ℕ, ◌-◌, ◌≤◌}
use native.Mathlib.Omega.{arith}
use borrow.Author.Rules.{rules}
use borrow.Rule.Slice.PartMut.{put_mid}
use Rattle.std.specs.Prelude.{replicate}
use Rattle.std.proofs.Common.{drop_of_length-le}
use Rattle.std.proofs.Math.ListN.{length, take, drop, length-drop}
use Rattle.call.specs.Over.{keep, keep_parts}
use Rattle.call.proofs.clear.words.Goals as goal

filled : (n : ℕ) (l ys : List ℕ) → n ≤ length l → ys ≡ replicate (length l - n) 0 → put_mid n (length l - n) l ys ≡ keep n l
filled n l ys h e =
    let k = length l - n in
    let z : drop k (drop n l) ≡ [] = drop_of_length-le (drop n l) (rw length-drop (omega arith)) in
    ap (put_mid n k l) e ∙ ap (λ (q : List ℕ). take n l ++ (replicate k 0 ++ q)) z
    ∙ ap (λ (q : List ℕ). take n l ++ q) (append-nil (replicate k 0)) ∙ keep_parts n k l (omega arith)

pub returns : goal.returns
returns c =
    filled _ _ _ c.requires (c.fill.ensures.after (λ y h. search rules) ∙ ap (λ k. replicate k 0) (search rules))
