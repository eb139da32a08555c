-- What the binary matrix holds in the octet rows is ignored.
--   SameOutside      two binary matrices have one length, and are equal before the octet rows and after them
--   call_ignores     a call with the one is the call with the other: its answer, and every byte that it leaves
-- Assumes nothing.
use Rattle.std.specs.Prelude.{◌≡◌, refl, false, ◌&&◌, length, take, drop, Ok, Err}
use Rattle.std.proofs.Math.Path.{ap, ap₂}
use mathlib.Core.List.{List}
use Prim.Native.Nat.{ℕ, ◌+◌, ◌*◌}
use Rattle.params.specs.Params.{params_of, Parameters}
use Rattle.params.specs.declared.Sizes.{Sizes}
use Rattle.phases.specs.Run.{answer, defined}
use Rattle.phases.specs.Combined.{combined_ignores}
use Rattle.call.specs.Call.{Octets, octets_in, rows_in, Buffers, bitwise, entered, shape_of, told, checked, counted, call_of}

pub record SameOutside (g : Sizes) (h : ℕ) (bits bits' : List ℕ) : Type 0 where
  pub long : length bits ≡ length bits'
  pub before : take (g.s * g.l) bits ≡ take (g.s * g.l) bits'
  pub after : drop ((g.s + h) * g.l) bits ≡ drop ((g.s + h) * g.l) bits'

module _ (g : Sizes) (h m t : ℕ) (bits bits' octets : List ℕ) (b : Buffers) (same : SameOutside g h bits bits') where
  entered_same : entered g.l g.s h bits ≡ entered g.l g.s h bits'
  unfolding entered
  entered_same = ap₂ (λ (x y : List ℕ). bitwise x && bitwise y) same.before same.after

  told_same : (room : ℕ) → told (shape_of g h m) bits octets room ≡ told (shape_of g h m) bits' octets room
  unfolding told
  told_same room =
      ap (λ (A : ℕ → ℕ → ℕ). answer room (defined (shape_of g h m) A false)) (combined_ignores (shape_of g h m) bits bits' octets same.before same.after)

  checked_ignores : checked g h m t bits octets b ≡ checked g h m t bits' octets b
  unfolding checked
  checked_ignores = rw (same.long, entered_same, told_same (length b.list))

pub call_ignores : (k m t : ℕ) (bits bits' : List ℕ) (o : Octets) (b : Buffers)
    → ((g : Sizes) → params_of k ≡ Ok g → SameOutside g (rows_in o g) bits bits') → call_of k m t bits o b ≡ call_of k m t bits' o b
unfolding call_of
call_ignores k m t bits bits' o b = by-table (params_of k)
  where
    by-table : (p : Parameters) → ((g : Sizes) → p ≡ Ok g → SameOutside g (rows_in o g) bits bits') → counted p m t bits o b ≡ counted p m t bits' o b
    by-table (Ok g) same = checked_ignores g (rows_in o g) m t bits bits' (octets_in o) b (same g refl)
    by-table (Err _) same = refl
