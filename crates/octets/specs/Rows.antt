-- Rows of octets, entry by entry, and what the operations on them promise.
--   add_row d s, scale_row k d, fma_row d s k   d + s, k d, d + k s
--   Added, Scaled, Fused                     what `add`, `scale` and `fma` make of the row d
-- A row added to a longer one counts as followed by zeros, so each result is as long as its first row.
-- Assumes nothing.
use Rattle.std.specs.Prelude.{◌≡◌, List, [], ◌∷◌, map, ℕ}
use Rattle.octet.specs.Octet.{add, mul}

-- d + s
unfoldable pub add_row : List ℕ → List ℕ → List ℕ
add_row [] s = []
add_row (x ∷ d) [] = x ∷ d
add_row (x ∷ d) (y ∷ s) = add x y ∷ add_row d s

-- k d
unfoldable pub scale_row : ℕ → List ℕ → List ℕ
scale_row k d = map (mul k) d

-- d + k s
unfoldable pub fma_row : List ℕ → List ℕ → ℕ → List ℕ
fma_row d s k = add_row d (scale_row k s)

-- e is what `add` makes of d
pub record Added (d s e : List ℕ) : Type 0 where
  pub is : e ≡ add_row d s

-- e is what `scale` makes of d
pub record Scaled (d : List ℕ) (k : ℕ) (e : List ℕ) : Type 0 where
  pub is : e ≡ scale_row k d

-- e is what `fma` makes of d
pub record Fused (d s : List ℕ) (k : ℕ) (e : List ℕ) : Type 0 where
  pub is : e ≡ fma_row d s k
