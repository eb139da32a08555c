-- What a solved call means for lists of bytes: the slab is one list of m rows of w bytes, a set of intermediate symbols one list of n rows of w bytes.
--   tab n f            the list f 0, .., f (n - 1)
--   length-tab, get_or-tab, tab-bytes   it has n entries, entry k is f k, and they are octets where f gives octets
--   through            the rows of a slab that the order names, in its order
--   view-through       byte t of its row j is byte t of the slab row that the order names for j
--   Source             a set of symbols makes the slab: the matrix times the set is the slab
--   Agrees   rows that the order does not name are zeros exactly if some set makes the slab
-- Assumes nothing.
use Rattle.std.specs.Prelude.{◌≡◌, refl, List, [], ◌∷◌, length}
use Rattle.std.proofs.Common.{ap₂, ◌∙◌, not-suc-le-zero, le_of_suc-le-suc, mul-le-mul_right, mod-eq_of_lt, add-zero, arith, lit<}
use Rattle.std.proofs.Math.Path.{ap}
use Prim.Native.Nat.{ℕ, zero, suc, ◌+◌, ◌*◌, ◌/◌, ◌%◌, ◌<◌}
use Rattle.std.proofs.Math.Nat.{mul-add-div_right, div-eq_of_lt, mul-add-mod_self_right}
use Rattle.std.proofs.Math.ListN.{get_or}
use Rattle.octet.specs.Field.{Octets}
use Rattle.oplist.specs.declared.Op.{Op}
use Rattle.algebra.specs.Solve.{Unnamed, Makes, Reduces}
use Rattle.algebra.specs.Flat.{Bytes, view, acts}

abbrev pub tab : ℕ → (ℕ → ℕ) → List ℕ
tab zero f = []
tab (suc n) f = f 0 ∷ tab n (λ k. f (suc k))

pub length-tab : (n : ℕ) (f : ℕ → ℕ) → length (tab n f) ≡ n
length-tab zero f = refl
length-tab (suc n) f = ap suc (length-tab n (λ k. f (suc k)))

pub get_or-tab : (n : ℕ) (f : ℕ → ℕ) (k : ℕ) → k < n → get_or (tab n f) k 0 ≡ f k
get_or-tab zero f k h = absurd (not-suc-le-zero h)
get_or-tab (suc n) f zero h = refl
get_or-tab (suc n) f (suc k) h = get_or-tab n (λ i. f (suc i)) k (le_of_suc-le-suc h)

pub tab-bytes : (n : ℕ) (f : ℕ → ℕ) → Octets f → Bytes (tab n f)
tab-bytes zero f h i = lit< tt
tab-bytes (suc n) f h zero = h 0
tab-bytes (suc n) f h (suc i) = tab-bytes n (λ k. f (suc k)) (λ k. h (suc k)) i

-- row j is row `order j` of the slab
unfoldable pub through : ℕ → ℕ → (ℕ → ℕ) → List ℕ → List ℕ
through n w order l = tab (n * w) (λ k. get_or l (order (k / w) * w + k % w) 0)

pub view-through : (n w : ℕ) (order : ℕ → ℕ) (l : List ℕ) (t j : ℕ) → t < w → j < n → view w t (through n w order l) j ≡ view w t l (order j)
unfolding through
view-through n w order l t j ht hj =
    get_or-tab (n * w) (λ k. get_or l (order (k / w) * w + k % w) 0) (j * w + t) (omega (arith, mul-le-mul_right w hj))
    ∙ ap₂ (λ (q s : ℕ). get_or l (order q * w + s) 0)
    (mul-add-div_right (omega arith) j t ∙ ap (λ (z : ℕ). j + z) (div-eq_of_lt ht) ∙ add-zero j)
    (mul-add-mod_self_right j w t ∙ mod-eq_of_lt ht)

pub record Source (m n w : ℕ) (A : ℕ → ℕ → ℕ) (C D : List ℕ) : Type 0 where
  pub size : length C ≡ n * w
  pub bytes : Bytes C
  pub makes : (t : ℕ) → t < w → Makes m n A (view w t C) (view w t D)

module _ (m n w : ℕ) (os : List Op) (A : ℕ → ℕ → ℕ) (order : ℕ → ℕ) (R : Reduces m n os A order) (hw : 0 < w)
    (D : List ℕ) (zD : length D ≡ m * w) (bD : Bytes D) where
  abbrev pub Agrees : Type 0
  Agrees = (r : ℕ) → r < m → Unnamed n order r → (t : ℕ) → t < w → get_or (acts w os D) (r * w + t) 0 ≡ 0
