-- Laws of rows of octets.
--   length-add_row, length-scale_row, length-fma_row   each result is as long as its first row
--   get_or-add_row, get_or-scale_row, get_or-fma_row         its entries
--   add_row-undo, fma_row-undo                        what was added is taken away by adding it again
--   fma_row-zero, fma_row-one, scale_row-one           the multiples by 0 and by 1
--   scale_row-undo, scale_row_redo                    a multiple by k and then by its inverse; the other way round
--   add_only, scale_only, fma_only                  each operation has one outcome
-- Assumes nothing.
use Rattle.std.specs.Prelude.{◌≡◌, refl, ◌≢◌, ℕ, zero, suc, ◌<◌, length, get_or}
use Rattle.std.proofs.Common.{sym, ap₂, ◌∙◌, le_of_suc-le-suc, not-suc-le-zero}
use Rattle.std.proofs.Math.Path.{ap}
use mathlib.Core.List.{List, [], ◌∷◌, map, map-map}
use Rattle.std.proofs.lemmas.List.{length-map}
use Rattle.std.proofs.Math.ListN.{get_or-map}
use Rattle.octet.specs.Octet.{add, mul, inverse}
use Rattle.octet.specs.Field as F
use Rattle.octet.proofs.Field as Fp
use Rattle.octet.specs.Field.{Octet, Octets}
use Rattle.octet.specs.Only.{only}
use Rattle.octets.specs.Rows.{add_row, scale_row, fma_row, Added, Scaled, Fused}

pub length-add_row : (d s : List ℕ) → length (add_row d s) ≡ length d
unfolding add_row
length-add_row [] s = refl
length-add_row (x ∷ d) [] = refl
length-add_row (x ∷ d) (y ∷ s) = ap suc (length-add_row d s)

pub length-scale_row : (k : ℕ) (d : List ℕ) → length (scale_row k d) ≡ length d
unfolding scale_row
length-scale_row k d = length-map d (mul k)

pub length-fma_row : (d s : List ℕ) (k : ℕ) → length (fma_row d s k) ≡ length d
unfolding fma_row
length-fma_row d s k = length-add_row d (scale_row k s)

pub get_or-add_row : (d s : List ℕ) (i : ℕ) → i < length d → get_or (add_row d s) i 0 ≡ add (get_or d i 0) (get_or s i 0)
unfolding add_row
get_or-add_row [] s i h = absurd (not-suc-le-zero h)
get_or-add_row (x ∷ d) [] i h = sym (F.add-zero (get_or (x ∷ d) i 0))
get_or-add_row (x ∷ d) (y ∷ s) zero h = refl
get_or-add_row (x ∷ d) (y ∷ s) (suc i) h = get_or-add_row d s i (le_of_suc-le-suc h)

pub get_or-scale_row : (k : ℕ) (d : List ℕ) (i : ℕ) → get_or (scale_row k d) i 0 ≡ mul k (get_or d i 0)
unfolding scale_row
get_or-scale_row k d i = ap (get_or (scale_row k d) i) (sym (F.mul-zero k)) ∙ get_or-map (mul k) d i 0

pub get_or-fma_row : (d s : List ℕ) (k i : ℕ) → i < length d → get_or (fma_row d s k) i 0 ≡ add (get_or d i 0) (mul k (get_or s i 0))
unfolding fma_row
get_or-fma_row d s k i h = get_or-add_row d (scale_row k s) i h ∙ ap (add (get_or d i 0)) (get_or-scale_row k s i)

abbrev cons : ℕ → List ℕ → List ℕ
cons x l = x ∷ l

pub add_row-undo : (d s : List ℕ) → add_row (add_row d s) s ≡ d
unfolding add_row
add_row-undo [] s = refl
add_row-undo (x ∷ d) [] = refl
add_row-undo (x ∷ d) (y ∷ s) = ap₂ cons (F.add-undo x y) (add_row-undo d s)

pub fma_row-undo : (d s : List ℕ) (k : ℕ) → fma_row (fma_row d s k) s k ≡ d
unfolding fma_row
fma_row-undo d s k = add_row-undo d (scale_row k s)

pub fma_row-zero : (d s : List ℕ) → fma_row d s 0 ≡ d
unfolding fma_row add_row scale_row
fma_row-zero [] s = refl
fma_row-zero (x ∷ d) [] = refl
fma_row-zero (x ∷ d) (y ∷ s) = ap₂ cons (ap (add x) (F.zero-mul y) ∙ F.add-zero x) (fma_row-zero d s)

-- a function that keeps octets keeps a row of them
map_keeps : (f : ℕ → ℕ) → ((x : ℕ) → Octet x → f x ≡ x) → (d : List ℕ) → Octets (λ i. get_or d i 0) → map f d ≡ d
map_keeps f e [] b = refl
map_keeps f e (x ∷ d) b = ap₂ cons (e x (b 0)) (map_keeps f e d (λ i. b (suc i)))

module _ (d : List ℕ) (b : Octets (λ i. get_or d i 0)) where
  pub scale_row-one : scale_row 1 d ≡ d
  unfolding scale_row
  scale_row-one = map_keeps (mul 1) F.one-mul d b

  pub fma_row-one : (e : List ℕ) → fma_row e d 1 ≡ add_row e d
  unfolding fma_row
  fma_row-one e = ap (add_row e) scale_row-one

  pub scale_row-undo : (k : ℕ) → Octet k → k ≢ 0 → scale_row (inverse k) (scale_row k d) ≡ d
  unfolding scale_row
  scale_row-undo k h nz =
      map-map (mul (inverse k)) (mul k) d ∙ map_keeps (λ x. mul (inverse k) (mul k x)) (λ x. Fp.mul-undo k x h nz) d b

  pub scale_row_redo : (k : ℕ) → Octet k → k ≢ 0 → scale_row k (scale_row (inverse k) d) ≡ d
  unfolding scale_row
  scale_row_redo k h nz =
      map-map (mul k) (mul (inverse k)) d ∙ map_keeps (λ x. mul k (mul (inverse k) x)) (λ x. Fp.mul_redo k x h nz) d b

pub add_only : {d s e e' : List ℕ} → Added d s e → Added d s e' → e ≡ e'
add_only p q = only p.is q.is

pub scale_only : {d e e' : List ℕ} {k : ℕ} → Scaled d k e → Scaled d k e' → e ≡ e'
scale_only p q = only p.is q.is

pub fma_only : {d s e e' : List ℕ} {k : ℕ} → Fused d s k e → Fused d s k e' → e ≡ e'
fma_only p q = only p.is q.is
