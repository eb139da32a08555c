-- The vector by place is the vector by step.
--   values-is         phase two's columns, by substitution from the column without pivot
--   substitution_is   and the chosen rows' columns
-- Assumes nothing.
use Rattle.std.specs.Prelude.{◌≡◌, refl, List, [], ◌∷◌, ◌++◌, map, ℕ, suc, ◌+◌, ◌<◌, ◌≤◌, length, get_or, drop}
use Rattle.std.proofs.Common.{sym, ap, ap₂, ◌∙◌, not-suc-le-zero, arith, length-drop, get_or-drop}
use Rattle.octet.specs.Octet.{add, mul}
use Rattle.octet.specs.Field.{add-zero, zero-mul}
use Rattle.phases.specs.One.{Step, rows_of}
use Rattle.phases.specs.Two.{at}
use Rattle.phases.specs.Rest.{weigh, values, by_substitution}
use Rattle.phases.specs.Occ.{tick_eq, Member}
use Rattle.phases.specs.Sweep.{Every}
use Rattle.phases.specs.Kernel.{Value, weighs, chain, cols_of, Apart}
use Rattle.phases.specs.Vector.{vals_of}

-- a row's entries at the vector's columns
weigh-is : (l : List ℕ) (row : ℕ → ℕ) (vs : List Value) → length (cols_of vs) ≤ length l
    → ((i : ℕ) → i < length (cols_of vs) → get_or l i 0 ≡ row (get_or (cols_of vs) i 0)) → weigh l (vals_of vs) ≡ weighs row vs
weigh-is [] row [] h e = refl
weigh-is (b ∷ l) row [] h e = refl
weigh-is [] row (a ∷ vs) h e = absurd (not-suc-le-zero h)
weigh-is (b ∷ l) row (a ∷ vs) h e =
    ap₂ (λ (s c : ℕ). add s (mul c a.val)) (weigh-is l row vs (omega arith) (λ i j. e (suc i) (omega arith))) (e 0 (omega arith))

module _ (D : ℕ → ℕ → ℕ) (q n : ℕ) (X : List (List ℕ)) (cols : List ℕ) (wide : ℕ → Type 0)
    (full : (y : ℕ) → wide y → length (get_or X y []) ≡ length cols)
    (shows : (y k : ℕ) → wide y → k < length cols → at X y k ≡ D y (get_or cols k 0)) where
  -- the vector's columns are those of the matrix from place p on
  abbrev From : ℕ → List Value → Type 0
  From p vs = (p + length (cols_of vs) ≤ length cols) × ((i : ℕ) → i < length (cols_of vs) → get_or (cols_of vs) i 0 ≡ get_or cols (p + i) 0)

  row_is : (p y : ℕ) (vs : List Value) → wide y → From p vs → weigh (drop p (get_or X y [])) (vals_of vs) ≡ weighs (D y) vs
  row_is p y vs w f =
      weigh-is (drop p (get_or X y [])) (D y) vs (omega (arith, f.0, length-drop p (get_or X y []), full y w))
      (λ i h. get_or-drop p (get_or X y []) i 0 ∙ shows y (p + i) w (omega (arith, f.0)) ∙ ap (D y) (sym (f.1 i h)))

  pub values-is : (p : ℕ) (us : List Step) → ((y : ℕ) → Member (rows_of us) y → wide y) → From p (chain D us q)
      → values X p (rows_of us) ≡ vals_of (chain D us q)
  values-is p [] w f = refl
  values-is p (u ∷ us) w f =
      ap (λ (xs : List ℕ). weigh (drop (suc p) (get_or X u.row [])) xs ∷ xs) (values-is (suc p) us (λ y k. w y (omega arith)) from)
      ∙ ap (λ (v : ℕ). v ∷ vals_of (chain D us q)) (row_is (suc p) u.row (chain D us q) (w u.row (omega (arith, tick_eq u.row u.row refl))) from)
    where
      from : From (suc p) (chain D us q)
      from = (omega (arith, f.0), λ i h. f.1 (suc i) (omega arith) ∙ ap (λ (k : ℕ). get_or cols k 0) (omega arith))

  -- columns where the row has zeros
  weighs_skip : (row : ℕ → ℕ) (ts us : List Step) → Every (λ t. row t.pivot ≡ 0) ts → weighs row (chain D (ts ++ us) q) ≡ weighs row (chain D us q)
  weighs_skip row [] us e = refl
  weighs_skip row (t ∷ ts) us e =
      ap₂ (λ (a b : ℕ). add a (mul b (weighs (D t.row) (chain D (ts ++ us) q)))) (weighs_skip row ts us e.1) e.0
      ∙ ap (λ (b : ℕ). add (weighs row (chain D us q)) b) (zero-mul (weighs (D t.row) (chain D (ts ++ us) q))) ∙ add-zero (weighs row (chain D us q))

  chosen_is : (ts us : List Step) → ((y : ℕ) → Member (rows_of ts) y → wide y) → Apart D ts → From 0 (chain D us q)
      → vals_of (chain D (ts ++ us) q) ≡ map (λ x. weigh (get_or X x []) (vals_of (chain D us q))) (rows_of ts) ++ vals_of (chain D us q)
  chosen_is [] us w a f = refl
  chosen_is (t ∷ ts) us w a f =
      ap₂ (λ (v : ℕ) (l : List ℕ). v ∷ l)
      (weighs_skip (D t.row) ts us a.0 ∙ sym (row_is 0 t.row (chain D us q) (w t.row (omega (arith, tick_eq t.row t.row refl))) f))
      (chosen_is ts us (λ y k. w y (omega arith)) a.1 f)

  pub substitution_is : (ts us : List Step) → ((y : ℕ) → Member (rows_of ts) y → wide y) → ((y : ℕ) → Member (rows_of us) y → wide y) → Apart D ts
      → From 0 (chain D us q) → by_substitution X (rows_of ts) (rows_of us) ≡ vals_of (chain D (ts ++ us) q)
  substitution_is ts us w v a f =
      ap (λ (xs : List ℕ). map (λ x. weigh (get_or X x []) xs) (rows_of ts) ++ xs) (values-is 0 us v f) ∙ sym (chosen_is ts us w a f)
