-- The vector of a run that stops: it is sent to zeros, and is not all zeros.
--   Value, weighs, chain, value_of, cols_of, Small   a vector as a list of columns, each with its value
--   absent       a column that is not among them has 0
--   dot-weigh                the product of a row and the vector
--   Apart      each chosen row has zeros at the columns of later ones
--   Halt                     a run that stops at a column without pivot
--   vs                       its vector: 1 at that column, and at each step's column what its row makes of those after it
-- Assumes nothing.
use Rattle.std.specs.Prelude.{◌≡◌, refl, Bool, cond, List, [], ◌∷◌, ◌++◌, ℕ, ◌+◌, ◌-◌, ◌<◌, ◌≤◌, eqb}
use Rattle.std.proofs.Common.{sym, ap, ap₂, ◌∙◌, arith, eq-eqb, ne_eqb}
use Rattle.octet.specs.Field as L
use Rattle.octet.specs.Field.{Octet, zero-add, mul-zero}
use Rattle.octet.specs.Octet.{add, mul}
use Rattle.oplist.specs.declared.Op.{Op}
use Rattle.algebra.specs.Rows.{runs, column}
use Rattle.algebra.specs.Sums.{pick, pick_eq, pick_ne, dot, sum_ext, sum_one, sum-zero, sum-add}
use Rattle.phases.specs.Gauss.{Works, ops_two}
use Rattle.phases.specs.Occ.{tick, occ, tick_eq, Same?, yes_same, not_same, same?, Once, Member}
use Rattle.phases.specs.One.{Step, pivots_of, ops_one}
use Rattle.phases.specs.Sweep.{Every, Legal, Entries, last-rows}

-- a vector as a list of columns, each with its value
pub record Value : Type 0 where
  pub col : ℕ
  pub val : ℕ

abbrev pub weighs : (ℕ → ℕ) → List Value → ℕ
weighs row [] = 0
weighs row (a ∷ more) = add (weighs row more) (mul (row a.col) a.val)

-- the last step first: each column gets what its row makes of the columns after it
abbrev pub chain : (ℕ → ℕ → ℕ) → List Step → ℕ → List Value
chain D [] q = record { col = q; val = 1 } ∷ []
chain D (t ∷ ts) q = let vs : List Value = chain D ts q in record { col = t.pivot; val = weighs (D t.row) vs } ∷ vs

abbrev pub value_of : ℕ → List Value → ℕ
value_of q [] = 0
value_of q (a ∷ more) = cond (eqb q a.col) a.val (value_of q more)

abbrev pub cols_of : List Value → List ℕ
cols_of [] = []
cols_of (a ∷ vs) = a.col ∷ cols_of vs

abbrev pub Small : List Value → Type 0
Small [] = Unit {0}
Small (a ∷ vs) = Octet a.val × Small vs

pub absent : (q : ℕ) (vs : List Value) → occ q (cols_of vs) ≡ 0 → value_of q vs ≡ 0
absent q [] z = refl
absent q (a ∷ vs) z = go (same? q a.col) (λ k. absent q vs k)
  where
    go : Same? q a.col → (occ q (cols_of vs) ≡ 0 → value_of q vs ≡ 0) → value_of q (a ∷ vs) ≡ 0
    go (yes_same e) rec = absurd (let t : tick (eqb q a.col) ≡ 1 = tick_eq q a.col e in omega arith)
    go (not_same e) rec = ap (λ (b : Bool). cond b a.val (value_of q vs)) (ne_eqb q a.col e) ∙ rec (omega arith)

-- the product of a row and the vector
pub dot-weigh : (n : ℕ) (row : ℕ → ℕ) (vs : List Value) → Once (cols_of vs) → ((q : ℕ) → Member (cols_of vs) q → q < n)
    → dot n row (λ k. value_of k vs) ≡ weighs row vs
dot-weigh n row [] o b = sum-zero n (λ k. mul (row k) 0) (λ k l. mul-zero (row k))
dot-weigh n row (a ∷ vs) o b =
    sum_ext n (λ k. mul (row k) (value_of k (a ∷ vs))) (λ k. add (mul (row k) (value_of k vs)) (extra k)) (λ k l. split k (same? k a.col))
    ∙ sum-add n (λ k. mul (row k) (value_of k vs)) extra
    ∙ ap₂ (λ (x y : ℕ). add x y) (dot-weigh n row vs (λ y. omega (arith, o y)) (λ q k. b q (omega arith)))
    (sum_one n extra a.col (b a.col (omega (arith, tk))) (λ k l ne. pick_ne k a.col (mul (row a.col) a.val) 0 ne)
    ∙ pick_eq a.col a.col (mul (row a.col) a.val) 0 refl)
  where
    tk : tick (eqb a.col a.col) ≡ 1
    tk = tick_eq a.col a.col refl

    extra : ℕ → ℕ
    extra k = pick (eqb k a.col) (mul (row a.col) a.val) 0

    split : (k : ℕ) → Same? k a.col → mul (row k) (value_of k (a ∷ vs)) ≡ add (mul (row k) (value_of k vs)) (extra k)
    split k (yes_same e) =
        ap (λ (t : Bool). mul (row k) (cond t a.val (value_of k vs))) (eq-eqb k a.col e)
        ∙ ap (λ (x : ℕ). mul (row x) a.val) e
        ∙ sym (ap₂ (λ (x y : ℕ). add x y)
        (ap (λ (x : ℕ). mul (row k) x) (absent k vs (omega (arith, o k, tick_eq k a.col e))) ∙ mul-zero (row k))
        (pick_eq k a.col (mul (row a.col) a.val) 0 e) ∙ zero-add (mul (row a.col) a.val))
    split k (not_same e) =
        ap (λ (t : Bool). mul (row k) (cond t a.val (value_of k vs))) (ne_eqb k a.col e)
        ∙ sym (ap (λ (x : ℕ). add (mul (row k) (value_of k vs)) x) (pick_ne k a.col (mul (row a.col) a.val) 0 e)
        ∙ L.add-zero (mul (row k) (value_of k vs)))

-- each step's row has zeros at the columns of later steps
abbrev pub Apart : (ℕ → ℕ → ℕ) → List Step → Type 0
Apart D [] = Unit {0}
Apart D (t ∷ ts) = Every (λ s. D t.row s.pivot ≡ 0) ts × Apart D ts

-- a run that stops at column q
pub record Halt (m n q : ℕ) (A : ℕ → ℕ → ℕ) (rows v : List ℕ) (ts us : List Step) : Type 0 where
  pub entries : Entries A
  pub once : Once rows
  pub all : (r : ℕ) → r < m → Member rows r
  pub below : (r : ℕ) → Member rows r → r < m
  pub legal : Legal A ts rows v
  pub works : Works (runs (ops_one A ts) A) us (last-rows ts rows)
  pub apart : (k : ℕ) → occ k (pivots_of (ts ++ us)) + tick (eqb k q) ≤ 1
  pub column : (k : ℕ) → 0 < occ k (pivots_of (ts ++ us)) + tick (eqb k q) → k < n
  pub none : (y : ℕ) → Member (last-rows us (last-rows ts rows)) y
      → runs (ops_two (runs (ops_one A ts) A) us) (runs (ops_one A ts) A) y q ≡ 0

module _ (m n q : ℕ) (A : ℕ → ℕ → ℕ) (rows v : List ℕ) (ts us : List Step) (c : Halt m n q A rows v ts us) where
  abbrev one : List Op
  one = ops_one A ts

  abbrev B : ℕ → ℕ → ℕ
  B = runs one A

  abbrev two : List Op
  two = ops_two B us

  abbrev D : ℕ → ℕ → ℕ
  D = runs two B

  abbrev pub vs : List Value
  vs = chain D (ts ++ us) q
