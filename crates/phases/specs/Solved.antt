-- The whole list: any legal phase one, any working phase two that reaches every column, and phases three to five reduce the matrix.
--   Among, every-at, every_of, row_among, pivot_among, among_left, among_right, among_split, found   a step of a list
--   rows_append, pivots_append, one-column, left_under   their rows and columns
--   row_of, named            the row beside a column is the row of the step that took it
--   Course                   a run that gives every column a row
--   list_two, list_kept, the_list   its list, by step
-- Assumes nothing.
use Rattle.std.specs.Prelude.{◌≡◌, refl, ◌⊎◌, Bool, cond, List, [], ◌∷◌, ◌++◌, ℕ, ◌+◌, ◌-◌, ◌<◌, ◌≤◌, eqb}
use Rattle.std.proofs.Common.{sym, ap, ◌∙◌, subst, inl, inr, not-suc-le-zero, arith, eq-eqb, ne_eqb}
use Rattle.octet.specs.Field as L
use Rattle.oplist.specs.declared.Op.{Op}
use Rattle.algebra.specs.Rows.{undo, runs}
use Rattle.phases.specs.Gauss.{Works, works_kept, ops_two, ops_at, above}
use Rattle.phases.specs.Occ.{tick, occ, tick_eq, tick_ne, Same?, yes_same, not_same, same?, Once, Member}
use Rattle.phases.specs.One.{Step, rows_of, pivots_of, ops_one}
use Rattle.phases.specs.Rest.{kept, phase_four, beside}
use Rattle.phases.specs.Sweep.{Every, Legal, Entries, last-rows}

-- a step of the list
abbrev pub Among : Step → List Step → Type 0
Among t [] = ⊥
Among t (u ∷ us) = (t ≡ u) ⊎ Among t us

pub every-at : (P : Step → Type 0) (ts : List Step) (t : Step) → Every P ts → Among t ts → P t
every-at P [] t e a = absurd a
every-at P (u ∷ us) t e (inl p) = subst P (sym p) e.0
every-at P (u ∷ us) t e (inr a) = every-at P us t e.1 a

-- where each step of the list has it, all have it
pub every_of : (P : Step → Type 0) (ts : List Step) → ((t : Step) → Among t ts → P t) → Every P ts
every_of P [] f = tt
every_of P (t ∷ ts) f = (f t (inl refl), every_of P ts (λ u a. f u (inr a)))

pub row_among : (t : Step) (ts : List Step) → Among t ts → Member (rows_of ts) t.row
row_among t [] a = absurd a
row_among t (u ∷ us) (inl p) = let k : tick (eqb t.row u.row) ≡ 1 = tick_eq t.row u.row (ap (λ (s : Step). s.row) p) in omega arith
row_among t (u ∷ us) (inr a) = omega (arith, row_among t us a)

pub pivot_among : (t : Step) (ts : List Step) → Among t ts → Member (pivots_of ts) t.pivot
pivot_among t [] a = absurd a
pivot_among t (u ∷ us) (inl p) = let k : tick (eqb t.pivot u.pivot) ≡ 1 = tick_eq t.pivot u.pivot (ap (λ (s : Step). s.pivot) p) in omega arith
pivot_among t (u ∷ us) (inr a) = omega (arith, pivot_among t us a)

pub among_left : (t : Step) (ts us : List Step) → Among t ts → Among t (ts ++ us)
among_left t [] us a = absurd a
among_left t (s ∷ ts) us (inl p) = inl p
among_left t (s ∷ ts) us (inr a) = inr (among_left t ts us a)

pub among_right : (t : Step) (ts us : List Step) → Among t us → Among t (ts ++ us)
among_right t [] us a = a
among_right t (s ∷ ts) us a = inr (among_right t ts us a)

pub among_split : (t : Step) (ts us : List Step) → Among t (ts ++ us) → Among t ts ⊎ Among t us
among_split t [] us a = inr a
among_split t (s ∷ ts) us (inl p) = inl (inl p)
among_split t (s ∷ ts) us (inr a) = at (among_split t ts us a)
  where
    at : Among t ts ⊎ Among t us → Among t (s ∷ ts) ⊎ Among t us
    at (inl b) = inl (inr b)
    at (inr b) = inr b

pub found : (q : ℕ) (ts : List Step) → Member (pivots_of ts) q → (t : Step) × Among t ts × (t.pivot ≡ q)
found q [] i = absurd (not-suc-le-zero i)
found q (t ∷ ts) i = at (λ j. found q ts j) (same? q t.pivot)
  where
    at : (Member (pivots_of ts) q → (u : Step) × Among u ts × (u.pivot ≡ q)) → Same? q t.pivot → (u : Step) × Among u (t ∷ ts) × (u.pivot ≡ q)
    at rec (yes_same e) = (t, inl refl, sym e)
    at rec (not_same e) =
        let k : tick (eqb q t.pivot) ≡ 0 = tick_ne q t.pivot e in
        let w : (u : Step) × Among u ts × (u.pivot ≡ q) = rec (omega arith) in
        (w.0, inr w.1, w.2)

pub rows_append : (ts us : List Step) (y : ℕ) → occ y (rows_of (ts ++ us)) ≡ occ y (rows_of ts) + occ y (rows_of us)
rows_append [] us y = omega arith
rows_append (t ∷ ts) us y = let e : occ y (rows_of (ts ++ us)) ≡ occ y (rows_of ts) + occ y (rows_of us) = rows_append ts us y in omega arith

pub pivots_append : (ts us : List Step) (y : ℕ) → occ y (pivots_of (ts ++ us)) ≡ occ y (pivots_of ts) + occ y (pivots_of us)
pivots_append [] us y = omega arith
pivots_append (t ∷ ts) us y = let e : occ y (pivots_of (ts ++ us)) ≡ occ y (pivots_of ts) + occ y (pivots_of us) = pivots_append ts us y in omega arith

-- two steps with one row have one column
pub one-column : (ts : List Step) → Once (rows_of ts) → (t u : Step) → Among t ts → Among u ts → t.row ≡ u.row → t.pivot ≡ u.pivot
one-column [] o t u a b e = absurd a
one-column (s ∷ ts) o t u (inl p) (inl q) e = ap (λ (x : Step). x.pivot) (p ∙ sym q)
one-column (s ∷ ts) o t u (inl p) (inr b) e =
    let r : u.row ≡ s.row = sym e ∙ ap (λ (x : Step). x.row) p in
    let k : tick (eqb u.row s.row) ≡ 1 = tick_eq u.row s.row r in
    absurd (omega (arith, o u.row, row_among u ts b))
one-column (s ∷ ts) o t u (inr a) (inl q) e =
    let r : t.row ≡ s.row = e ∙ ap (λ (x : Step). x.row) q in
    let k : tick (eqb t.row s.row) ≡ 1 = tick_eq t.row s.row r in
    absurd (omega (arith, o t.row, row_among t ts a))
one-column (s ∷ ts) o t u (inr a) (inr b) e = one-column ts (λ y. omega (arith, o y)) t u a b e

-- the row beside a column
abbrev pub row_of : ℕ → List Step → ℕ
row_of q ts = beside q (pivots_of ts) (rows_of ts)

-- the order names each step's row at its column
pub named : (ts : List Step) (t : Step) → occ t.pivot (pivots_of ts) ≡ 1 → Among t ts → row_of t.pivot ts ≡ t.row
named [] t o a = absurd a
named (s ∷ ts) t o (inl p) =
    ap (λ (b : Bool). cond b s.row (row_of t.pivot ts)) (eq-eqb t.pivot s.pivot (ap (λ (x : Step). x.pivot) p))
    ∙ sym (ap (λ (x : Step). x.row) p)
named (s ∷ ts) t o (inr a) = at (λ k. named ts t k a) (same? t.pivot s.pivot)
  where
    at : (occ t.pivot (pivots_of ts) ≡ 1 → row_of t.pivot ts ≡ t.row) → Same? t.pivot s.pivot → row_of t.pivot (s ∷ ts) ≡ t.row
    at rec (yes_same e) =
        let k : tick (eqb t.pivot s.pivot) ≡ 1 = tick_eq t.pivot s.pivot e in
        absurd (omega (arith, pivot_among t ts a))
    at rec (not_same e) =
        let k : tick (eqb t.pivot s.pivot) ≡ 0 = tick_ne t.pivot s.pivot e in
        ap (λ (b : Bool). cond b s.row (row_of t.pivot ts)) (ne_eqb t.pivot s.pivot e) ∙ rec (omega arith)

-- rows that are left stand under every step
pub left_under : (B : ℕ → ℕ → ℕ) (ts : List Step) (rows : List ℕ) → Works B ts rows
    → Every (λ u. (y : ℕ) → Member (last-rows ts rows) y → Member u.under y) ts
left_under B [] rows g = tt
left_under B (t ∷ ts) rows g = (
  λ y k. omega (arith, works_kept (runs (ops_at B t) B) ts t.under g.1 y),
  left_under (runs (ops_at B t) B) ts t.under g.1,
)

-- the run
pub record Course (m n : ℕ) (A : ℕ → ℕ → ℕ) (rows v : List ℕ) (ts us : List Step) : Type 0 where
  pub entries : Entries A
  pub once : Once rows
  pub all : (r : ℕ) → r < m → Member rows r
  pub below : (r : ℕ) → Member rows r → r < m
  pub legal : Legal A ts rows v
  pub works : Works (runs (ops_one A ts) A) us (last-rows ts rows)
  pub every : (q : ℕ) → q < n → occ q (pivots_of (ts ++ us)) ≡ 1
  pub apart : (q : ℕ) → occ q (pivots_of (ts ++ us)) ≤ 1

abbrev pub list_two : (ℕ → ℕ → ℕ) → List Step → List Op
list_two B us = ops_two B us ++ above (runs (ops_two B us) B) [] us

abbrev pub list_kept : (ℕ → ℕ → ℕ) → List Step → List Op
list_kept A ts = kept (rows_of ts) (ops_one A ts)

abbrev pub the_list : (ℕ → ℕ → ℕ) → List Step → List Step → List Op
the_list A ts us =
    ops_one A ts ++ list_two (runs (ops_one A ts) A) us ++ undo (list_kept A ts) ++ phase_four A (rows_of ts) us ++ list_kept A ts
