-- Operations done on the store and noted in the journal; a column cleared.
--   Fit m op          an operation keeps to m rows, and its fields fit a word
--   fit_multiple      a multiple of a row, for rows below m
--   Performed         a list of operations was done on the store, and noted
--   performed_none, performed_one, performed_then, performed_as, performed_fair   of none, of one, of two lists, of an equal list; the journal stays fair
--   acts-append       of lists joined
--   acts-clears-other, acts-scaled-other   a row that is not cleared, or not scaled, stays as it is
--   clears-take, clears_as   the rows to be cleared, one more; by entries that agree
--   scaled-none, scaled-some, quotient_octet   the operation that divides a row by its entry, from the quotient of one by it
--   clear_next        a row more is cleared
--   column_performed  a row is scaled, and then the column cleared
-- Assumes nothing.
use Rattle.std.specs.Prelude.{◌≡◌, ◌≢◌, List, [], ◌∷◌, ◌++◌, ℕ, zero, suc, ◌+◌, ◌≤◌, ◌<◌, length, get_or, take, Ok, Err}
use Rattle.std.proofs.Math.Path.{refl}
use Rattle.std.proofs.Common.{sym, ap, ap₂, subst, ◌∙◌, add-one, arith, take-suc, get_or-take, length-take-le, get_or-set_other}
use Rattle.oplist.specs.Multiple.{multiple}
use Rattle.loops.specs.Room.{notes, notes-append}
use Rattle.octet.specs.Octet.{inverse, quotient}
use Rattle.octet.specs.Field.{one-mul, inv_octet, mul_octet}
use Rattle.octet.specs.Answers.{quotient_of}
use Rattle.octet.specs.declared.Octet.{Octet}
use Rattle.octet.specs.declared.ZeroDivisor.{ZeroDivisor}
use Rattle.oplist.specs.declared.Op.{Op}
use Rattle.oplist.specs.declared.Op.TheVariants.{AddAssign, MulAssign, FMA}
use Rattle.oplist.specs.Ops.{Within}
use Rattle.oplist.specs.Word.{Small}
use Rattle.oplist.specs.Facts.{Rows}
use Rattle.phases.specs.One.{entry, clears}
use Rattle.phases.specs.Two.{at, act, acts, scaled, column_ops}
use Rattle.tally.specs.Book.{Book, note, Fair, fair_notes}
use Rattle.second.specs.Store.{store_of}

pub record Fit (m : ℕ) (op : Op) : Type 0 where
  pub within : Within m op
  pub small : Small op

pub fit_multiple : (m c y x : ℕ) → y < m → x < m → m ≤ 65535 → c < 256 → Fit m (multiple c y x)
unfolding multiple
fit_multiple m zero y x h k f b = record { within = (h, k); small = omega arith }
fit_multiple m (suc zero) y x h k f b = record { within = (h, k); small = omega arith }
fit_multiple m (suc (suc c)) y x h k f b = record { within = (h, k); small = omega arith }

pub record Performed (m l i : ℕ) (os : List Op) (w : List ℕ) (g : Book) (w' : List ℕ) (g' : Book) : Type 0 where
  pub store : store_of m l i w' ≡ acts os (store_of m l i w)
  pub list : g' ≡ notes note g os

pub acts-append : (os ps : List Op) (X : List (List ℕ)) → acts (os ++ ps) X ≡ acts ps (acts os X)
acts-append [] ps X = refl
acts-append (o ∷ os) ps X = acts-append os ps (act o X)

module _ {m l i : ℕ} where
  pub performed_none : {w : List ℕ} {g : Book} → Performed m l i [] w g w g
  unfolding notes
  performed_none = record { store = refl; list = refl }

  pub performed_one : {w w' : List ℕ} {g g' : Book} {o : Op} → store_of m l i w' ≡ act o (store_of m l i w) → g' ≡ note g o → Performed m l i (o ∷ []) w g w' g'
  unfolding notes
  performed_one e f = record { store = e; list = f }

  pub performed_then : {w w' w'' : List ℕ} {g g' g'' : Book} {os ps : List Op} → Performed m l i os w g w' g' → Performed m l i ps w' g' w'' g'' → Performed m l i (os ++ ps) w g w'' g''
  performed_then {w} {g = g} {os = os} {ps = ps} p q =
      record {
        store = q.store ∙ ap (acts ps) p.store ∙ sym (acts-append os ps (store_of m l i w));
        list = q.list ∙ ap (λ (h : Book). notes note h ps) p.list ∙ sym (notes-append note g os ps);
      }

  pub performed_as : {w w' : List ℕ} {g g' : Book} {os ps : List Op} → os ≡ ps → Performed m l i os w g w' g' → Performed m l i ps w g w' g'
  performed_as {w} {w'} {g} {g'} e p = subst (λ (os : List Op). Performed m l i os w g w' g') e p

  pub performed_fair : {w w' : List ℕ} {g g' : Book} {os : List Op} → Performed m l i os w g w' g' → Fair g → Fair g'
  performed_fair {g = g} {os = os} p f = subst Fair (sym p.list) (fair_notes os g f)

-- rows that no operation writes
pub acts-clears-other : (s : ℕ → ℕ) (x : ℕ) (ys : List ℕ) (X : List (List ℕ)) (z : ℕ) → ((k : ℕ) → k < length ys → z ≢ get_or ys k 0)
    → get_or (acts (clears s x ys) X) z [] ≡ get_or X z []
acts-clears-other s x [] X z n = refl
acts-clears-other s x (y ∷ ys) X z n = by (s y) (λ (Y : List (List ℕ)). acts-clears-other s x ys Y z (λ k h. n (suc k) (omega arith)))
  where
    by : (c : ℕ) → ((Y : List (List ℕ)) → get_or (acts (clears s x ys) Y) z [] ≡ get_or Y z []) → get_or (acts (entry c y x (clears s x ys)) X) z [] ≡ get_or X z []
    by zero rest = rest X
    by (suc zero) rest = rest (act (AddAssign y x) X) ∙ get_or-set_other X y z _ [] (n 0 (omega arith))
    by (suc (suc c)) rest = rest (act (FMA y x (suc (suc c))) X) ∙ get_or-set_other X y z _ [] (n 0 (omega arith))

pub acts-scaled-other : (c y : ℕ) (X : List (List ℕ)) (z : ℕ) → z ≢ y → get_or (acts (scaled c y) X) z [] ≡ get_or X z []
acts-scaled-other zero y X z n = refl
acts-scaled-other (suc zero) y X z n = refl
acts-scaled-other (suc (suc c)) y X z n = get_or-set_other X y z _ [] n

entry-append : (c y x : ℕ) (os ps : List Op) → entry c y x os ++ ps ≡ entry c y x (os ++ ps)
entry-append zero y x os ps = refl
entry-append (suc zero) y x os ps = refl
entry-append (suc (suc c)) y x os ps = refl

clears-snoc : (s : ℕ → ℕ) (x : ℕ) (ys : List ℕ) (y : ℕ) → clears s x (ys ++ (y ∷ [])) ≡ clears s x ys ++ entry (s y) y x []
clears-snoc s x [] y = refl
clears-snoc s x (z ∷ ys) y = ap (entry (s z) z x) (clears-snoc s x ys y) ∙ sym (entry-append (s z) z x (clears s x ys) (entry (s y) y x []))

pub clears-take : (s : ℕ → ℕ) (x : ℕ) (ys : List ℕ) (k : ℕ) → k < length ys
    → clears s x (take (k + 1) ys) ≡ clears s x (take k ys) ++ entry (s (get_or ys k 0)) (get_or ys k 0) x []
clears-take s x ys k h =
    ap (clears s x) (ap (λ (n : ℕ). take n ys) (add-one k) ∙ take-suc ys k 0 h) ∙ clears-snoc s x (take k ys) (get_or ys k 0)

pub clears_as : (s t : ℕ → ℕ) (x : ℕ) (ys : List ℕ) → ((k : ℕ) → k < length ys → s (get_or ys k 0) ≡ t (get_or ys k 0)) → clears s x ys ≡ clears t x ys
clears_as s t x [] e = refl
clears_as s t x (y ∷ ys) e =
    ap₂ (λ (c : ℕ) (os : List Op). entry c y x os) (e 0 (omega arith)) (clears_as s t x ys (λ k h. e (suc k) (omega arith)))

-- a row divided by its entry
pub scaled-none : (c y : ℕ) (r : ZeroDivisor) → quotient_of 1 c ≡ Err r → scaled c y ≡ []
unfolding quotient_of
scaled-none zero y r e = refl
scaled-none (suc c) y r e = let z : ◌≡◌ {A = ℕ} 0 1 = cc in absurd (omega arith)

pub scaled-some : (c y : ℕ) (v : Octet) → quotient_of 1 c ≡ Ok v → c ≢ 1 → scaled c y ≡ MulAssign y v.value ∷ []
unfolding quotient_of quotient
scaled-some zero y v e n = let z : ◌≡◌ {A = ℕ} 0 1 = cc in absurd (omega arith)
scaled-some (suc zero) y v e n = absurd (n refl)
scaled-some (suc (suc c)) y v e n =
    let h : record { value = quotient 1 (suc (suc c)) } ≡ v = cc in
    let k : inverse (suc (suc c)) ≡ v.value = sym (one-mul (inverse (suc (suc c))) (inv_octet (suc (suc c)))) ∙ ap (λ (o : Octet). o.value) h in
    ap (λ (r : ℕ). MulAssign y r ∷ []) k

pub quotient_octet : (c : ℕ) (v : Octet) → quotient_of 1 c ≡ Ok v → v.value < 256
unfolding quotient_of quotient
quotient_octet zero v e = let z : ◌≡◌ {A = ℕ} 0 1 = cc in absurd (omega arith)
quotient_octet (suc c) v e =
    let h : record { value = quotient 1 (suc c) } ≡ v = cc in
    subst (λ (o : Octet). o.value < 256) h (mul_octet 1 (inverse (suc c)))

-- the rows below m that are to be cleared, none twice, by row x, which is none of them
module _ (m l i p x : ℕ) (ys w₀ : List ℕ) (rows : Rows m (x ∷ ys)) where
  abbrev s : ℕ → ℕ
  s z = at (store_of m l i w₀) z p

  apart : (j k : ℕ) → j < length ys → k < length ys → j ≢ k → get_or ys k 0 ≢ get_or ys j 0
  apart j k hj hk n e = n (omega (arith, rows.apart (suc k) (suc j) (omega arith) (omega arith) e))

  pub clear_next : {k : ℕ} {w w' : List ℕ} {g₀ g g' : Book} → k < length ys
      → Performed m l i (clears s x (take k ys)) w₀ g₀ w g
      → Performed m l i (entry (at (store_of m l i w) (get_or ys k 0) p) (get_or ys k 0) x []) w g w' g'
      → Performed m l i (clears s x (take (k + 1) ys)) w₀ g₀ w' g'
  clear_next {k} {w} h done one =
      performed_as (sym (clears-take s x ys k h))
      (performed_then done (performed_as (ap (λ (c : ℕ). entry c (get_or ys k 0) x []) same) one))
    where
      n : length (take k ys) ≡ k
      n = length-take-le k ys (omega arith)

      same : at (store_of m l i w) (get_or ys k 0) p ≡ s (get_or ys k 0)
      same =
          ap (λ (r : List ℕ). get_or r p 0)
          (ap (λ (Y : List (List ℕ)). get_or Y (get_or ys k 0) []) done.store
          ∙ acts-clears-other s x (take k ys) (store_of m l i w₀) (get_or ys k 0)
          (λ j hj e. let hj' : j < k = omega (arith, hj, n) in
          apart j k (omega arith) h (omega arith) (e ∙ get_or-take k ys j 0 hj')))

  -- row x was scaled first: the rows to be cleared are as they were
  pub column_performed : {w₁ w₂ : List ℕ} {g₀ g₁ g₂ : Book}
      → Performed m l i (scaled (at (store_of m l i w₀) x p) x) w₀ g₀ w₁ g₁
      → Performed m l i (clears (λ (z : ℕ). at (store_of m l i w₁) z p) x ys) w₁ g₁ w₂ g₂
      → Performed m l i (column_ops (at (store_of m l i w₀)) p x ys) w₀ g₀ w₂ g₂
  column_performed {w₁} a b = performed_then a (performed_as (clears_as (λ (z : ℕ). at (store_of m l i w₁) z p) s x ys same) b)
    where
      same : (k : ℕ) → k < length ys → at (store_of m l i w₁) (get_or ys k 0) p ≡ s (get_or ys k 0)
      same k h =
          ap (λ (r : List ℕ). get_or r p 0)
          (ap (λ (Y : List (List ℕ)). get_or Y (get_or ys k 0) []) a.store
          ∙ acts-scaled-other (at (store_of m l i w₀) x p) x (store_of m l i w₀) (get_or ys k 0)
          (λ e. absurd (omega (arith, rows.apart (suc k) 0 (omega arith) (omega arith) e))))
