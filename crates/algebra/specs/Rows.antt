-- Row operations. A column of rows is a function of the row. An operation acts on each column by itself, so a matrix and a slab are columns side by side.
--   Good                    the operation can be undone: dest is not src, and MulAssign's scalar is an octet that is not zero
--   Within                  the rows of the operation are below m
--   put v d y, column A j   the column with y in row d; column j of a matrix
--   put_same, put_other     the column with y in row d has y there, and elsewhere what it had
--   put_back                what stood in row d, put back, restores the column
--   value, step, run, runs  what an operation writes; a column after an operation, after a list; a matrix after a list
--   inverse, undo           the operation that undoes one; the list that undoes one, last operation first
--   step_octet, run_octet   octets stay octets
--   run-append              two lists after each other
--   step_local, run_local   rows below m depend on rows below m only
--   run-zero                zeros stay zeros
--   times, run-times        a matrix times a column, through which operations pass
-- Assumes nothing.
use Rattle.std.specs.Prelude.{◌≡◌, refl, ◌≢◌, Bool, true, false, List, [], ◌∷◌, ◌++◌, ℕ, ◌<◌, eqb}
use Rattle.std.proofs.Common.{sym, ap, ap₂, ◌∙◌, eqb-true}
use Rattle.std.proofs.Math.Path.{fun_ext}
use Rattle.octet.specs.Octet.{add, mul, inverse as inv}
use Rattle.octet.specs.Field.{add_octet, add-zero, mul_octet, mul-zero, Octet, Octets}
use Rattle.oplist.specs.declared.Op.{Op}
use Rattle.oplist.specs.declared.Op.TheVariants.{AddAssign, MulAssign, FMA}
use Rattle.oplist.specs.Ops.{dest, Each}
pub use Rattle.oplist.specs.Ops.{Within}
use Rattle.algebra.specs.Sums.{pick, pick_eq, pick_ne, dot, dot-add, dot-mul}

abbrev pub Good : Op → Type 0
Good (AddAssign d s) = s ≢ d
Good (MulAssign d c) = Octet c × (c ≢ 0)
Good (FMA d s c) = s ≢ d

abbrev pub put : (ℕ → ℕ) → ℕ → ℕ → ℕ → ℕ
put v d y r = pick (eqb r d) y (v r)

pub put_same : (v : ℕ → ℕ) (d y r : ℕ) → r ≡ d → put v d y r ≡ y
put_same v d y r e = pick_eq r d y (v r) e

pub put_other : (v : ℕ → ℕ) (d y r : ℕ) → r ≢ d → put v d y r ≡ v r
put_other v d y r e = pick_ne r d y (v r) e

pub put_back : (v : ℕ → ℕ) (d y z : ℕ) → z ≡ v d → put (put v d y) d z ≡ v
put_back v d y z e = fun_ext (λ r. at r (eqb r d) refl)
  where
    at : (r : ℕ) (b : Bool) → eqb r d ≡ b → pick b z (pick b y (v r)) ≡ v r
    at r true q = e ∙ ap v (sym (eqb-true r d q))
    at r false q = refl

abbrev pub column : (ℕ → ℕ → ℕ) → ℕ → ℕ → ℕ
column A j r = A r j

abbrev pub value : Op → (ℕ → ℕ) → ℕ
value (AddAssign d s) v = add (v d) (v s)
value (MulAssign d c) v = mul c (v d)
value (FMA d s c) v = add (v d) (mul c (v s))

abbrev pub step : Op → (ℕ → ℕ) → ℕ → ℕ
step o v = put v (dest o) (value o v)

abbrev pub run : List Op → (ℕ → ℕ) → ℕ → ℕ
run [] v = v
run (o ∷ os) v = run os (step o v)

abbrev pub inverse : Op → Op
inverse (AddAssign d s) = AddAssign d s
inverse (MulAssign d c) = MulAssign d (inv c)
inverse (FMA d s c) = FMA d s c

abbrev pub undo : List Op → List Op
undo [] = []
undo (o ∷ os) = undo os ++ (inverse o ∷ [])

value_octet : (o : Op) (v : ℕ → ℕ) → Octets v → Octet (value o v)
value_octet (AddAssign d s) v h = add_octet (v d) (v s) (h d) (h s)
value_octet (MulAssign d c) v h = mul_octet c (v d)
value_octet (FMA d s c) v h = add_octet (v d) (mul c (v s)) (h d) (mul_octet c (v s))

pub step_octet : (o : Op) (v : ℕ → ℕ) → Octets v → Octets (step o v)
step_octet o v h r = at (eqb r (dest o))
  where
    at : (b : Bool) → Octet (pick b (value o v) (v r))
    at true = value_octet o v h
    at false = h r

pub run_octet : (os : List Op) (v : ℕ → ℕ) → Octets v → Octets (run os v)
run_octet [] v h = h
run_octet (o ∷ os) v h = run_octet os (step o v) (step_octet o v h)

pub run-append : (os ps : List Op) (v : ℕ → ℕ) → run (os ++ ps) v ≡ run ps (run os v)
run-append [] ps v = refl
run-append (o ∷ os) ps v = run-append os ps (step o v)

pub step_local : (m : ℕ) (o : Op) (v w : ℕ → ℕ) → Within m o → ((r : ℕ) → r < m → v r ≡ w r) → (r : ℕ) → r < m → step o v r ≡ step o w r
step_local m o v w b h r l = at (eqb r (dest o))
  where
    val : (o : Op) → Within m o → value o v ≡ value o w
    val (AddAssign d s) b = ap₂ (λ (x y : ℕ). add x y) (h d b.0) (h s b.1)
    val (MulAssign d c) b = ap (λ (x : ℕ). mul c x) (h d b.0)
    val (FMA d s c) b = ap₂ (λ (x y : ℕ). add x (mul c y)) (h d b.0) (h s b.1)

    at : (t : Bool) → pick t (value o v) (v r) ≡ pick t (value o w) (w r)
    at true = val o b
    at false = h r l

pub run_local : (m : ℕ) (os : List Op) (v w : ℕ → ℕ) → Each (Within m) os → ((r : ℕ) → r < m → v r ≡ w r)
    → (r : ℕ) → r < m → run os v r ≡ run os w r
run_local m [] v w b h = h
run_local m (o ∷ os) v w b h = run_local m os (step o v) (step o w) b.1 (step_local m o v w b.0 h)

pub run-zero : (os : List Op) → run os (λ _. 0) ≡ (λ _. 0)
run-zero [] = refl
run-zero (o ∷ os) = ap (λ (u : ℕ → ℕ). run os u) (fun_ext (λ r. at r (eqb r (dest o)))) ∙ run-zero os
  where
    val : (o : Op) → value o (λ _. 0) ≡ 0
    val (AddAssign d s) = add-zero 0
    val (MulAssign d c) = mul-zero c
    val (FMA d s c) = ap (λ (x : ℕ). add 0 x) (mul-zero c) ∙ add-zero 0

    at : (r : ℕ) (t : Bool) → pick t (value o (λ _. 0)) 0 ≡ 0
    at r true = val o
    at r false = refl

abbrev pub runs : List Op → (ℕ → ℕ → ℕ) → ℕ → ℕ → ℕ
runs os A r j = run os (column A j) r

abbrev pub times : ℕ → (ℕ → ℕ → ℕ) → (ℕ → ℕ) → ℕ → ℕ
times n A x r = dot n (A r) x

step-times : (n : ℕ) (o : Op) (A : ℕ → ℕ → ℕ) (x : ℕ → ℕ) (r : ℕ)
    → step o (times n A x) r ≡ dot n (λ j. step o (column A j) r) x
step-times n o A x r = at (eqb r (dest o))
  where
    val : (o : Op) → value o (times n A x) ≡ dot n (λ j. value o (column A j)) x
    val (AddAssign d s) = sym (dot-add n (A d) (A s) x)
    val (MulAssign d c) = sym (dot-mul n c (A d) x)
    val (FMA d s c) =
        sym (dot-add n (A d) (λ j. mul c (A s j)) x ∙ ap (λ (z : ℕ). add (dot n (A d) x) z) (dot-mul n c (A s) x))

    at : (t : Bool) → pick t (value o (times n A x)) (times n A x r) ≡ dot n (λ j. pick t (value o (column A j)) (A r j)) x
    at true = val o
    at false = refl

pub run-times : (n : ℕ) (os : List Op) (A : ℕ → ℕ → ℕ) (x : ℕ → ℕ)
    → run os (times n A x) ≡ times n (runs os A) x
run-times n [] A x = refl
run-times n (o ∷ os) A x =
    ap (λ (u : ℕ → ℕ). run os u) (fun_ext (step-times n o A x))
    ∙ run-times n os (λ r j. step o (column A j) r) x
