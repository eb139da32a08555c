-- Row operations. A column of rows is a function of the row. An operation acts on each column by itself, so a matrix and a slab are columns side by side.
--   back, forth             an operation and what undoes it, and the other way round, change nothing
--   undo-run, run-undo      a list and its undo, and the other way round, change nothing
--   good_undo, within_undo  what undoes a good list is good, within the same rows
-- Assumes nothing.
use Rattle.std.specs.Prelude.{◌≡◌, refl, ◌≢◌, List, [], ◌∷◌, ℕ}
use Rattle.std.proofs.Common.{sym, ap, ap₂, ◌∙◌, arith}
use Rattle.octet.specs.Octet.{add, mul, inverse as inv}
use Rattle.octet.specs.Field.{inv_octet, zero-mul, add-undo, Octets}
use Rattle.octet.proofs.Field.{inv_mul, mul-undo, mul_redo}
use Rattle.oplist.specs.declared.Op.{Op}
use Rattle.oplist.specs.declared.Op.TheVariants.{AddAssign, MulAssign, FMA}
use Rattle.oplist.specs.Ops.{Each, each_append}
use Rattle.oplist.specs.Ops.{Within}
use Rattle.algebra.specs.Rows.{Good, inverse, put, put_back, put_other, put_same, run, run-append, run_octet, step, step_octet, undo}

pub back : (o : Op) (v : ℕ → ℕ) → Good o → Octets v → step (inverse o) (step o v) ≡ v
back (AddAssign d s) v g h =
    let n : ℕ = add (v d) (v s) in
    put_back v d n (add (put v d n d) (put v d n s))
    (ap₂ (λ (x y : ℕ). add x y) (put_same v d n d refl) (put_other v d n s g) ∙ add-undo (v d) (v s))
back (MulAssign d c) v g h =
    let n : ℕ = mul c (v d) in
    put_back v d n (mul (inv c) (put v d n d))
    (ap (λ (x : ℕ). mul (inv c) x) (put_same v d n d refl) ∙ mul-undo c (v d) g.0 g.1 (h d))
back (FMA d s c) v g h =
    let n : ℕ = add (v d) (mul c (v s)) in
    put_back v d n (add (put v d n d) (mul c (put v d n s)))
    (ap₂ (λ (x y : ℕ). add x (mul c y)) (put_same v d n d refl) (put_other v d n s g) ∙ add-undo (v d) (mul c (v s)))

pub forth : (o : Op) (v : ℕ → ℕ) → Good o → Octets v → step o (step (inverse o) v) ≡ v
forth (AddAssign d s) v g h = back (AddAssign d s) v g h
forth (MulAssign d c) v g h =
    let n : ℕ = mul (inv c) (v d) in
    put_back v d n (mul c (put v d n d))
    (ap (λ (x : ℕ). mul c x) (put_same v d n d refl) ∙ mul_redo c (v d) g.0 g.1 (h d))
forth (FMA d s c) v g h = back (FMA d s c) v g h

pub undo-run : (os : List Op) (v : ℕ → ℕ) → Each Good os → Octets v → run (undo os) (run os v) ≡ v
undo-run [] v g h = refl
undo-run (o ∷ os) v g h =
    run-append (undo os) (inverse o ∷ []) (run os (step o v))
    ∙ ap (λ (w : ℕ → ℕ). step (inverse o) w) (undo-run os (step o v) g.1 (step_octet o v h))
    ∙ back o v g.0 h

good_inverse : (o : Op) → Good o → Good (inverse o)
good_inverse (AddAssign d s) g = g
good_inverse (MulAssign d c) g = (inv_octet c, nonzero)
  where
    nonzero : inv c ≢ 0
    nonzero e =
        let z : ◌≡◌ {A = ℕ} 0 1 = sym (zero-mul c) ∙ ap (λ (x : ℕ). mul x c) (sym e) ∙ inv_mul c g.0 g.1 in
        omega arith
good_inverse (FMA d s c) g = g

pub good_undo : (os : List Op) → Each Good os → Each Good (undo os)
good_undo [] g = tt
good_undo (o ∷ os) g = each_append Good (undo os) (inverse o ∷ []) (good_undo os g.1) (good_inverse o g.0, tt)

pub run-undo : (os : List Op) (v : ℕ → ℕ) → Each Good os → Octets v → run os (run (undo os) v) ≡ v
run-undo [] v g h = refl
run-undo (o ∷ os) v g h =
    let w : ℕ → ℕ = run (undo os) v in
    ap (λ (u : ℕ → ℕ). run os (step o u)) (run-append (undo os) (inverse o ∷ []) v)
    ∙ ap (λ (u : ℕ → ℕ). run os u) (forth o w g.0 (run_octet (undo os) v h))
    ∙ run-undo os v g.1 h

within_inverse : (m : ℕ) (o : Op) → Within m o → Within m (inverse o)
within_inverse m (AddAssign d s) b = b
within_inverse m (MulAssign d c) b = b
within_inverse m (FMA d s c) b = b

pub within_undo : (m : ℕ) (os : List Op) → Each (Within m) os → Each (Within m) (undo os)
within_undo m [] b = tt
within_undo m (o ∷ os) b =
    each_append (Within m) (undo os) (inverse o ∷ []) (within_undo m os b.1) (within_inverse m o b.0, tt)
