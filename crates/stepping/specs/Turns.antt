-- What a turn of phase one's loop leaves.
--   as_shape     a shape, as the definition has it
--   Turned      one step more, or the same where no row can be chosen
--   turned-one  two outcomes that meet it are equal: the answer, the order of columns and rows, how many singles there are, the labels and the next one
--   stepped_on  slices that hold the phase with the chosen row taken hold the phase after one step more
-- Assumes nothing.
use Rattle.std.specs.Prelude.{◌≡◌, refl, Option, Some, None, List, ℕ, ◌+◌}
use Rattle.std.proofs.Common.{sym, ap₂, subst, ◌∙◌, arith}
use Rattle.std.proofs.Math.Option.{Option as Maybe, some, none}
use Rattle.loops.specs.Entry.{entry_at}
use Rattle.phases.specs.System.{Shape as Defined}
use Rattle.phases.specs.One.{Phase, taken}
use Rattle.grid.specs.declared.shapes.Shape.{Shape}
use Rattle.stepping.specs.declared.State.{State}
use Rattle.stepping.specs.Stands.{Stands, stands_one, Standing, At, row_at, at_some}

abbrev pub as_shape : Shape → Defined
as_shape z = record { m = z.m; n = z.l; s = z.s; h = z.h; w = z.w }

abbrev pub Turned : Defined → List ℕ → State → List ℕ → List ℕ → List ℕ → List ℕ → ℕ → List ℕ → ℕ → Option State → Type 0
Turned z bits st c d ones s n labels next (Some r) = (r.i ≡ st.i + 1) × Standing z bits c d ones s labels r.i r.u n next × ((x : ℕ) × (row_at z bits st.i ≡ some x))
Turned z bits st c d ones s n labels next None = (row_at z bits st.i ≡ none) × Standing z bits c d ones s labels st.i st.u n next

stepped_one : {r t : State} → r.i ≡ t.i → r.u ≡ t.u → Some r ≡ Some t
stepped_one {r} {t} a b = ap₂ (λ (i u : ℕ). Some (record { i = i; u = u })) a b

some-none : {x : ℕ} {o : Maybe ℕ} → o ≡ some x → o ≡ none → ⊥
some-none {x} {o} e f = let h : ◌≡◌ {A = ℕ} 0 1 = cc in absurd (omega arith)

pub turned-one : (z : Defined) (bits : List ℕ) (st : State) (c d ones s labels c' d' ones' s' labels' : List ℕ) (n next n' next' : ℕ) (r t : Option State)
    → Turned z bits st c d ones s n labels next r → Turned z bits st c' d' ones' s' n' labels' next' t → (r ≡ t) × (c ≡ c') × (d ≡ d') × (n ≡ n') × (labels ≡ labels') × (next ≡ next')
turned-one z bits st c d ones s labels c' d' ones' s' labels' n next n' next' (Some r) (Some t) p q =
    let e : t.i ≡ r.i = q.0 ∙ sym p.0 in
    let h = stands_one p.1 (subst (λ (k : ℕ). Standing z bits c' d' ones' s' labels' k t.u n' next') e q.1) in
    (stepped_one (sym e) h.3, h.0, h.1, h.4, h.6, h.7)
turned-one z bits st c d ones s labels c' d' ones' s' labels' n next n' next' (Some r) None p q = absurd (some-none p.2.1 q.0)
turned-one z bits st c d ones s labels c' d' ones' s' labels' n next n' next' None (Some t) p q = absurd (some-none q.2.1 p.0)
turned-one z bits st c d ones s labels c' d' ones' s' labels' n next n' next' None None p q = let h = stands_one p.1 q.1 in (refl, h.0, h.1, h.4, h.6, h.7)

pub stepped_on : (z : Defined) (bits : List ℕ) {c d ones s labels : List ℕ} (i : ℕ) {u n next : ℕ} (x : ℕ) → row_at z bits i ≡ some x
    → Stands z bits (taken (entry_at z.n bits) z (At z bits i) x) c d ones s labels (i + 1) u n next → Standing z bits c d ones s labels (i + 1) u n next
stepped_on z bits {c} {d} {ones} {s} {labels} i {u} {n} {next} x e h =
    subst (λ (p : Phase). Stands z bits p c d ones s labels (i + 1) u n next) (sym (at_some z bits i x e)) h
