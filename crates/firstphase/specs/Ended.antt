-- The loop of phase one, and its end.
--   list_at         phase one's list after i steps
--   Looping        after i steps the slices hold the definition's phase, and the list room its list
--   loop_start, loop_next   it begins before the first step, makes a step
--   step_clear     after a step, what recording its additions asks is there
--   Ended          at the end of a phase the slices hold its columns and rows by place, and the list room its list
--   ended          where no row can be chosen, phase one is at its end
--   spent          where V has no column left, no row can be chosen
--   ended-none     the end, after a turn that found no row
--   ended_spent    the end, where V has no column left
--   Outcome        what phase one's answer says of a phase: after so many steps no column is left in V, or some are
--   outcome-one    two outcomes are equal: answer, columns, rows and journal
--   same_cols, same_rows, same_ones, same_singles, same_labels   the slices keep their lengths from one state to another
--   sum_fits       the steps and the inactive columns together are below 65,536
-- Assumes nothing.
use Rattle.std.specs.Prelude.{◌≡◌, refl, Result, Ok, Err, List, [], ◌∷◌, ◌++◌, ℕ, zero, suc, ◌+◌, ◌-◌, ◌*◌, ◌≤◌, ◌<◌, length}
use Rattle.std.proofs.Common.{sym, ap, subst, ◌∙◌, arith}
use Rattle.std.proofs.Math.Option.{some, none}
use Rattle.loops.specs.Loop.{for_next}
use Rattle.loops.specs.Entry.{entry_at}
use Rattle.oplist.specs.declared.Op.{Op}
use Rattle.rule.specs.Permitted.{count}
use Rattle.phases.specs.System.{Shape, combined, octet_rows}
use Rattle.phases.specs.One.{Step, Phase, rows_of, pivots_of, one, begin, taking, step, phase_one, ops_one}
use Rattle.phases.proofs.Walk.{none_exactly}
use Rattle.tally.specs.Book.{Book, Fair}
use Rattle.clearing.specs.Clear.{Listed, listed-none, listed_then}
use Rattle.stepping.specs.Stands.{Given, Standing, At, row_at, cols_long}
use Rattle.firstphase.specs.declared.Done.{Done}
use Rattle.firstphase.specs.declared.NoPivot.{NoPivot}
use Rattle.firstphase.specs.Clears.{Clear, step_ops, clear_ready, ops_next}

abbrev pub list_at : Shape → List ℕ → List ℕ → ℕ → List Op
list_at z bits octs i = ops_one (combined z bits octs) (At z bits i).steps

pub record Looping (z : Shape) (bits octs : List ℕ) (g₀ : Book) (n₀ : ℕ) (c d ones s labels sizes : List ℕ) (i u n next : ℕ) (g : Book) : Type 0 where
  pub standing : Standing z bits c d ones s labels i u n next
  pub listed : Listed g₀ (list_at z bits octs i) g
  pub room : length sizes ≡ n₀

empty_is : (ts : List Step) → 0 ≡ length ts → ts ≡ []
empty_is [] e = refl
empty_is (t ∷ ts) e = absurd (omega arith)

pub loop_start : {z : Shape} {bits : List ℕ} (octs : List ℕ) {g : Book} {c d ones s labels : List ℕ} (sizes : List ℕ) {i u n next : ℕ} → i ≡ 0 → Fair g → Standing z bits c d ones s labels i u n next
    → Looping z bits octs g (length sizes) c d ones s labels sizes i u n next g
loop_start {z} {bits} octs {g} sizes {i} e f h = record {
  standing = h;
  listed = subst (λ (ts : List Step). Listed g (ops_one (combined z bits octs) ts) g) (sym (empty_is (At z bits i).steps (sym e ∙ h.i_is))) (listed-none f);
  room = refl;
}

module _ {z : Shape} {bits octs : List ℕ} {g₀ : Book} {n₀ : ℕ} {c d ones s labels sizes : List ℕ} {i u n next : ℕ} {g : Book} (v : Given z bits)
    (h : Looping z bits octs g₀ n₀ c d ones s labels sizes i u n next g) where
  pub step_clear : {c' d' ones' s' labels' : List ℕ} {i' u' n' next' : ℕ} → i' ≡ i + 1 → Standing z bits c' d' ones' s' labels' i' u' n' next' → z.h * z.n ≤ length octs → Clear z bits octs i c' d'
  step_clear {c'} {d'} {ones'} {s'} {labels'} {i'} {u'} {n'} {next'} e k o =
      clear_ready i v (subst (λ (j : ℕ). Standing z bits c' d' ones' s' labels' j u' n' next') e k) octs o

  pub loop_next : {c' d' ones' s' labels' sizes' : List ℕ} {i' u' n' next' : ℕ} {g' : Book} → i' ≡ i + 1 → Standing z bits c' d' ones' s' labels' i' u' n' next'
      → (x : ℕ) → row_at z bits i ≡ some x → Listed g (step_ops z bits octs i c' d') g' → length sizes' ≡ length sizes
      → Looping z bits octs g₀ n₀ c' d' ones' s' labels' sizes' i' u' n' next' g'
  loop_next {c'} {d'} {ones'} {s'} {labels'} {sizes'} {i'} {u'} {n'} {next'} {g'} e k x r l w = record {
    standing = k;
    listed = subst (λ (os : List Op). Listed g₀ os g')
        (sym (ap (list_at z bits octs) e ∙ ops_next octs i x v h.standing.i_is r (subst (λ (j : ℕ). Standing z bits c' d' ones' s' labels' j u' n' next') e k)))
        (listed_then h.listed l);
    room = w ∙ h.room;
  }

-- where no row can be chosen, more steps do nothing
at_stays : (z : Shape) (bits : List ℕ) (i k : ℕ) → row_at z bits i ≡ none → At z bits (i + k) ≡ At z bits i
at_stays z bits i zero e = let q : i + 0 ≡ i = omega arith in ap (At z bits) q
at_stays z bits i (suc k) e =
    let q : i + suc k ≡ i + k + 1 = omega arith in
    ap (At z bits) q ∙ for_next 0 (i + k) (λ _. step (entry_at z.n bits) z) (begin (entry_at z.n bits) z) (omega arith)
    ∙ ap (step (entry_at z.n bits) z) (at_stays z bits i k e) ∙ ap (taking (entry_at z.n bits) z (At z bits i)) e

pub record Ended (z : Shape) (bits octs : List ℕ) (p : Phase) (g₀ : Book) (c d : List ℕ) (g : Book) : Type 0 where
  pub cols : c ≡ pivots_of p.steps ++ (p.now.cols ++ p.out)
  pub rows : d ≡ rows_of p.steps ++ (p.now.elig ++ octet_rows z)
  pub listed : Listed g₀ (ops_one (combined z bits octs) p.steps) g

module _ {z : Shape} {bits octs : List ℕ} {g₀ : Book} {n₀ : ℕ} {c d ones s labels sizes : List ℕ} {i u n next : ℕ} {g : Book} (v : Given z bits)
    (h : Looping z bits octs g₀ n₀ c d ones s labels sizes i u n next g) where
  last : row_at z bits i ≡ none → At z bits i ≡ phase_one (entry_at z.n bits) z
  last e =
      let q : i + (z.n - i) ≡ z.n = omega (arith, cols_long v h.standing) in
      sym (ap (At z bits) (sym q) ∙ at_stays z bits i (z.n - i) e)

  pub ended : row_at z bits i ≡ none → Ended z bits octs (phase_one (entry_at z.n bits) z) g₀ c d g
  ended e = subst (λ (p : Phase). Ended z bits octs p g₀ c d g) (last e) (record { cols = h.standing.cols; rows = h.standing.rows; listed = h.listed })

  steps_are : row_at z bits i ≡ none → i ≡ length (phase_one (entry_at z.n bits) z).steps
  steps_are e = subst (λ (p : Phase). i ≡ length p.steps) (last e) h.standing.i_is

  left_are : row_at z bits i ≡ none → length (phase_one (entry_at z.n bits) z).now.cols + i + u ≡ z.n
  left_are e = subst (λ (p : Phase). length p.now.cols + i + u ≡ z.n) (last e) (omega (arith, cols_long v h.standing))

  none_left : (l : List ℕ) (x : ℕ) → length l ≡ 0 → count (one (entry_at z.n bits)) l x ≡ 0
  none_left [] x e = refl
  none_left (q ∷ l) x e = absurd (omega arith)

  pub spent : z.n ≤ i + u → row_at z bits i ≡ none
  spent k = (none_exactly z (entry_at z.n bits) v.fit (At z bits i) h.standing.walked).1
      (λ x m. none_left (At z bits i).now.cols x (omega (arith, cols_long v h.standing)))

abbrev pub Outcome : Shape → List ℕ → List ℕ → Phase → Book → List ℕ → List ℕ → Book → Result Done NoPivot → Type 0
Outcome z bits octs p g₀ c d g (Ok r) = Ended z bits octs p g₀ c d g × (r.steps ≡ length p.steps) × (length p.now.cols ≡ 0)
Outcome z bits octs p g₀ c d g (Err _) = Ended z bits octs p g₀ c d g × (0 < length p.now.cols)

module _ (z : Shape) (bits octs : List ℕ) (p : Phase) (g₀ : Book) {c d c' d' : List ℕ} where
  same_slices : {g g' : Book} → Ended z bits octs p g₀ c d g → Ended z bits octs p g₀ c' d' g' → (c ≡ c') × (d ≡ d') × (g ≡ g')
  same_slices a b = (a.cols ∙ sym b.cols, a.rows ∙ sym b.rows, a.listed.is ∙ sym b.listed.is)

  pub outcome-one : {g g' : Book} (r r' : Result Done NoPivot) → Outcome z bits octs p g₀ c d g r → Outcome z bits octs p g₀ c' d' g' r' → (r ≡ r') × (c ≡ c') × (d ≡ d') × (g ≡ g')
  outcome-one (Ok r) (Ok q) a b =
      let e = same_slices a.0 b.0 in
      (ap (λ (i : ℕ). Ok (record { steps = i })) (a.1 ∙ sym b.1), e.0, e.1, e.2)
  outcome-one (Err r) (Err q) a b = let e = same_slices a.0 b.0 in (refl, e.0, e.1, e.2)
  outcome-one (Ok r) (Err q) a b = absurd (omega (arith, a.2, b.1))
  outcome-one (Err r) (Ok q) a b = absurd (omega (arith, a.1, b.2))

-- the lengths stay
pub same_cols : {z : Shape} {bits : List ℕ} {c d ones s labels c' d' ones' s' labels' : List ℕ} {i u n next i' u' n' next' : ℕ}
    → Standing z bits c d ones s labels i u n next → Standing z bits c' d' ones' s' labels' i' u' n' next' → length c' ≡ length c
same_cols a b = b.wide ∙ sym a.wide

pub same_rows : {z : Shape} {bits : List ℕ} {c d ones s labels c' d' ones' s' labels' : List ℕ} {i u n next i' u' n' next' : ℕ}
    → Standing z bits c d ones s labels i u n next → Standing z bits c' d' ones' s' labels' i' u' n' next' → length d' ≡ length d
same_rows a b = b.tall ∙ sym a.tall

pub same_ones : {z : Shape} {bits : List ℕ} {c d ones s labels c' d' ones' s' labels' : List ℕ} {i u n next i' u' n' next' : ℕ}
    → Standing z bits c d ones s labels i u n next → Standing z bits c' d' ones' s' labels' i' u' n' next' → length ones' ≡ length ones
same_ones a b = b.long ∙ sym a.long

pub same_singles : {z : Shape} {bits : List ℕ} {c d ones s labels c' d' ones' s' labels' : List ℕ} {i u n next i' u' n' next' : ℕ}
    → Standing z bits c d ones s labels i u n next → Standing z bits c' d' ones' s' labels' i' u' n' next' → length s' ≡ length s
same_singles a b = b.sound.room ∙ b.long ∙ sym (a.sound.room ∙ a.long)

pub same_labels : {z : Shape} {bits : List ℕ} {c d ones s labels c' d' ones' s' labels' : List ℕ} {i u n next i' u' n' next' : ℕ}
    → Standing z bits c d ones s labels i u n next → Standing z bits c' d' ones' s' labels' i' u' n' next' → length labels' ≡ length labels
same_labels a b = b.labelled ∙ sym a.labelled

module _ {z : Shape} {bits octs : List ℕ} {g₀ : Book} {n₀ : ℕ} {c d ones s labels sizes : List ℕ} {i u n next : ℕ} {g : Book} (v : Given z bits)
    (h : Looping z bits octs g₀ n₀ c d ones s labels sizes i u n next g) where
  -- a turn that found no row
  pub ended-none : {c' d' ones' s' labels' : List ℕ} {n' next' : ℕ} → (row_at z bits i ≡ none) × Standing z bits c' d' ones' s' labels' i u n' next' → i + u < z.n
      → Ended z bits octs (phase_one (entry_at z.n bits) z) g₀ c' d' g × (0 < length (phase_one (entry_at z.n bits) z).now.cols)
  ended-none {c'} {d'} {ones'} {s'} {labels'} {n'} {next'} t k =
      let a : Looping z bits octs g₀ n₀ c' d' ones' s' labels' sizes i u n' next' g = record { standing = t.1; listed = h.listed; room = h.room } in
      (ended v a t.0, omega (arith, left_are v a t.0))

  pub ended_spent : z.n ≤ i + u
      → Ended z bits octs (phase_one (entry_at z.n bits) z) g₀ c d g × (i ≡ length (phase_one (entry_at z.n bits) z).steps) × (length (phase_one (entry_at z.n bits) z).now.cols ≡ 0)
  ended_spent k = let e = spent v h k in (ended v h e, steps_are v h e, omega (arith, left_are v h e))

  pub sum_fits : i + u < 65536
  sum_fits = omega (arith, cols_long v h.standing, v.few, v.narrow)
