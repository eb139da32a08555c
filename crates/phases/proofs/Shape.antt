-- The shape of the matrix after each phase, in RFC 6330's form, also where phase one ended early. Columns are named by the steps that took them:
-- ts are phase one's steps and us phase two's.
--   first-shape   the matrix has the first shape after any number of steps of phase one
--   shapes   and each shape after its phase, where the run is solved: the steps are a course, so that each column is exactly one step's
--   every-unit       so in the end every column is the unit of one row
--   course_shapes    the same for any course, where the lists are those by step
-- Assumes nothing.
use Rattle.std.specs.Prelude.{◌≡◌, refl, Bool, true, false, cond, List, [], ◌++◌, ℕ, ◌+◌, ◌<◌, ◌≤◌, length}
use Rattle.std.proofs.Common.{sym, ap, ap₂, ◌∙◌, subst, arith}
use Rattle.loops.specs.Out.{Out}
use Rattle.loops.specs.Way.{Way, go, halt}
use Rattle.oplist.specs.declared.Op.{Op}
use Rattle.algebra.specs.Sums.{delta}
use Rattle.algebra.specs.Rows.{runs, undo}
use Rattle.phases.specs.System.{Shape, range, octet_rows}
use Rattle.phases.specs.One.{Step, Phase, rows_of, phase_after, phase_one, ops_one}
use Rattle.phases.specs.Two.{Second, acts, working, forward}
use Rattle.phases.specs.Rest.{phase_four}
use Rattle.phases.specs.Run.{Run, whole, solved, finish, second, refused, goes_on, defined}
use Rattle.phases.specs.Occ.{occ, Member}
use Rattle.phases.specs.Fit.{Fit, all-rows}
use Rattle.phases.proofs.Fit.{rows-occ, rows_once}
use Rattle.phases.specs.Sweep.{every_map, last-rows, last-cols, rows-kept}
use Rattle.phases.proofs.Sweep.{triangle, shape, shape-clear, kept-v}
use Rattle.phases.specs.Gauss.{ops_two, above}
use Rattle.phases.specs.Solved.{Among, every-at, every_of, found, Course, list_two, list_kept, the_list}
use Rattle.phases.proofs.Solved.{G-first, G-second, undone, kept_off, cleared, four_leaves, final}
use Rattle.phases.specs.Walk.{Walked}
use Rattle.phases.proofs.Walk.{walked}
use Rattle.phases.specs.Matrix.{runs_append}
use Rattle.phases.specs.Forward.{Ended}
use Rattle.phases.proofs.Means.{walk, ended, two_is, three-is, course}
use Rattle.phases.specs.Shape.{First, Identity, Reduced, Shapes, Sparse, Upper}

module _ (z : Shape) (A : ℕ → ℕ → ℕ) (fit : Fit z A) where
  all : (x : ℕ) → x < z.m → Member (all-rows z) x
  all x l = omega (arith, (rows-occ z fit.rows_fit x).0 l)

  -- phase one, after any number of steps
  pub first-shape : (k : ℕ) → First z.m A (runs (ops_one A (phase_after A z k).steps) A) (phase_after A z k).steps
      ((phase_after A z k).now.elig ++ octet_rows z) (phase_after A z k).now.cols
  first-shape k = record {
    unit = every_map (λ t. (x : ℕ) → Member (all-rows z) x → runs (ops_one A ts) A x t.pivot ≡ delta x t.row)
        (λ t. (x : ℕ) → x < z.m → runs (ops_one A ts) A x t.pivot ≡ delta x t.row) ts (λ t e x l. e x (all x l))
        (shape A ts (all-rows z) v W.legal once A fit.entries fit.entries (λ x q a b. refl));
    clear = every_map (λ t. (q : ℕ) → Member (last-cols ts v) q → runs (ops_one A ts) A t.row q ≡ 0)
        (λ t. (q : ℕ) → Member (phase_after A z k).now.cols q → runs (ops_one A ts) A t.row q ≡ 0) ts
        (λ t e q l. e q (subst (λ (c : List ℕ). Member c q) (sym W.cols-left) l))
        (shape-clear A ts (all-rows z) v W.legal once A fit.entries (λ x q a b. refl));
    same = λ x q i j. kept-v A ts (all-rows z) v W.legal once A fit.entries (λ y c a b. refl) x q
        (subst (λ (c : List ℕ). Member c x) (sym W.rows_left) i) (subst (λ (c : List ℕ). Member c q) (sym W.cols-left) j);
  }
    where
      W : Walked z A (phase_after A z k)
      W = walked z A fit k

      ts : List Step
      ts = (phase_after A z k).steps

      v : List ℕ
      v = range 0 z.w

      once : (y : ℕ) → occ y (all-rows z) ≤ 1
      once = rows_once z fit.rows_fit

-- each column is exactly one step's, and in the end the unit of its row
pub every-unit : {z : Shape} {A : ℕ → ℕ → ℕ} {ts us : List Step} {left : List ℕ} {r : Run} → Shapes z A ts us left r → (q : ℕ) → q < z.n
    → (t : Step) × Among t (ts ++ us) × (t.pivot ≡ q) × ((x : ℕ) → x < z.m → runs (whole r) A x q ≡ delta x t.row)
every-unit {z} {A} {ts} {us} {left} {r} S q l =
    let f = found q (ts ++ us) (omega (arith, S.course.every q l)) in (
      f.0,
      f.1,
      f.2,
      λ x h. ap (runs (whole r) A x) (sym f.2) ∙ every-at (λ t. (y : ℕ) → y < z.m → runs (whole r) A y t.pivot ≡ delta y t.row) (ts ++ us) f.0 S.five f.1 x h,
    )

-- any legal run that gives every column a row, by another engine too
module _ (z : Shape) (A : ℕ → ℕ → ℕ) (ts us : List Step) (c : Course z.m z.n A (all-rows z) (range 0 z.w) ts us) where
  abbrev rows : List ℕ
  rows = all-rows z

  abbrev v : List ℕ
  v = range 0 z.w

  abbrev one : List Op
  one = ops_one A ts

  abbrev two : List Op
  two = list_two (runs one A) us

  abbrev three : List Op
  three = undo (list_kept A ts)

  abbrev four : List Op
  four = phase_four A (rows_of ts) us

  abbrev D : ℕ → ℕ → ℕ
  D = runs (ops_two (runs one A) us) (runs one A)

  abbrev G : ℕ → ℕ → ℕ
  G = runs (above D [] us) D

  two_runs : runs (one ++ two) A ≡ G
  two_runs = runs_append one two A ∙ runs_append (ops_two (runs one A) us) (above D [] us) (runs one A)

  three-runs : runs (one ++ two ++ three) A ≡ runs three G
  three-runs = runs_append (one ++ two) three A ∙ ap (runs three) two_runs

  four_runs : runs (one ++ two ++ three ++ four) A ≡ runs four (runs three G)
  four_runs = runs_append (one ++ two ++ three) four A ∙ ap (runs four) three-runs

  off : (x : ℕ) → Member (last-rows ts rows) x → occ x (rows_of ts) ≡ 0
  off x i = omega (arith, rows-kept A ts rows v c.legal x, c.once x)

  pub course_shapes : (r : Run) → r.one ≡ one → r.two ≡ two → r.three ≡ three → r.four ≡ four → r.five ≡ list_kept A ts
      → Shapes z A ts us (last-rows ts rows) r
  course_shapes r e-one e-two e-three e-four e-five = record {
    course = c;
    two = subst (λ (M : ℕ → ℕ → ℕ). Reduced z.m M ts us (last-rows ts rows)) (sym two_runs ∙ sym (ap₂ (λ (a b : List Op). runs (a ++ b) A) e-one e-two)) (record {
      unit = every_of (λ t. (x : ℕ) → x < z.m → G x t.pivot ≡ delta x t.row) ts
          (λ t a x l. G-first z.m z.n A rows v ts us c t a x (c.all x l));
      lower = every_of (λ u. (x : ℕ) → Member (last-rows ts rows) x → G x u.pivot ≡ delta x u.row) us
          (λ u a x i. G-second z.m z.n A rows v ts us c u a x i);
    });
    three = subst (λ (M : ℕ → ℕ → ℕ). Sparse A M ts us (last-rows ts rows)) (sym three-runs ∙ sym (ap (λ (l : List Op). runs l A) to_three)) (record {
      given = λ x q i. undone z.m z.n A rows v ts us c q x i;
      triangle = triangle A ts rows v c.legal;
      lower = every_of (λ u. (x : ℕ) → Member (last-rows ts rows) x → runs three G x u.pivot ≡ delta x u.row) us
          (λ u a x i. kept_off z.m z.n A rows v ts us c u.pivot x (off x i) ∙ G-second z.m z.n A rows v ts us c u a x i);
    });
    four = subst (λ (M : ℕ → ℕ → ℕ). Upper A M ts us) (sym four_runs ∙ sym (ap (λ (l : List Op). runs l A) to_four)) (record {
      clear = every_of (λ u. (x : ℕ) → Member (rows_of ts) x → runs four (runs three G) x u.pivot ≡ 0) us
          (λ u a x i. cleared z.m z.n A rows v ts us c u a x i);
      given = every_of (λ t. (x : ℕ) → Member (rows_of ts) x → runs four (runs three G) x t.pivot ≡ A x t.pivot) ts
          (λ t a x i. ap (λ (w : ℕ → ℕ). w x) (four_leaves z.m z.n A rows v ts us c t a) ∙ undone z.m z.n A rows v ts us c t.pivot x i);
    });
    five = subst (λ (l : List Op). Identity z.m (runs l A) (ts ++ us)) (sym to_five)
        (every_of (λ t. (x : ℕ) → x < z.m → runs (the_list A ts us) A x t.pivot ≡ delta x t.row) (ts ++ us)
        (λ t a x l. final z.m z.n A rows v ts us c t a x (c.all x l)));
  }
    where
      to_three : r.one ++ r.two ++ r.three ≡ one ++ two ++ three
      to_three = cc

      to_four : r.one ++ r.two ++ r.three ++ r.four ≡ one ++ two ++ three ++ four
      to_four = cc

      to_five : r.one ++ r.two ++ r.three ++ r.four ++ r.five ≡ the_list A ts us
      to_five = cc

-- the defined run
pub shapes : (z : Shape) (A : ℕ → ℕ → ℕ) → Fit z A → (wide : Bool) (order : List ℕ) → (defined z A wide).end ≡ solved order
    → (us : List Step) × Shapes z A (phase_one A z).steps us ((phase_one A z).now.elig ++ octet_rows z) (defined z A wide)
shapes z A fit wide order e = at_end (goes_on z A wide p.now.cols) e
  where
    p : Phase
    p = phase_one A z

    ts : List Step
    ts = p.steps

    left : List ℕ
    left = p.now.elig ++ octet_rows z

    cols : List ℕ
    cols = p.now.cols ++ p.out

    at_way : (w : Way (Out Op Second)) → Ended z.m (runs (ops_one A ts) A) cols left (length cols) w
        → (finish z A ts (ops_one A ts) cols w).end ≡ solved order → (us : List Step) × Shapes z A ts us left (finish z A ts (ops_one A ts) cols w)
    at_way (go f) S q = (
      f.st.steps,
      subst (λ (l : List ℕ). Shapes z A ts f.st.steps l (finish z A ts (ops_one A ts) cols (go f))) (walk z A fit).rows_left
          (course_shapes z A ts f.st.steps (course z A fit f S) (finish z A ts (ops_one A ts) cols (go f))
          refl (two_is z A fit f S) (three-is z A fit f S) refl refl),
    )
    at_way (halt j f) S q = absurd (let h : ◌≡◌ {A = ℕ} 0 1 = cc in omega arith)

    at_end : (b : Bool) → (cond b (second z A p) (refused z A p)).end ≡ solved order
        → (us : List Step) × Shapes z A ts us left (cond b (second z A p) (refused z A p))
    at_end true q = at_way (forward cols left (acts (ops_one A ts) (working A z.m cols))) (ended z A fit) q
    at_end false q = absurd (let h : ◌≡◌ {A = ℕ} 0 1 = cc in omega arith)
