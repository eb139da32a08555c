-- The additions of a step, from slices.
--   below_at        the rows by place after place i, up to the octet rows
--   step_ops        the row at place i clears the column at place i in the eligible rows after it and in the octet rows
--   Clear          what recording them asks
--   clear_ready    after i + 1 steps it is there
--   ops_then       the list of a phase after one row more is chosen: those additions come last
--   ops_next       phase one's list after a step more
-- Assumes nothing.
use Rattle.std.specs.Prelude.{◌≡◌, ◌⊎◌, List, [], ◌∷◌, ◌++◌, ℕ, ◌+◌, ◌-◌, ◌*◌, ◌≤◌, ◌<◌, length, get_or}
use Rattle.std.proofs.Common.{sym, ap, subst, ◌∙◌, append_assoc, append-nil, arith, get_or-append-add}
use Rattle.std.proofs.Math.Option.{some}
use Rattle.std.proofs.Math.ListN.{get_or-append}
use Rattle.rule.specs.Sets.{in_at}
use Rattle.loops.specs.Part.{part, row_within}
use Rattle.loops.specs.Entry.{entry_at}
use Rattle.oplist.specs.declared.Op.{Op}
use Rattle.rule.specs.Lists.{In}
use Rattle.rule.specs.Rule.{arrange, without, Cut}
use Rattle.phases.specs.System.{Shape, range, combined, first_rows, octet_rows}
use Rattle.phases.specs.One.{Step, Phase, rows_of, pivots_of, one, taken, clears, ops_one}
use Rattle.phases.specs.ByPlace.{rows_join, pivots_join, length-rows_of, length_pivots_of}
use Rattle.phases.specs.Occ.{occ-append, in_member, member_in}
use Rattle.phases.specs.Fit.{all-rows, cols-below}
use Rattle.phases.proofs.Fit.{rows-below}
use Rattle.phases.specs.Sweep.{rows-kept}
use Rattle.grid.specs.Grid.{Under, Rows}
use Rattle.clearing.specs.Clear.{Binary, outside}
use Rattle.stepping.specs.Stands.{Given, Stands, At, row_at, at_some, rows-part, rows_long, cols_long}

abbrev pub below_at : Shape → ℕ → List ℕ → List ℕ
below_at z i d = part (i + 1) (z.m - z.h - (i + 1)) d

abbrev pub step_ops : Shape → List ℕ → List ℕ → ℕ → List ℕ → List ℕ → List Op
step_ops z bits octs i c d = clears (λ y. combined z bits octs y (get_or c i 0)) (get_or d i 0) (below_at z i d ++ octet_rows z)

pub record Clear (z : Shape) (bits octs : List ℕ) (i : ℕ) (c d : List ℕ) : Type 0 where
  pub at_c : i < length c
  pub at_d : i < length d
  pub fits : z.h ≤ z.m
  pub low : i + 1 ≤ z.m - z.h
  pub high : z.m - z.h ≤ length d
  pub pivot : get_or c i 0 < z.n
  pub row : get_or d i 0 < 65536
  pub rows : Rows z.n (length bits) (below_at z i d)
  pub binary : Binary z.n bits (get_or c i 0) (below_at z i d)
  pub few : Under 65536 (below_at z i d)
  pub out : (y : ℕ) → In y (below_at z i d) → (y < z.s) ⊎ (z.s + z.h ≤ y)
  pub octets : z.h * z.n ≤ length octs
  pub small : z.s + z.h ≤ 65536

module _ {z : Shape} {bits : List ℕ} {p : Phase} {c d ones s labels : List ℕ} (i : ℕ) {u n next : ℕ} (g : Given z bits) (h : Stands z bits p c d ones s labels (i + 1) u n next) where
  below-is : below_at z i d ≡ p.now.elig
  below-is = rows-part g h

  i_long : length p.steps ≡ i + 1
  i_long = sym h.i_is

  pivot_is : get_or c i 0 ≡ get_or (pivots_of p.steps) i 0
  pivot_is = ap (λ (v : List ℕ). get_or v i 0) h.cols ∙ get_or-append (pivots_of p.steps) (p.now.cols ++ p.out) 0 i (omega (arith, i_long, length_pivots_of p.steps))

  row_is : get_or d i 0 ≡ get_or (rows_of p.steps) i 0
  row_is = ap (λ (v : List ℕ). get_or v i 0) h.rows ∙ get_or-append (rows_of p.steps) (p.now.elig ++ octet_rows z) 0 i (omega (arith, i_long, length-rows_of p.steps))

  pivot_low : get_or c i 0 < z.n
  pivot_low = subst (λ (q : ℕ). q < z.n) (sym pivot_is)
      (cols-below z g.fit.cols_fit (get_or (pivots_of p.steps) i 0)
      (omega (
        arith,
        h.walked.columns (get_or (pivots_of p.steps) i 0),
        in_member (get_or (pivots_of p.steps) i 0) (pivots_of p.steps) (in_at (pivots_of p.steps) i (omega (arith, i_long, length_pivots_of p.steps))),
      )))

  row_low : get_or d i 0 < z.m
  row_low = subst (λ (y : ℕ). y < z.m) (sym row_is)
      (rows-below z g.fit.rows_fit (get_or (rows_of p.steps) i 0)
      (omega (
        arith,
        rows-kept (entry_at z.n bits) p.steps (all-rows z) (range 0 z.w) h.walked.legal (get_or (rows_of p.steps) i 0),
        in_member (get_or (rows_of p.steps) i 0) (rows_of p.steps) (in_at (rows_of p.steps) i (omega (arith, i_long, length-rows_of p.steps))),
      )))

  elig_first : (y : ℕ) → In y p.now.elig → In y (first_rows z)
  elig_first y m = member_in y (first_rows z) (h.walked.rest_in y (in_member y p.now.elig m))

  elig_low : (y : ℕ) → In y p.now.elig → y < z.m
  elig_low y m = rows-below z g.fit.rows_fit y (omega (arith, occ-append y (first_rows z) (octet_rows z), h.walked.rest_in y (in_member y p.now.elig m)))

  rows_then : Rows z.n (length bits) p.now.elig
  rows_then = record {
    at = λ k l. subst (λ (w : ℕ). get_or p.now.elig k 0 * z.n + z.n ≤ w) (sym g.size)
        (row_within z.n z.m (get_or p.now.elig k 0) (elig_low (get_or p.now.elig k 0) (in_at p.now.elig k l)));
  }

  binary_then : Binary z.n bits (get_or c i 0) p.now.elig
  binary_then = record {
    at = λ k l. g.fit.binary (get_or p.now.elig k 0) (get_or c i 0)
        (h.walked.rest_in (get_or p.now.elig k 0) (in_member (get_or p.now.elig k 0) p.now.elig (in_at p.now.elig k l))) pivot_low;
  }

  few_then : Under 65536 p.now.elig
  few_then = record { at = λ k l. omega (arith, elig_low (get_or p.now.elig k 0) (in_at p.now.elig k l), g.few) }

  pub clear_ready : (octs : List ℕ) → z.h * z.n ≤ length octs → Clear z bits octs i c d
  clear_ready octs o = record {
    at_c = omega (arith, cols_long g h, h.wide);
    at_d = omega (arith, rows_long g h, h.tall);
    fits = omega (arith, rows_long g h);
    low = omega (arith, rows_long g h);
    high = omega (arith, h.tall);
    pivot = pivot_low;
    row = omega (arith, row_low, g.few);
    rows = subst (Rows z.n (length bits)) (sym below-is) rows_then;
    binary = subst (Binary z.n bits (get_or c i 0)) (sym below-is) binary_then;
    few = subst (Under 65536) (sym below-is) few_then;
    out = λ y m. outside z g.fit.rows_fit y (elig_first y (subst (In y) below-is m));
    octets = o;
    small = omega (arith, g.fit.rows_fit, g.few);
  }

ops_join : (A : ℕ → ℕ → ℕ) (ts : List Step) (t : Step) → ops_one A (ts ++ (t ∷ [])) ≡ ops_one A ts ++ clears (λ y. A y t.pivot) t.row t.under
ops_join A [] t = append-nil (clears (λ y. A y t.pivot) t.row t.under)
ops_join A (u ∷ ts) t = ap (λ (os : List Op). clears (λ y. A y u.pivot) u.row u.under ++ os) (ops_join A ts t)
    ∙ sym (append_assoc (clears (λ y. A y u.pivot) u.row u.under) (ops_one A ts) (clears (λ y. A y t.pivot) t.row t.under))

last-at : (a : List ℕ) (b : ℕ) (rest : List ℕ) (i : ℕ) → i ≡ length a → get_or ((a ++ (b ∷ [])) ++ rest) i 0 ≡ b
last-at a b rest i e = ap (λ (l : List ℕ). get_or l i 0) (append_assoc a (b ∷ []) rest) ∙ ap (λ (k : ℕ). get_or (a ++ (b ∷ rest)) k 0) (let z : i ≡ length a + 0 = omega arith in z) ∙ get_or-append-add a (b ∷ rest) 0 0

module _ {z : Shape} {bits : List ℕ} (octs : List ℕ) (p : Phase) (x : ℕ) {c d ones s labels : List ℕ} (i : ℕ) {u n next : ℕ} (g : Given z bits) (l : i ≡ length p.steps)
    (h : Stands z bits (taken (entry_at z.n bits) z p x) c d ones s labels (i + 1) u n next) where
  abbrev k : Cut
  k = arrange (one (entry_at z.n bits)) p.now.cols x

  abbrev new : Step
  new = record { row = x; pivot = k.pivot; under = without x p.now.elig ++ octet_rows z; left = k.rest }

  pivot_last : get_or c i 0 ≡ k.pivot
  pivot_last = ap (λ (v : List ℕ). get_or v i 0) (h.cols ∙ ap (λ (a : List ℕ). a ++ (k.rest ++ (k.gone ++ p.out))) (pivots_join p.steps (new ∷ [])))
      ∙ last-at (pivots_of p.steps) k.pivot (k.rest ++ (k.gone ++ p.out)) i (l ∙ sym (length_pivots_of p.steps))

  row_last : get_or d i 0 ≡ x
  row_last = ap (λ (v : List ℕ). get_or v i 0) (h.rows ∙ ap (λ (a : List ℕ). a ++ (without x p.now.elig ++ octet_rows z)) (rows_join p.steps (new ∷ [])))
      ∙ last-at (rows_of p.steps) x (without x p.now.elig ++ octet_rows z) i (l ∙ sym (length-rows_of p.steps))

  pub ops_then : ops_one (combined z bits octs) (taken (entry_at z.n bits) z p x).steps ≡ ops_one (combined z bits octs) p.steps ++ step_ops z bits octs i c d
  ops_then = ops_join (combined z bits octs) p.steps new
      ∙ ap (λ (os : List Op). ops_one (combined z bits octs) p.steps ++ os)
      (ap (λ (q : ℕ). clears (λ y. combined z bits octs y q) x (without x p.now.elig ++ octet_rows z)) (sym pivot_last)
      ∙ ap (λ (r : ℕ). clears (λ y. combined z bits octs y (get_or c i 0)) r (without x p.now.elig ++ octet_rows z)) (sym row_last)
      ∙ ap (λ (b : List ℕ). clears (λ y. combined z bits octs y (get_or c i 0)) (get_or d i 0) (b ++ octet_rows z)) (sym (rows-part g h)))

pub ops_next : {z : Shape} {bits : List ℕ} (octs : List ℕ) {c d ones s labels : List ℕ} (i : ℕ) {u n next : ℕ} (x : ℕ) → Given z bits → i ≡ length (At z bits i).steps → row_at z bits i ≡ some x
    → Stands z bits (At z bits (i + 1)) c d ones s labels (i + 1) u n next
    → ops_one (combined z bits octs) (At z bits (i + 1)).steps ≡ ops_one (combined z bits octs) (At z bits i).steps ++ step_ops z bits octs i c d
ops_next {z} {bits} octs {c} {d} {ones} {s} {labels} i {u} {n} {next} x g l e h =
    ap (λ (q : Phase). ops_one (combined z bits octs) q.steps) (at_some z bits i x e)
    ∙ ops_then octs (At z bits i) x i g l (subst (λ (q : Phase). Stands z bits q c d ones s labels (i + 1) u n next) (at_some z bits i x e) h)
