-- The definition's phase two is an elimination: each column gets the first row with a nonzero, or ends it.
--   entry-multiple  what is recorded for a nonzero entry is a multiple of the row
--   given_stage     a column that gets the first row with a nonzero leads to the next stage
--   forward-ended   the definition ends so
-- Assumes nothing.
use Rattle.std.specs.Prelude.{◌≡◌, refl, ◌≢◌, Bool, true, false, not, List, [], ◌∷◌, ◌++◌, eqb, get_or, drop}
use Rattle.std.proofs.Common.{sym, ap, ap₂, ◌∙◌, append-nil, zero-add, take-suc, eq-eqb, eqb-true}
use Rattle.std.proofs.Math.Path.{subst}
use Rattle.std.proofs.Math.Option.{Option, some, none}
use Prim.Native.Nat.{ℕ, zero, suc, ◌+◌, ◌-◌, ◌<◌, ◌≤◌}
use native.Mathlib.Omega.{arith}
use Rattle.std.proofs.Math.ListN.{length}
use Rattle.oplist.specs.Multiple.{multiple}
use Rattle.loops.specs.Loop.{for_to, up}
use Rattle.loops.specs.Out.{Out, done}
use Rattle.loops.specs.Way.{Way, go, halt, bind_way, map_way, after, for_way}
use Rattle.oplist.specs.declared.Op.{Op}
use Rattle.oplist.specs.Ops.{Each, each_append}
use Rattle.algebra.specs.Rows.{runs, Within}
use Rattle.rule.specs.Lists.{filter, head}
use Rattle.rule.specs.Rule.{without}
use Rattle.rule.specs.Sets.{in_filter, filter_in, head_in, head-some, tf}
use Rattle.phases.specs.One.{Step, entry, clears, pivots_of}
use Rattle.phases.specs.Two.{at, acts, scaled, column_ops, Second, given, giving, turn, forward}
use Rattle.phases.specs.Occ.{occ, occ-without, Member, Once, in_member, member_in}
use Rattle.phases.proofs.Clear.{clears_within}
use Rattle.phases.specs.Sweep.{last-rows, last-rows-snoc}
use Rattle.phases.specs.Gauss.{Pivot, ops_at, ops_two, works_kept}
use Rattle.phases.proofs.Gauss.{scaled_within}
use Rattle.phases.specs.Matrix.{runs_append, Full, Shows, acts-full, shows_acts}
use Rattle.phases.specs.Forward.{Ended, Stage, clears_alike, ops_two-snoc, works_snoc}

pivots_snoc : (us : List Step) (t : Step) → pivots_of (us ++ (t ∷ [])) ≡ pivots_of us ++ (t.pivot ∷ [])
pivots_snoc [] t = refl
pivots_snoc (s ∷ us) t = ap (λ (l : List ℕ). s.pivot ∷ l) (pivots_snoc us t)

-- clearing reads only the rows that it clears
pub entry-multiple : (c y x : ℕ) (os : List Op) → c ≢ 0 → entry c y x os ≡ multiple c y x ∷ os
unfolding multiple
entry-multiple zero y x os n = absurd (n refl)
entry-multiple (suc zero) y x os n = refl
entry-multiple (suc (suc c)) y x os n = refl

module _ (m : ℕ) (B : ℕ → ℕ → ℕ) (cols rows : List ℕ) where
  module _ (once : Once rows) (low : (y : ℕ) → Member rows y → y < m) where
    -- the kth column gets row y
    module _ (k : ℕ) (kl : k < length cols) (f : Out Op Second) (S : Stage m B cols rows k f) (y : ℕ)
        (e : head (filter (λ x. not (eqb (at f.st.mat x k) 0)) f.st.left) ≡ some y) where
      abbrev us : List Step
      us = f.st.steps

      abbrev D : ℕ → ℕ → ℕ
      D = runs (ops_two B us) B

      abbrev X : List (List ℕ)
      X = f.st.mat

      abbrev ys : List ℕ
      ys = without y f.st.left

      abbrev q : ℕ
      q = get_or cols k 0

      abbrev t : Step
      t = record { row = y; pivot = q; under = ys; left = drop (suc k) cols }

      left_in : (x : ℕ) → Member f.st.left x → Member rows x
      left_in x i = omega (arith, works_kept B us rows S.works x, ap (occ x) S.left)

      found : Member f.st.left y × (not (eqb (at X y k) 0) ≡ true)
      found =
          let r : _ = in_filter (λ x. not (eqb (at X x k) 0)) f.st.left y (head_in (filter (λ x. not (eqb (at X x k) 0)) f.st.left) y e) in
          (in_member y f.st.left r.0, r.1)

      split : (x : ℕ) → occ x (y ∷ ys) ≡ occ x f.st.left
      split x = occ-without y f.st.left found.0 x

      ys_low : (x : ℕ) → Member ys x → x < m
      ys_low x i = low x (left_in x (omega (arith, split x)))

      y_low : y < m
      y_low = low y (left_in y found.0)

      same_ops : column_ops (at X) k y ys ≡ ops_at D t
      same_ops =
          ap₂ (λ (c : ℕ) (l : List Op). scaled c y ++ l) (S.shows y k y_low kl)
          (clears_alike (λ x. at X x k) (λ x. D x q) y ys (λ x i. S.shows x k (ys_low x i) kl))

      pivot : Pivot D t (last-rows us rows)
      pivot = record {
        same = λ x. split x ∙ ap (occ x) S.left;
        nonzero = λ z. tf found.1 (ap not (eq-eqb (at X y k) 0 (S.shows y k y_low kl ∙ z)));
      }

      within : Each (Within m) (column_ops (at X) k y ys)
      within = each_append (Within m) (scaled (at X y k) y) (clears (λ x. at X x k) y ys)
          (scaled_within m (at X y k) y y_low) (clears_within m (λ x. at X x k) y ys y_low ys_low)

      after_is : runs (column_ops (at X) k y ys) D ≡ runs (ops_two B (us ++ (t ∷ []))) B
      after_is =
          ap (λ (l : List Op). runs l D) same_ops ∙ sym (runs_append (ops_two B us) (ops_at D t) B)
          ∙ ap (λ (l : List Op). runs l B) (sym (ops_two-snoc B us t))

      pub given_stage : Stage m B cols rows (suc k) (record { st = (given cols k f.st y).st; ops = f.ops ++ (given cols k f.st y).ops })
      given_stage = record {
        works = works_snoc B us rows t S.works pivot;
        ops = ap₂ (λ (a b : List Op). a ++ b) S.ops same_ops ∙ sym (ops_two-snoc B us t);
        left = sym (last-rows-snoc us rows t);
        reached = pivots_snoc us t ∙ ap (λ (l : List ℕ). l ++ (q ∷ [])) S.reached ∙ sym (take-suc cols k 0 kl);
        full = acts-full m (length cols) (column_ops (at X) k y ys) X S.full within;
        shows = subst (λ (M : ℕ → ℕ → ℕ). Shows m (length cols) (acts (column_ops (at X) k y ys) X) M cols) after_is
            (shows_acts m (length cols) (column_ops (at X) k y ys) X D cols S.full within S.shows);
      }

    -- a column without a nonzero
    none_left : (k : ℕ) (s : Second) → head (filter (λ x. not (eqb (at s.mat x k) 0)) s.left) ≡ none
        → (y : ℕ) → Member s.left y → at s.mat y k ≡ 0
    none_left k s e y i = go (eqb (at s.mat y k) 0) refl
      where
        go : (b : Bool) → eqb (at s.mat y k) 0 ≡ b → at s.mat y k ≡ 0
        go true f = eqb-true (at s.mat y k) 0 f
        go false f =
            let r : (w : ℕ) × (head (filter (λ x. not (eqb (at s.mat x k) 0)) s.left) ≡ some w) =
            head-some (filter (λ x. not (eqb (at s.mat x k) 0)) s.left) y
            (filter_in (λ x. not (eqb (at s.mat x k) 0)) s.left y (member_in y s.left i) (ap not f)) in
            absurd (let z : ◌≡◌ {A = ℕ} 0 1 = cc r.1 in omega arith)

    turn-ended : (k : ℕ) → k < length cols → (f : Out Op Second) → Stage m B cols rows k f → Ended m B cols rows (suc k) (after (turn cols k) f)
    turn-ended k kl f S = at_row (head (filter (λ x. not (eqb (at f.st.mat x k) 0)) f.st.left)) refl
      where
        at_row : (o : Option ℕ) → head (filter (λ x. not (eqb (at f.st.mat x k) 0)) f.st.left) ≡ o
            → Ended m B cols rows (suc k) (map_way (λ (p : Out Op Second). record { st = p.st; ops = f.ops ++ p.ops }) (giving cols k f.st o))
        at_row (some y) e = given_stage k kl f S y e
        at_row none e = (
          record { works = S.works; ops = append-nil f.ops ∙ S.ops; left = S.left; reached = S.reached; full = S.full; shows = S.shows },
          omega arith,
          none_left k f.st e,
        )

    module _ (X : List (List ℕ)) (full : Full m (length cols) X) (shows : Shows m (length cols) X B cols) where
      abbrev first : Way (Out Op Second)
      first = go (done (record { steps = []; left = rows; mat = X }))

      abbrev next : ℕ → Way (Out Op Second) → Way (Out Op Second)
      next k w = bind_way w (after (turn cols k))

      ended : (k : ℕ) → k ≤ length cols → Ended m B cols rows k (up 0 k next first)
      unfolding up
      ended zero h = record { works = tt; ops = refl; left = refl; reached = refl; full = full; shows = shows }
      ended (suc k) h = at_way (up 0 k next first) (ended k (omega arith))
        where
          at_way : (w : Way (Out Op Second)) → Ended m B cols rows k w → Ended m B cols rows (suc k) (next (0 + k) w)
          at_way (go f) S = subst (λ (j : ℕ). Ended m B cols rows (suc k) (after (turn cols j) f)) (sym (zero-add k)) (turn-ended k (omega arith) f S)
          at_way (halt j f) S = (S.0, omega (arith, S.1), S.2)

      pub forward-ended : Ended m B cols rows (length cols) (forward cols rows X)
      unfolding for_way for_to
      forward-ended =
          let e : length cols ≡ length cols - 0 = omega arith in
          subst (λ (k : ℕ). Ended m B cols rows (length cols) (up 0 k next first)) e (ended (length cols) (omega arith))
