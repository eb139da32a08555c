-- The figures of a step, from slices: v is V as the column rule left it, of which the first k stand before the columns that go; e is the eligible
-- rows, the chosen one first.
--   pivot_of, rest_of, out_of   the pivot, which is the first of v; what is left of V; the columns that go besides the pivot
--   below_of      the rows that stay: those of e after the first
--   Due          what the step asks of them
--   Shrunk       what it leaves
--   in_at        an entry of a list is a member of it
--   pivot_low, under_rest, under_out   the pivot, the columns that are left and those that go are below l
--   rows-below, figured_below   the rows that stay lie in the matrix, and have figures
--   right_then   after the step, the figures of the rows that stay are their ones in what is left of V
--   shrunk_then  what the step leaves, by its parts: the figures, then the labels for the pivot, then those for the other columns that go
--   some-row     there is an eligible row
-- Assumes nothing.
use Rattle.std.specs.Prelude.{◌≡◌, List, ◌∷◌, ◌++◌, Bool, true, ℕ, suc, ◌+◌, ◌-◌, ◌*◌, ◌≤◌, ◌<◌, length, get_or, take}
use Rattle.std.proofs.Math.Path.{sym, ap}
use Rattle.std.proofs.Common.{subst, ◌∙◌, arith}
use Rattle.rule.specs.Sets.{in_at}
use Rattle.loops.specs.Part.{part}
use Rattle.rule.specs.Lists.{Nodup, filter}
use Rattle.rule.specs.Permitted.{count}
use Rattle.rule.specs.Rule.{Marks, add_pairs, noted, next_singles}
use Rattle.grid.specs.Grid.{bit, Under, Rows}
use Rattle.singles.specs.Figures.{Fig, fig, Sound, Done, shrunk}
use Rattle.singles.specs.Shrink.{Agree, Stepped, shrunk-is}
use Rattle.labels.specs.Marking.{marks_of, Ready, Marked, Right, is_noted, noted_by, zeros, add_pairs_append}
use Rattle.labels.specs.Noted.{noted-is}
use Rattle.columns.specs.Sweep.{under_part}

abbrev pub pivot_of : List ℕ → ℕ
pivot_of v = get_or v 0 0

abbrev pub rest_of : ℕ → List ℕ → List ℕ
rest_of k v = part 1 (k - 1) v

abbrev pub out_of : ℕ → List ℕ → List ℕ
out_of k v = part k (length v - k) v

abbrev pub below_of : List ℕ → List ℕ
below_of e = part 1 (length e - 1) e

pub record Due (l : ℕ) (bits : List ℕ) (x k : ℕ) (v e ones s : List ℕ) (n : ℕ) (labels : List ℕ) (next : ℕ) : Type 0 where
  pub low : 1 ≤ k
  pub high : k ≤ length v
  pub columns : Under l v
  pub rows : Rows l (length bits) e
  pub figured : Under (length ones) e
  pub first : e ≡ x ∷ below_of e
  pub apart : Nodup e
  pub agree : Agree (count (bit l bits) (pivot_of v ∷ (out_of k v ++ rest_of k v))) e ones
  pub one : bit l bits x (pivot_of v) ≡ true
  pub sound : Sound ones s n
  pub ready : Ready labels next
  pub wide : l ≤ length labels

pub record Shrunk (row : ℕ → ℕ → Bool) (x k : ℕ) (v e ones₀ s₀ : List ℕ) (n₀ : ℕ) (labels₀ : List ℕ) (next₀ : ℕ) (ones s : List ℕ) (n : ℕ) (labels : List ℕ) (next : ℕ) : Type 0 where
  pub singles : take n s ≡ next_singles row (rest_of k v) x (below_of e) (pivot_of v) (out_of k v) (take n₀ s₀)
  pub sound : Sound ones s n
  pub figures : Agree (count row (rest_of k v)) (below_of e) ones
  pub long : length ones ≡ length ones₀
  pub room : length s ≡ length s₀
  pub marks : marks_of labels next ≡ add_pairs row (rest_of k v) (marks_of labels₀ next₀) (noted row (rest_of k v) (below_of e) (pivot_of v ∷ out_of k v))
  pub kept : length labels ≡ length labels₀
  pub few : next + zeros labels ≤ next₀ + zeros labels₀
  pub ready : Ready labels next

module _ {l : ℕ} {bits : List ℕ} {x k : ℕ} {v e ones s : List ℕ} {n : ℕ} {labels : List ℕ} {next : ℕ} (d : Due l bits x k v e ones s n labels next) where
  pub under_out : Under l (out_of k v)
  unfolding part
  under_out = under_part v k (length v - k) d.columns (omega (arith, d.high))

  pub under_rest : Under l (rest_of k v)
  unfolding part
  under_rest = under_part v 1 (k - 1) d.columns (omega (arith, d.low, d.high))

  pub pivot_low : pivot_of v < l
  pivot_low = d.columns.at 0 (omega (arith, d.low, d.high))

  -- the rows that stay: what holds of each row of e holds of them
  tail_of : (P : ℕ → Type 0) → ((j : ℕ) → j < length e → P (get_or e j 0)) → (j : ℕ) → j < length (below_of e) → P (get_or (below_of e) j 0)
  tail_of P h j i = subst (λ (z : List ℕ). (j : ℕ) → j < length z → P (get_or z j 0)) d.first h (suc j) (omega arith)

  pub rows-below : Rows l (length bits) (below_of e)
  rows-below = record { at = tail_of (λ y. y * l + l ≤ length bits) d.rows.at }

  pub figured_below : {m : ℕ} → m ≡ length ones → Under m (below_of e)
  figured_below {m} q = record { at = tail_of (λ y. y < m) (λ j i. omega (arith, d.figured.at j i)) }

  apart' : Nodup (x ∷ below_of e)
  apart' = subst Nodup d.first d.apart

  agree' : Agree (count (bit l bits) (pivot_of v ∷ (out_of k v ++ rest_of k v))) (x ∷ below_of e) ones
  agree' = subst (λ (z : List ℕ). Agree (count (bit l bits) (pivot_of v ∷ (out_of k v ++ rest_of k v))) z ones) d.first d.agree

  module _ {ones' s' : List ℕ} {n' : ℕ} (a : Done (shrunk (bit l bits) x (below_of e) (pivot_of v) (out_of k v)) ones s n ones' s' n') where
    stepped : Stepped (bit l bits) x (below_of e) (pivot_of v) (out_of k v) (rest_of k v) (fig ones s n) apart' agree' d.one (shrunk (bit l bits) x (below_of e) (pivot_of v) (out_of k v) (fig ones s n))
    stepped = shrunk-is (bit l bits) x (below_of e) (pivot_of v) (out_of k v) (rest_of k v) (fig ones s n) apart' agree' d.one

    singles_then : take n' s' ≡ next_singles (bit l bits) (rest_of k v) x (below_of e) (pivot_of v) (out_of k v) (take n s)
    singles_then = ap (λ (f : Fig). f.singles) a.is ∙ stepped.singles

    figures_then : Agree (count (bit l bits) (rest_of k v)) (below_of e) ones'
    figures_then = subst (λ (f : Fig). Agree (count (bit l bits) (rest_of k v)) (below_of e) f.cnt) (sym a.is) stepped.figures

    pub right_then : Right (bit l bits) (rest_of k v) (below_of e) ones'
    right_then = record { at = λ j h. figures_then.is (get_or (below_of e) j 0) (in_at (below_of e) j h) }

    pub shrunk_then : {labels₁ labels₂ : List ℕ} {m₁ m₂ : ℕ}
        → Marked (add_pairs (bit l bits) (rest_of k v) (marks_of labels next) (filter (is_noted (bit l bits) ones' (pivot_of v) (out_of k v)) (below_of e))) labels next labels₁ m₁
        → Marked (add_pairs (bit l bits) (rest_of k v) (marks_of labels₁ m₁) (noted_by (bit l bits) ones' (out_of k v) (below_of e))) labels₁ m₁ labels₂ m₂
        → Shrunk (bit l bits) x k v e ones s n labels next ones' s' n' labels₂ m₂
    unfolding noted_by
    shrunk_then {labels₁} {labels₂} {m₁} {m₂} b c = record {
      singles = singles_then;
      sound = a.sound;
      figures = figures_then;
      long = a.same;
      room = a.room;
      marks = c.is ∙ ap (λ (m : Marks). add_pairs (bit l bits) (rest_of k v) m (noted_by (bit l bits) ones' (out_of k v) (below_of e))) b.is
          ∙ sym (add_pairs_append (bit l bits) (rest_of k v) (marks_of labels next) (filter (is_noted (bit l bits) ones' (pivot_of v) (out_of k v)) (below_of e)) (noted_by (bit l bits) ones' (out_of k v) (below_of e)))
          ∙ ap (add_pairs (bit l bits) (rest_of k v) (marks_of labels next)) (noted-is (bit l bits) ones' (rest_of k v) (below_of e) (pivot_of v ∷ out_of k v) figures_then.is);
      kept = c.kept ∙ b.kept;
      few = omega (arith, b.few, c.few);
      ready = c.ready;
    }

pub some-row : {l : ℕ} {bits : List ℕ} {x k : ℕ} {v e ones s : List ℕ} {n : ℕ} {labels : List ℕ} {next : ℕ} → Due l bits x k v e ones s n labels next → 1 ≤ length e
some-row d = omega (arith, ap length d.first)
