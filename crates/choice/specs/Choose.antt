-- The row rule's answer as code gives it, and what it needs to know.
--   Ready             what the slices hold when a row is to be chosen
--   Counted, Decided  the answer and the lent room, as the rule fixes them
--   decided_one       two outcomes that meet it are equal
--   head_found        what a search finds is the first of those that pass
--   found_under       it is below what all members are below
--   pair_none, pair_some          the choice at two ones: no node, or a row at it
--   chosen_more       the choice where the least number of ones is above two
-- Assumes nothing.
use Rattle.std.specs.Prelude.{◌≡◌, refl, Option, Some, None, List, [], ◌∷◌, Bool, true, false, cond, ◌&&◌, ℕ, zero, suc, ◌≤◌, ◌<◌, length, find, eqb}
use Rattle.std.proofs.Common.{sym, ap, ◌∙◌, arith, ne_eqb}
use Rattle.std.proofs.Math.Option.{Option as Maybe}
use Rattle.rule.specs.Lists.{filter, keep, head, head_least, least_pos}
use Rattle.rule.specs.Permitted.{count}
use Rattle.rule.specs.Rule.{size, node, at_node, choose_at, choose}
use Rattle.grid.specs.Grid.{bit, Under, Rows, Figures, figures_one}
use Rattle.figures.specs.Picked.{row_of}
use Rattle.figures.specs.Told.{told, Tells, filter-told, filter-both}
use Rattle.choice.specs.Sizes.{Labelled, Found}

-- v is V's columns and e the eligible rows, both by place; `ones` has each eligible row's ones in V, `labels` each column's label, n the next label, and `room`
-- entries are lent to count by label
pub record Ready (l : ℕ) (bits v e ones labels : List ℕ) (n room : ℕ) : Type 0 where
  pub columns : Under l v
  pub rows : Rows l (length bits) e
  pub figures : Tells (count (bit l bits) v) e ones
  pub has_label : Under (length labels) v
  pub fresh : Labelled (told labels) v n
  pub some_label : 0 < n
  pub fits : n ≤ room

-- the room is used, for the sizes of the labels, only where two ones are the least
abbrev pub Counted : Bool → (ℕ → ℕ) → List ℕ → List ℕ → List ℕ → Type 0
Counted true lab v before after = Figures (size lab v) (length before) after
Counted false lab v before after = after ≡ before

-- the answer c says o, and the lent room went from `before` to `after`
pub record Decided (o : Maybe ℕ) (two : Bool) (lab : ℕ → ℕ) (v : List ℕ) (c : Option ℕ) (before after : List ℕ) : Type 0 where
  pub row : row_of c ≡ o
  pub room : Counted two lab v before after

row_one : (c d : Option ℕ) → row_of c ≡ row_of d → c ≡ d
row_one (Some x) (Some y) e = cc
row_one (Some x) None e = cc
row_one None (Some y) e = cc
row_one None None e = refl

room-one : (two : Bool) (lab : ℕ → ℕ) (v before after after' : List ℕ) → Counted two lab v before after → Counted two lab v before after' → after ≡ after'
room-one true lab v before after after' f g = figures_one f g
room-one false lab v before after after' f g = f ∙ sym g

-- two outcomes that meet the statement are one
pub decided_one : {o : Maybe ℕ} {two : Bool} {lab : ℕ → ℕ} {v : List ℕ} {c d : Option ℕ} {before after after' : List ℕ}
    → Decided o two lab v c before after → Decided o two lab v d before after' → (c ≡ d) × (after ≡ after')
decided_one {o} {two} {lab} {v} {c} {d} {before} {after} {after'} p q =
    (row_one c d (p.row ∙ sym q.row), room-one two lab v before after after' p.room q.room)

pub head_found : (p : ℕ → Bool) (l : List ℕ) → row_of (find p l) ≡ head (filter p l)
head_found p [] = refl
head_found p (x ∷ l) = go (p x) (head_found p l)
  where
    go : (b : Bool) → row_of (find p l) ≡ head (filter p l) → row_of (cond b (Some x) (find p l)) ≡ head (keep b x (filter p l))
    go true e = refl
    go false e = e

pub found_under : {m q : ℕ} (v : List ℕ) (p : ℕ → Bool) → Under m v → Some q ≡ find p v → q < m
found_under [] p u e = cc
found_under {m} {q} (x ∷ v) p u e = go (p x) e (found_under v p (record { at = λ k h. u.at (suc k) (omega arith) }))
  where
    go : (b : Bool) → Some q ≡ cond b (Some x) (find p v) → (Some q ≡ find p v → q < m) → q < m
    go true f i = let h : q ≡ x = cc in omega (arith, u.at 0 (omega arith))
    go false f i = i f

module _ (row : ℕ → ℕ → Bool) (v e : List ℕ) (lab : ℕ → ℕ) (n : ℕ) {b : ℕ} {before after : List ℕ} (f : Found lab v n b before after) where
  -- what the search for label b finds is the node
  node_at : {r : Option ℕ} → r ≡ find (λ q. eqb (lab q) b) v → node lab n v ≡ row_of r
  node_at r = sym (ap (λ (x : ℕ). head (filter (λ c. eqb (lab c) x) v)) f.is) ∙ sym (head_found (λ q. eqb (lab q) b) v) ∙ sym (ap row_of r)

  pub pair_none : None ≡ find (λ q. eqb (lab q) b) v → Decided (at_node row v e (node lab n v)) true lab v None before after
  pair_none r = record { row = sym (ap (at_node row v e) (node_at r)); room = f.room }

  pub pair_some : {q : ℕ} → Some q ≡ find (λ q. eqb (lab q) b) v → {ones : List ℕ} → Tells (count row v) e ones → {c : Option ℕ}
      → c ≡ find (λ y. row y q && eqb (told ones y) 2) e → Decided (at_node row v e (node lab n v)) true lab v c before after
  pair_some {q} r {ones} t w = record {
    row =
        ap row_of w ∙ head_found (λ y. row y q && eqb (told ones y) 2) e ∙ ap head (filter-both t (λ y. row y q) 2)
        ∙ sym (ap (at_node row v e) (node_at r));
    room = f.room;
  }

-- the rule by r
module _ (row : ℕ → ℕ → Bool) (deg : ℕ → ℕ) (v e s : List ℕ) (lab : ℕ → ℕ) (n : ℕ) {r : ℕ} (least : r ≡ least_pos (count row v) e) where
  at_least : {o : Maybe ℕ} (k : ℕ) → r ≡ k → o ≡ choose_at row deg v e s lab n k → o ≡ choose row deg v e s lab n
  at_least k e q = q ∙ ap (choose_at row deg v _ s lab n) (sym e ∙ least)

  untouched : (room : List ℕ) → (r ≡ 2 → ⊥) → Counted (eqb r 2) lab v room room
  untouched room d = rw (ne_eqb r 2 d) refl

  pub chosen_more : (room : List ℕ) {c : Option ℕ} → (r ≡ 0 → ⊥) → (r ≡ 1 → ⊥) → (r ≡ 2 → ⊥) → {ones : List ℕ} → Tells (count row v) e ones
      → row_of c ≡ head_least deg (filter (λ y. eqb (told ones y) r) e) → Decided (choose row deg v e s lab n) (eqb r 2) lab v c room room
  chosen_more room {c} a b d t p = record { row = go r refl (p ∙ ap (head_least deg) (filter-told t r)); room = untouched room d }
    where
      go : (k : ℕ) → r ≡ k → row_of c ≡ head_least deg (filter (λ y. eqb (count row v y) r) e) → row_of c ≡ choose row deg v e s lab n
      go zero q w = absurd (a q)
      go (suc zero) q w = absurd (b q)
      go (suc (suc zero)) q w = absurd (d q)
      go (suc (suc (suc k))) q w = at_least (suc (suc (suc k))) q (w ∙ ap (λ (i : ℕ). head_least deg (filter (λ y. eqb (count row v y) i) e)) q)
