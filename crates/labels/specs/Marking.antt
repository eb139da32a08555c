-- The labels of columns in a lent slice, and rows joined to them one after another.
--   marks_of             the labels of a slice, and the next label
--   zeros               how many columns have no label: each new label leaves one fewer
--   Ready, Marked       labels are below the next one; what a function made of them
--   marks_one           two slices of equal length that have the same labels are equal, and so are the next labels
--   marked_one          two outcomes that meet `Marked` are equal
--   pair_marked         labels that are changed column by column as a pair asks are those with the pair joined
--   Hit, Next           a place is the next one whose column passes a test; what a search for it finds
--   hit_at              the place that was found is such a place
--   Seeking             a search for it: the columns that pass from place k on are those that pass from place i on
--   both_there          a row with two ones in v: they are the columns at the two places that are found
--   spared_is           a row has no one in v exactly where no column of v has one
--   Joining             a loop over rows, of which those that pass are joined
--   is_noted             row y was brought down to two ones by column c, the columns cs leaving after it, by the figures in the end
--   noted_by             the rows of ys of which this is so, for each column that leaves, in its order
--   Right               the figures of the rows ys are their ones in C
--   noted-two           a row that is noted has two ones in C
--   add_pairs_append    two lists of rows, joined one after the other
--   Noting              a loop over the columns that leave, of which each has its noted rows joined
--   note-next, note_end   it makes a turn, is over
--   under_rest   the part of a list from a place on, as a slice has it, keeps the bound of the list
--   row_marked          a row whose ones are the pair is joined where the pair is
--   has_label           a column of v is below the number of labels
--   as_long             a number that is within a length is within an equal one
-- Assumes nothing.
use Rattle.std.specs.Prelude.{◌≡◌, refl, Option, Some, None, ◌⊎◌, Bool, true, false, cond, not, ◌&&◌, ◌||◌, ℕ, zero, suc, ◌+◌, ◌-◌, ◌^◌, ◌≤◌, ◌<◌, length, get_or, take, drop, eqb, ltb}
use Rattle.std.specs.List.{list_any}
use Rattle.std.proofs.Math.Path.{sym, ap, fun_ext}
use Rattle.std.proofs.Common.{ap₂, subst, ◌∙◌, inl, inr, ⊎_elim, arith, length-drop, get_or-drop, ext_get_or, eqb-true, eq-eqb, ne_eqb}
use mathlib.Core.List.{List, [], ◌∷◌, ◌++◌}
use Rattle.rule.proofs.Labels.{joint_pos}
use Rattle.loops.specs.Part.{drop-next, rest_part}
use Rattle.rule.specs.Lists.{filter, keep}
use Rattle.rule.specs.Sets.{bool_or}
use Rattle.rule.specs.Permitted.{ones, count}
use Rattle.rule.specs.Rule.{joint, next_label, relabel, touched, Marks, add_pair, add_pairs}
use Rattle.grid.specs.Grid.{gone, Under}
use Rattle.labels.specs.Labs.{labs}

abbrev pub marks_of : List ℕ → ℕ → Marks
marks_of l n = record { lab = labs l; next = n }

abbrev free : ℕ → ℕ
free zero = 1
free (suc a) = 0

unfoldable pub zeros : List ℕ → ℕ
zeros [] = 0
zeros (a ∷ l) = free a + zeros l

pub record Ready (l : List ℕ) (n : ℕ) : Type 0 where
  pub pos : 0 < n
  pub low : (c : ℕ) → labs l c < n
  pub room : n + zeros l + 1 < 2 ^ 64

pub record Marked (m : Marks) (l₀ : List ℕ) (n₀ : ℕ) (l : List ℕ) (n : ℕ) : Type 0 where
  pub kept : length l ≡ length l₀
  pub few : n + zeros l ≤ n₀ + zeros l₀
  pub ready : Ready l n
  pub is : marks_of l n ≡ m

pub marks_one : {l k : List ℕ} {n j : ℕ} → length l ≡ length k → marks_of l n ≡ marks_of k j → (l ≡ k) × (n ≡ j)
marks_one {l} {k} h e = (ext_get_or 0 l k h (λ c i. ap (λ (m : Marks). m.lab c) e), ap (λ (m : Marks). m.next) e)

pub marked_one : {m : Marks} {l₀ l k : List ℕ} {n₀ n j : ℕ} → Marked m l₀ n₀ l n → Marked m l₀ n₀ k j → (l ≡ k) × (n ≡ j)
marked_one p q = marks_one (p.kept ∙ sym q.kept) (p.is ∙ sym q.is)

free_less : (a b : ℕ) → (a ≡ 0 → b ≡ 0) → free a ≤ free b
free_less zero b h = rw (h refl) (omega arith)
free_less (suc a) b h = omega arith

free_gone : (a b : ℕ) → (a ≡ 0 → ⊥) → b ≡ 0 → free a + 1 ≤ free b
free_gone zero b h e = absurd (h refl)
free_gone (suc a) b h e = rw e (omega arith)

-- no zero is new
zeros_less : (a b : List ℕ) → length a ≡ length b → ((c : ℕ) → labs a c ≡ 0 → labs b c ≡ 0) → zeros a ≤ zeros b
unfolding zeros
zeros_less [] b e h = omega arith
zeros_less (x ∷ a) [] e h = absurd (omega arith)
zeros_less (x ∷ a) (y ∷ b) e h = omega (arith, free_less x y (h 0), zeros_less a b (omega arith) (λ c. h (suc c)))

-- and one is gone
zeros_fewer : (a b : List ℕ) (p : ℕ) → length a ≡ length b → p < length a → ((c : ℕ) → labs a c ≡ 0 → labs b c ≡ 0) → (labs a p ≡ 0 → ⊥) → labs b p ≡ 0 → zeros a + 1 ≤ zeros b
unfolding zeros
zeros_fewer [] b p e l h n z = absurd (omega arith)
zeros_fewer (x ∷ a) [] p e l h n z = absurd (omega arith)
zeros_fewer (x ∷ a) (y ∷ b) zero e l h n z = omega (arith, free_gone x y n z, zeros_less a b (omega arith) (λ c. h (suc c)))
zeros_fewer (x ∷ a) (y ∷ b) (suc p) e l h n z = omega (arith, free_less x y (h 0), zeros_fewer a b p (omega arith) (omega arith) (λ c. h (suc c)) n z)

joint_low : (a b n : ℕ) → a < n → b < n → joint a b n < next_label a b n
joint_low zero zero n h k = omega arith
joint_low zero (suc b) n h k = k
joint_low (suc a) zero n h k = h
joint_low (suc a) (suc b) n h k = ⊎_elim (λ t. subst (λ (z : Bool). cond z (suc b) (suc a) < n) (sym t) k)
    (λ t. subst (λ (z : Bool). cond z (suc b) (suc a) < n) (sym t) h) (bool_or (ltb b a))

next_more : (a b n : ℕ) → n ≤ next_label a b n
next_more zero zero n = omega arith
next_more zero (suc b) n = omega arith
next_more (suc a) b n = omega arith

cond_either : (t : Bool) (a b c : ℕ) → (a ≡ c → ⊥) → cond t a b ≡ c → b ≡ c
cond_either true a b c n e = absurd (n e)
cond_either false a b c n e = e

cond_low : (t : Bool) (a b c : ℕ) → a < c → b < c → cond t a b < c
cond_low true a b c h k = h
cond_low false a b c h k = k

self_touched : (lab : ℕ → ℕ) (p q : ℕ) → touched lab p q p ≡ true
self_touched lab p q = ap (λ (t : Bool). (t || eqb p q) || (not (eqb (lab p) 0) && (eqb (lab p) (lab p) || eqb (lab p) (lab q)))) (eq-eqb p p refl)

next_case : (a b n : ℕ) → (next_label a b n ≡ n) ⊎ ((a ≡ 0) × (next_label a b n ≡ n + 1))
next_case zero zero n = inr (refl, omega arith)
next_case zero (suc b) n = inl refl
next_case (suc a) b n = inl refl

module _ (l₀ l : List ℕ) (n₀ n p q : ℕ) (r : Ready l₀ n₀) (hp : p < length l₀) (k : length l ≡ length l₀)
    (nx : n ≡ next_label (labs l₀ p) (labs l₀ q) n₀) (each : (c : ℕ) → labs l c ≡ relabel (labs l₀) n₀ p q c) where
  still : (c : ℕ) → labs l c ≡ 0 → labs l₀ c ≡ 0
  still c e = cond_either (touched (labs l₀) p q c) (joint (labs l₀ p) (labs l₀ q) n₀) (labs l₀ c) 0 (joint_pos (labs l₀ p) (labs l₀ q) n₀ r.pos) (sym (each c) ∙ e)

  here : labs l p ≡ 0 → ⊥
  here e = joint_pos (labs l₀ p) (labs l₀ q) n₀ r.pos
      (sym (ap (λ (t : Bool). cond t (joint (labs l₀ p) (labs l₀ q) n₀) (labs l₀ p)) (self_touched (labs l₀) p q)) ∙ sym (each p) ∙ e)

  fewer : n + zeros l ≤ n₀ + zeros l₀
  fewer = ⊎_elim (λ e. omega (arith, zeros_less l l₀ k still))
      (λ e. let z : labs l₀ p ≡ 0 = e.0 in let w : next_label (labs l₀ p) (labs l₀ q) n₀ ≡ n₀ + 1 = e.1 in omega (arith, zeros_fewer l l₀ p k (omega arith) still here z))
      (next_case (labs l₀ p) (labs l₀ q) n₀)

  pub pair_marked : Marked (add_pair (marks_of l₀ n₀) (p ∷ q ∷ [])) l₀ n₀ l n
  pair_marked = record {
    kept = k;
    few = fewer;
    ready = record {
      pos = omega (arith, r.pos, next_more (labs l₀ p) (labs l₀ q) n₀);
      low = λ c. subst (λ (z : ℕ). z < n) (sym (each c)) (cond_low (touched (labs l₀) p q c) (joint (labs l₀ p) (labs l₀ q) n₀) (labs l₀ c) n
          (subst (λ (z : ℕ). joint (labs l₀ p) (labs l₀ q) n₀ < z) (sym nx) (joint_low (labs l₀ p) (labs l₀ q) n₀ (r.low p) (r.low q)))
          (omega (arith, r.low c, next_more (labs l₀ p) (labs l₀ q) n₀)));
      room = omega (arith, r.room, fewer);
    };
    is = ap₂ (λ (f : ℕ → ℕ) (m : ℕ). record { lab = f; next = m }) (fun_ext each) nx;
  }

-- place r of v is the next one, from k on, whose column passes
pub record Hit (p : ℕ → Bool) (v : List ℕ) (k r : ℕ) : Type 0 where
  pub within : r < length v
  pub is : filter p (drop k v) ≡ get_or v r 0 ∷ filter p (drop (r + 1) v)

abbrev pub Next : (ℕ → Bool) → List ℕ → ℕ → Option ℕ → Type 0
Next p v k (Some r) = Hit p v k r
Next p v k None = filter p (drop k v) ≡ []

pub hit_at : {p : ℕ → Bool} {v : List ℕ} (k : ℕ) {o : Option ℕ} {r : ℕ} → o ≡ Some r → Next p v k o → Hit p v k r
hit_at {p} {v} k e h = subst (Next p v k) e h

pub record Seeking (p : ℕ → Bool) (v : List ℕ) (k i : ℕ) : Type 0 where
  pub upto : i ≤ length v
  pub same : filter p (drop k v) ≡ filter p (drop i v)

-- a row with two ones in v: where they are
empty : (l : List ℕ) → length l ≡ 0 → l ≡ []
empty [] e = refl
empty (a ∷ l) e = absurd (omega arith)

pub both_there : (row : ℕ → ℕ → Bool) (y : ℕ) (v : List ℕ) → count row v y ≡ 2 → {a b : ℕ} → Hit (row y) v 0 a → Hit (row y) v (a + 1) b
    → ones row v y ≡ get_or v a 0 ∷ get_or v b 0 ∷ []
both_there row y v two {a} {b} fa fb =
    let e : ones row v y ≡ get_or v a 0 ∷ get_or v b 0 ∷ filter (row y) (drop (b + 1) v) = fa.is ∙ ap (λ (z : List ℕ). get_or v a 0 ∷ z) fb.is in
    e ∙ ap (λ (z : List ℕ). get_or v a 0 ∷ get_or v b 0 ∷ z) (empty (filter (row y) (drop (b + 1) v)) (let f : count row v y ≡ suc (suc (length (filter (row y) (drop (b + 1) v)))) = ap length e in omega arith))

pub spared_is : (row : ℕ → ℕ → Bool) (y : ℕ) (v : List ℕ) → not (list_any (row y) v) ≡ eqb (count row v y) 0
spared_is row y [] = refl
spared_is row y (q ∷ v) = at (row y q) (spared_is row y v)
  where
    at : (b : Bool) → not (list_any (row y) v) ≡ eqb (count row v y) 0 → not (b || list_any (row y) v) ≡ eqb (length (keep b q (filter (row y) v))) 0
    at true h = sym (ne_eqb (suc (count row v y)) 0 (λ e. omega arith))
    at false h = h

-- a loop over the rows ys, of which those that pass are joined: k of them are done
pub record Joining (row : ℕ → ℕ → Bool) (C : List ℕ) (p : ℕ → Bool) (ys l₀ : List ℕ) (n₀ k : ℕ) (l : List ℕ) (n : ℕ) : Type 0 where
  pub within : k ≤ length ys
  pub kept : length l ≡ length l₀
  pub few : n + zeros l ≤ n₀ + zeros l₀
  pub ready : Ready l n
  pub left : add_pairs row C (marks_of l n) (filter p (drop k ys)) ≡ add_pairs row C (marks_of l₀ n₀) (filter p ys)

-- the rows of ys that column c brought down to two ones, the columns cs leaving after it, by the figures that they have in the end
unfoldable pub is_noted : (ℕ → ℕ → Bool) → List ℕ → ℕ → List ℕ → ℕ → Bool
is_noted row fig c cs y = eqb (get_or fig y 0) 2 && (row y c && eqb (count row cs y) 0)

unfoldable pub noted_by : (ℕ → ℕ → Bool) → List ℕ → List ℕ → List ℕ → List ℕ
noted_by row fig [] ys = []
noted_by row fig (c ∷ cs) ys = filter (is_noted row fig c cs) ys ++ noted_by row fig cs ys

-- the figures of the rows ys are their ones in C
pub record Right (row : ℕ → ℕ → Bool) (C ys fig : List ℕ) : Type 0 where
  pub at : (k : ℕ) → k < length ys → get_or fig (get_or ys k 0) 0 ≡ count row C (get_or ys k 0)

-- a noted row has two ones
noted-first : (a b : Bool) → (a && b) ≡ true → a ≡ true
noted-first true b e = refl
noted-first false b e = e

pub noted-two : {row : ℕ → ℕ → Bool} {C ys fig : List ℕ} {k : ℕ} (c : ℕ) (cs : List ℕ) → Right row C ys fig → k < length ys → is_noted row fig c cs (get_or ys k 0) ≡ true → count row C (get_or ys k 0) ≡ 2
unfolding is_noted
noted-two {row} {C} {ys} {fig} {k} c cs r l e =
    sym (r.at k l) ∙ eqb-true (get_or fig (get_or ys k 0) 0) 2 (noted-first (eqb (get_or fig (get_or ys k 0) 0) 2) (row (get_or ys k 0) c && eqb (count row cs (get_or ys k 0)) 0) e)

pub add_pairs_append : (row : ℕ → ℕ → Bool) (C : List ℕ) (m : Marks) (xs ys : List ℕ) → add_pairs row C m (xs ++ ys) ≡ add_pairs row C (add_pairs row C m xs) ys
add_pairs_append row C m [] ys = refl
add_pairs_append row C m (x ∷ xs) ys = add_pairs_append row C (add_pair m (ones row C x)) xs ys

-- a loop over the columns qs, each with those after it
pub record Noting (row : ℕ → ℕ → Bool) (C fig qs ys l₀ : List ℕ) (n₀ k : ℕ) (l : List ℕ) (n : ℕ) : Type 0 where
  pub within : k ≤ length qs
  pub kept : length l ≡ length l₀
  pub few : n + zeros l ≤ n₀ + zeros l₀
  pub ready : Ready l n
  pub left : add_pairs row C (marks_of l n) (noted_by row fig (drop k qs) ys) ≡ add_pairs row C (marks_of l₀ n₀) (noted_by row fig qs ys)

module _ {row : ℕ → ℕ → Bool} {C fig qs ys l₀ l : List ℕ} {n₀ k n : ℕ} (h : Noting row C fig qs ys l₀ n₀ k l n) where
  pub note-next : {l' rest : List ℕ} {n' : ℕ} → k < length qs → rest ≡ drop (k + 1) qs
      → Marked (add_pairs row C (marks_of l n) (filter (is_noted row fig (get_or qs k 0) rest) ys)) l n l' n' → Noting row C fig qs ys l₀ n₀ (k + 1) l' n'
  unfolding noted_by
  note-next {l'} {rest} {n'} i r d = record {
    within = omega arith;
    kept = d.kept ∙ h.kept;
    few = omega (arith, d.few, h.few);
    ready = d.ready;
    left = ap (λ (m : Marks). add_pairs row C m (noted_by row fig (drop (k + 1) qs) ys)) (d.is ∙ ap (λ (z : List ℕ). add_pairs row C (marks_of l n) (filter (is_noted row fig (get_or qs k 0) z) ys)) r)
        ∙ sym (add_pairs_append row C (marks_of l n) (filter (is_noted row fig (get_or qs k 0) (drop (k + 1) qs)) ys) (noted_by row fig (drop (k + 1) qs) ys))
        ∙ ap (λ (z : List ℕ). add_pairs row C (marks_of l n) (noted_by row fig z ys)) (sym (drop-next qs k i)) ∙ h.left;
  }

  pub note_end : length qs ≤ k → Marked (add_pairs row C (marks_of l₀ n₀) (noted_by row fig qs ys)) l₀ n₀ l n
  unfolding noted_by
  note_end i = record {
    kept = h.kept;
    few = h.few;
    ready = h.ready;
    is = sym (ap (λ (z : List ℕ). add_pairs row C (marks_of l n) (noted_by row fig z ys)) (gone qs k i)) ∙ h.left;
  }

pub under_rest : {m : ℕ} (qs : List ℕ) (j : ℕ) → Under m qs → j ≤ length qs → Under m (take (length qs - j) (drop j qs))
under_rest {m} qs j u h = rw rest_part (record { at = λ k i. subst (λ (z : ℕ). z < m) (sym (get_or-drop j qs k 0)) (u.at (j + k) (omega (arith, length-drop j qs))) })

pub row_marked : (row : ℕ → ℕ → Bool) (v : List ℕ) {l₀ l : List ℕ} {n₀ n p q : ℕ} (y : ℕ) → ones row v y ≡ p ∷ q ∷ [] → Marked (add_pair (marks_of l₀ n₀) (p ∷ q ∷ [])) l₀ n₀ l n
    → Marked (add_pair (marks_of l₀ n₀) (ones row v y)) l₀ n₀ l n
row_marked row v {l₀} {l} {n₀} {n} y e m = subst (λ (z : List ℕ). Marked (add_pair (marks_of l₀ n₀) z) l₀ n₀ l n) (sym e) m

pub has_label : {l m a : ℕ} {v : List ℕ} → Under l v → a < length v → l ≤ m → get_or v a 0 < m
has_label {a = a} u h e = omega (arith, u.at a h)

pub as_long : {a b m : ℕ} → m ≤ b → a ≡ b → m ≤ a
as_long h e = omega arith
