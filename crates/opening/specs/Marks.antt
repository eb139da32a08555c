-- The labels of columns before the first step: the pairs of V are joined, from the top; then a component's label is one more than its least column.
--   is_two               a row that has two ones, by the figures
--   each_in, in-place   what holds at each place of a list holds of its members; an entry is a member
--   twos_are            such rows are those of the rule
--   blank, blank_ready  a slice without labels: no column has one, and the next label is 1
--   zeros_few           no more columns lack a label than there are columns
--   Outside             columns that have no label
--   outside_pairs       pairs of V leave the columns outside V so
--   pairs_alike         two matrices that agree on the rows have the same pairs
--   least_of             one more than the least column below c that has the label a, 0 if there is none
--   least_is            it is the rule's number of the first of those columns
--   least_here, least_other   with column c too: where it has the label, and where it has another
--   least_low           it is at most c
--   by_least_none, by_least_some   the rule's number of a column: 0 without a label, else what is seen of its label there
--   by_least_low        it is at most the number of columns
--   seen                what the room holds of a label at column c
--   Seen                what a turn does to the room: the entry of label a becomes what is seen of it at column c
--   seen-new, seen_old  such a turn where the label was not seen before, and where it was
--   seen_first          the first of them, with the entry as it is read back
--   Given               what the labels are made from: rows and columns within the matrix, figures that are right, room
--   under_range         the columns from 0 on, at most l of them, are below l
--   given_columns, given_long   the columns of V are below l; there is a label for each of l columns
--   given_upto, given_low, given_outside   with the pairs joined: each column of V has its place in the labels, each label its place in the room, and
--                       columns outside V have no label
--   FirstMarked         the labels before the first step, each below the next label
--   given_marked        with the pairs joined and each label a number, the labels are so
--   Numbering           the columns below c have their numbers
--   number_at           column c is within the labels
--   number-start, number-none, number-next, number_end   that begins, passes a column without label, makes a turn, is over
--   Numbered            each label is one more than the least column that has it
-- Assumes nothing.
use Rattle.std.specs.Prelude.{◌≡◌, ◌⊎◌, Bool, length, get_or, set}
use Rattle.std.proofs.Math.Path.{refl, sym, ap, fun_ext}
use Rattle.std.proofs.Common.{ap₂, subst, ◌∙◌, inl, inr, ⊎_elim, add-one, length-set, get_or-set_same, get_or-set_other, below_more}
use mathlib.Core.List.{List, [], ◌∷◌, ◌++◌}
use Rattle.std.proofs.Math.Bool.{true, false, cond}
use Prim.Native.Nat.{ℕ, zero, suc, ◌+◌, ◌-◌, ◌^◌, ◌≤◌, ◌<◌}
use native.Mathlib.Omega.{arith}
use Rattle.std.proofs.Math.ListN.{get_or-eq_default}
use Rattle.std.proofs.lemmas.List.{set-get_or}
use Rattle.std.proofs.Math.Dec.{eqb}
use borrow.Author.Tests.{eqb-true, eqb-false, eq-eqb, ne_eqb}
use Rattle.phases.specs.Matrix.{get_or-range, in_range}
use Rattle.rule.specs.Lists.{In, filter, keep, head}
use Rattle.rule.specs.Sets.{bool_or, in_filter, each_in}
use Rattle.rule.specs.Permitted.{ones, count}
use Rattle.rule.specs.Rule.{Marks, joint, touched, add_pair, add_pairs, number_of, by_least, raw_marks, first_marks}
use Rattle.rule.specs.Alike.{filter_alike}
use Rattle.grid.specs.Grid.{bit, Under, Rows, Figures}
use Rattle.labels.specs.Labs.{labs}
use Rattle.labels.specs.Marking.{marks_of, zeros, Ready, Marked, Right}
use Rattle.phases.specs.System.{range}
use Rattle.phases.specs.Fit.{less?}

-- the rows to be joined
unfoldable pub is_two : List ℕ → ℕ → Bool
is_two fig y = eqb (get_or fig y 0) 2

pub twos_are : (row : ℕ → ℕ → Bool) (C ys fig : List ℕ) → Right row C ys fig → filter (is_two fig) ys ≡ filter (λ x. eqb (count row C x) 2) ys
unfolding is_two
twos_are row C ys fig r =
    filter_alike (is_two fig) (λ x. eqb (count row C x) 2) ys (λ y m. ap (λ (n : ℕ). eqb n 2) (each_in (λ y. get_or fig y 0 ≡ count row C y) ys r.at y m))

-- no column has a label
pub blank : {n : ℕ} {l : List ℕ} → Figures (λ _. 0) n l → (c : ℕ) → labs l c ≡ 0
blank {n} {l} f c = go (less? c n)
  where
    go : (c < n) ⊎ (n ≤ c) → labs l c ≡ 0
    go (inl h) = f.each c h
    go (inr h) = get_or-eq_default l 0 (omega (arith, f.long))

pub zeros_few : (l : List ℕ) → zeros l ≤ length l
unfolding zeros
zeros_few [] = omega arith
zeros_few (zero ∷ l) = omega (arith, zeros_few l)
zeros_few (suc a ∷ l) = omega (arith, zeros_few l)

pub blank_ready : {n : ℕ} {l : List ℕ} → Figures (λ _. 0) n l → length l + 2 < 2 ^ 64 → Ready l 1
blank_ready {n} {l} f h = record {
  pos = omega arith;
  low = λ c. omega (arith, blank f c);
  room = omega (arith, zeros_few l);
}

-- columns outside C have no label
pub record Outside (lab : ℕ → ℕ) (C : List ℕ) : Type 0 where
  pub none : (c : ℕ) → (In c C → ⊥) → lab c ≡ 0

untouched : (lab : ℕ → ℕ) (p q c : ℕ) → (c ≡ p → ⊥) → (c ≡ q → ⊥) → lab c ≡ 0 → touched lab p q c ≡ false
untouched lab p q c a b e = rw (ne_eqb c p a, ne_eqb c q b, eq-eqb (lab c) 0 e)

outside_pair : (m : Marks) (C l : List ℕ) → ((c : ℕ) → In c l → In c C) → Outside m.lab C → Outside (add_pair m l).lab C
outside_pair m C [] s o = o
outside_pair m C (p ∷ []) s o = o
outside_pair m C (p ∷ q ∷ []) s o = record {
  none = λ c n. ap (λ (b : Bool). cond b (joint (m.lab p) (m.lab q) m.next) (m.lab c))
      (untouched m.lab p q c (λ e. n (subst (λ (x : ℕ). In x C) (sym e) (s p (inl refl)))) (λ e. n (subst (λ (x : ℕ). In x C) (sym e) (s q (inr (inl refl))))) (o.none c n)) ∙ o.none c n;
}
outside_pair m C (p ∷ q ∷ r ∷ l) s o = o

pub outside_pairs : (row : ℕ → ℕ → Bool) (C : List ℕ) (m : Marks) (xs : List ℕ) → Outside m.lab C → Outside (add_pairs row C m xs).lab C
outside_pairs row C m [] o = o
outside_pairs row C m (x ∷ xs) o =
    outside_pairs row C (add_pair m (ones row C x)) xs (outside_pair m C (ones row C x) (λ c h. (in_filter (row x) C c h).0) o)

-- two matrices that agree on the rows have the same pairs
pub pairs_alike : (row row' : ℕ → ℕ → Bool) (C : List ℕ) (m : Marks) (xs : List ℕ) → ((x : ℕ) → In x xs → ones row C x ≡ ones row' C x)
    → add_pairs row C m xs ≡ add_pairs row' C m xs
pairs_alike row row' C m [] h = refl
pairs_alike row row' C m (x ∷ xs) h =
    ap (λ (l : List ℕ). add_pairs row C (add_pair m l) xs) (h x (inl refl)) ∙ pairs_alike row row' C (add_pair m (ones row' C x)) xs (λ y i. h y (inr i))

-- by the columns from 0 on: the first one that has a label keeps it
pub seen : ℕ → ℕ → ℕ
seen zero c = suc c
seen (suc v) c = suc v

unfoldable pub least_of : (ℕ → ℕ) → ℕ → ℕ → ℕ
least_of lab zero a = 0
least_of lab (suc c) a = cond (eqb (lab c) a) (seen (least_of lab c a) c) (least_of lab c a)

module _ (lab : ℕ → ℕ) where
  -- as the rule has it
  head-snoc : (p : ℕ → Bool) (xs : List ℕ) (c : ℕ)
      → number_of (head (filter p (xs ++ (c ∷ [])))) ≡ cond (p c) (seen (number_of (head (filter p xs))) c) (number_of (head (filter p xs)))
  unfolding seen
  head-snoc p [] c = go (p c)
    where
      go : (b : Bool) → number_of (head (keep b c [])) ≡ cond b (suc c) 0
      go true = refl
      go false = refl
  head-snoc p (x ∷ xs) c = go (p x) (p c) (head-snoc p xs c)
    where
      go : (a b : Bool) → number_of (head (filter p (xs ++ (c ∷ [])))) ≡ cond b (seen (number_of (head (filter p xs))) c) (number_of (head (filter p xs)))
          → number_of (head (keep a x (filter p (xs ++ (c ∷ []))))) ≡ cond b (seen (number_of (head (keep a x (filter p xs)))) c) (number_of (head (keep a x (filter p xs))))
      go true true h = refl
      go true false h = refl
      go false b h = h

  range_snoc : (a k : ℕ) → range a (suc k) ≡ range a k ++ ((a + k) ∷ [])
  range_snoc a zero = ap (λ (n : ℕ). n ∷ []) (omega arith)
  range_snoc a (suc k) = ap (λ (l : List ℕ). a ∷ l) (range_snoc (suc a) k ∙ ap (λ (n : ℕ). range (suc a) k ++ (n ∷ [])) (omega arith))

  pub least_is : (c a : ℕ) → least_of lab c a ≡ number_of (head (filter (λ d. eqb (lab d) a) (range 0 c)))
  unfolding least_of
  least_is zero a = refl
  least_is (suc c) a =
      let e : range 0 (suc c) ≡ range 0 c ++ (c ∷ []) = range_snoc 0 c ∙ ap (λ (n : ℕ). range 0 c ++ (n ∷ [])) (omega arith) in
      ap (λ (v : ℕ). cond (eqb (lab c) a) (seen v c) v) (least_is c a) ∙ sym (head-snoc (λ d. eqb (lab d) a) (range 0 c) c)
      ∙ sym (ap (λ (l : List ℕ). number_of (head (filter (λ d. eqb (lab d) a) l))) e)

  seen-some : (v c : ℕ) → 0 < seen v c
  unfolding seen
  seen-some zero c = omega arith
  seen-some (suc v) c = omega arith

  seen_same : (v c : ℕ) → 0 < v → seen v c ≡ v
  unfolding seen
  seen_same zero c h = absurd (omega arith)
  seen_same (suc v) c h = refl

  seen_low : (v c : ℕ) → v ≤ c → seen v c ≤ suc c
  unfolding seen
  seen_low zero c h = omega arith
  seen_low (suc v) c h = omega arith

  pub least_here : (c a : ℕ) → lab c ≡ a → least_of lab (c + 1) a ≡ seen (least_of lab c a) c
  unfolding least_of
  least_here c a e = rw (add-one, eq-eqb (lab c) a e)

  pub least_other : (c a : ℕ) → (lab c ≡ a → ⊥) → least_of lab (c + 1) a ≡ least_of lab c a
  unfolding least_of
  least_other c a n = rw (add-one, ne_eqb (lab c) a n)

  -- once there is one it stays
  least_stays : (n c a : ℕ) → 0 < least_of lab c a → least_of lab (c + n) a ≡ least_of lab c a
  least_stays zero c a h = ap (λ (k : ℕ). least_of lab k a) (omega arith)
  least_stays (suc n) c a h =
      let e : c + suc n ≡ (c + n) + 1 = omega arith in
      let i : least_of lab (c + n) a ≡ least_of lab c a = least_stays n c a h in
      ap (λ (k : ℕ). least_of lab k a) e ∙ ⊎_elim
      (λ t. least_here (c + n) a (eqb-true (lab (c + n)) a t) ∙ seen_same (least_of lab (c + n) a) (c + n) (omega arith) ∙ i)
      (λ t. least_other (c + n) a (eqb-false (lab (c + n)) a t) ∙ i) (bool_or (eqb (lab (c + n)) a))

  pub least_low : (c a : ℕ) → least_of lab c a ≤ c
  unfolding least_of
  least_low zero a = omega arith
  least_low (suc c) a = go (eqb (lab c) a) (least_low c a)
    where
      go : (b : Bool) → least_of lab c a ≤ c → cond b (seen (least_of lab c a) c) (least_of lab c a) ≤ suc c
      go true h = seen_low (least_of lab c a) c h
      go false h = omega arith

  pub by_least_none : (w c : ℕ) → lab c ≡ 0 → by_least (range 0 w) lab c ≡ 0
  by_least_none w c e = rw (eq-eqb (lab c) 0 e)

  pub by_least_some : (w c : ℕ) → c < w → (lab c ≡ 0 → ⊥) → by_least (range 0 w) lab c ≡ seen (least_of lab c (lab c)) c
  by_least_some w c l n =
      let e : (c + 1) + (w - (c + 1)) ≡ w = omega arith in
      let h : least_of lab (c + 1) (lab c) ≡ seen (least_of lab c (lab c)) c = least_here c (lab c) refl in
      ap (λ (b : Bool). cond b 0 (number_of (head (filter (λ d. eqb (lab d) (lab c)) (range 0 w))))) (ne_eqb (lab c) 0 n)
      ∙ sym (least_is w (lab c)) ∙ ap (λ (k : ℕ). least_of lab k (lab c)) (sym e)
      ∙ least_stays (w - (c + 1)) (c + 1) (lab c) (subst (λ (v : ℕ). 0 < v) (sym h) (seen-some (least_of lab c (lab c)) c)) ∙ h

  pub by_least_low : (w c : ℕ) → by_least (range 0 w) lab c ≤ w
  by_least_low w c = go (eqb (lab c) 0)
    where
      go : (b : Bool) → cond b 0 (number_of (head (filter (λ d. eqb (lab d) (lab c)) (range 0 w)))) ≤ w
      go true = omega arith
      go false = omega (arith, least_is w (lab c), least_low w (lab c))

-- the room, of which entry a is what was seen of label a, and the labels: those of the columns below c are numbers, the others as they were
pub record Numbering (lab : ℕ → ℕ) (w long room c : ℕ) (l r : List ℕ) : Type 0 where
  pub within : c ≤ w
  pub upto : w ≤ long
  pub kept : length l ≡ long
  pub wide : length r ≡ room
  pub low : (k : ℕ) → lab k < room
  pub done : (k : ℕ) → k < c → labs l k ≡ by_least (range 0 w) lab k
  pub left : (k : ℕ) → c ≤ k → labs l k ≡ lab k
  pub rooms : (a : ℕ) → 0 < a → a < room → get_or r a 0 ≡ least_of lab c a

pub number-start : (l : List ℕ) {w n : ℕ} {r : List ℕ} → w ≤ length l → ((k : ℕ) → labs l k < n) → Figures (λ _. 0) n r
    → Numbering (labs l) w (length l) (length r) 0 l r
unfolding least_of
number-start l h b f = record {
  within = omega arith;
  upto = h;
  kept = refl;
  wide = refl;
  low = λ k. omega (arith, b k, f.long);
  done = λ k i. absurd (omega arith);
  left = λ k i. refl;
  rooms = λ a p i. f.each a (omega (arith, f.long));
}

-- what a turn does to the room
pub record Seen (a c : ℕ) (r₀ r : List ℕ) (v : ℕ) : Type 0 where
  pub value : v ≡ seen (get_or r₀ a 0) c
  pub is : r ≡ set r₀ a v

module _ {lab : ℕ → ℕ} {w long room c : ℕ} {l r : List ℕ} (n : Numbering lab w long room c l r) (i : c < w) where
  pub number_at : c < length l
  number_at = omega (arith, n.kept, n.upto)

  pub number-none : labs l c ≡ 0 → Numbering lab w long room (c + 1) l r
  number-none e =
      let z : lab c ≡ 0 = sym (n.left c (omega arith)) ∙ e in
      record {
        within = omega arith;
        upto = n.upto;
        kept = n.kept;
        wide = n.wide;
        low = n.low;
        done = below_more _ _ n.done (e ∙ sym (by_least_none lab w c z));
        left = λ k h. n.left k (omega arith);
        rooms = λ a p h. n.rooms a p h ∙ sym (least_other lab c a (λ q. omega arith));
      }

  pub number-next : {r' : List ℕ} {v : ℕ} → (labs l c ≡ 0 → ⊥) → Seen (labs l c) c r r' v → Numbering lab w long room (c + 1) (set l c v) r'
  number-next {r'} {v} e s =
      let z : lab c ≡ labs l c = sym (n.left c (omega arith)) in
      let x : get_or r (labs l c) 0 ≡ least_of lab c (lab c) =
      n.rooms (labs l c) (omega arith) (omega (arith, n.low c)) ∙ ap (least_of lab c) (sym z) in
      let q : v ≡ seen (least_of lab c (lab c)) c = s.value ∙ ap (λ (u : ℕ). seen u c) x in
      record {
        within = omega arith;
        upto = n.upto;
        kept = length-set l c v ∙ n.kept;
        wide = ap length s.is ∙ length-set r (labs l c) v ∙ n.wide;
        low = n.low;
        done = below_more _ _ (λ k h. get_or-set_other l c k v 0 (λ t. omega arith) ∙ n.done k h)
            (get_or-set_same l c v 0 number_at ∙ q ∙ sym (by_least_some lab w c i (λ t. e (sym z ∙ t))));
        left = λ k h. get_or-set_other l c k v 0 (λ t. omega arith) ∙ n.left k (omega arith);
        rooms = λ a p h. ap (λ (t : List ℕ). get_or t a 0) s.is ∙ at a p h q (bool_or (eqb a (labs l c)));
      }
    where
      at : (a : ℕ) → 0 < a → a < room → v ≡ seen (least_of lab c (lab c)) c → (eqb a (labs l c) ≡ true) ⊎ (eqb a (labs l c) ≡ false)
          → get_or (set r (labs l c) v) a 0 ≡ least_of lab (c + 1) a
      at a p h q (inl t) =
          let u : a ≡ labs l c = eqb-true a (labs l c) t in
          let y : lab c ≡ a = sym (n.left c (omega arith)) ∙ sym u in
          ap (λ (k : ℕ). get_or (set r (labs l c) v) k 0) u ∙ get_or-set_same r (labs l c) v 0 (omega (arith, n.wide, u))
          ∙ q ∙ ap (λ (k : ℕ). seen (least_of lab c k) c) y ∙ sym (least_here lab c a y)
      at a p h q (inr t) =
          let u : (a ≡ labs l c → ⊥) = eqb-false a (labs l c) t in
          get_or-set_other r (labs l c) a v 0 u ∙ n.rooms a p h ∙ sym (least_other lab c a (λ y. u (sym (n.left c (omega arith) ∙ y))))

-- each label is one more than the least column that has it
pub record Numbered (w : ℕ) (l₀ l : List ℕ) : Type 0 where
  pub kept : length l ≡ length l₀
  pub each : (c : ℕ) → labs l c ≡ by_least (range 0 w) (labs l₀) c

pub number_end : {w room c : ℕ} {l₀ l r : List ℕ} → Numbering (labs l₀) w (length l₀) room c l r → w ≤ c → Outside (labs l₀) (range 0 w) → Numbered w l₀ l
number_end {w} {room} {c} {l₀} {l} n h o = record { kept = n.kept; each = λ k. at k (less? k c) }
  where
    at : (k : ℕ) → (k < c) ⊎ (c ≤ k) → labs l k ≡ by_least (range 0 w) (labs l₀) k
    at k (inl i) = n.done k i
    at k (inr i) =
        let z : labs l₀ k ≡ 0 = o.none k (λ m. omega (arith, (in_range 0 w k m).1)) in
        n.left k i ∙ z ∙ sym (by_least_none (labs l₀) w k z)

-- e is the eligible rows, v the columns below its length, fig each row's ones in v; `long` columns have labels, and `room` entries are lent
pub record Given (l : ℕ) (bits e v fig : List ℕ) (long room : ℕ) : Type 0 where
  pub rows : Rows l (length bits) e
  pub figured : Under (length fig) e
  pub columns : v ≡ range 0 (length v)
  pub within : length v ≤ l
  pub right : Right (bit l bits) v e fig
  pub labelled : l ≤ long
  pub fits : long + 1 ≤ room

pub record FirstMarked (row : ℕ → ℕ → Bool) (C E : List ℕ) (long : ℕ) (l : List ℕ) (n : ℕ) : Type 0 where
  pub kept : length l ≡ long
  pub next : n ≡ length C + 1
  pub ready : Ready l n
  pub is : marks_of l n ≡ first_marks row C E (length C)

pub under_range : {l : ℕ} {v : List ℕ} → v ≡ range 0 (length v) → length v ≤ l → Under l v
under_range {l} {v} e h = record { at = λ k i. omega (arith, ap (λ (x : List ℕ). get_or x k 0) e ∙ get_or-range 0 (length v) k i) }

module _ {l : ℕ} {bits e v fig : List ℕ} {long room : ℕ} (g : Given l bits e v fig long room) where
  pub given_columns : Under l v
  given_columns = under_range g.columns g.within

  pub given_long : {l₀ : List ℕ} → Figures (λ _. 0) long l₀ → l ≤ length l₀
  given_long f = omega (arith, f.long, g.labelled)

-- a turn of the room, by the code's test
pub seen-new : (r : List ℕ) (a c : ℕ) → get_or r a 0 ≡ 0 → Seen a c r (set r a (c + 1)) (c + 1)
unfolding seen
seen-new r a c e = record { value = rw e (omega arith); is = refl }

pub seen_first : (r : List ℕ) (a c : ℕ) → a < length r → get_or r a 0 ≡ 0 → Seen a c r (set r a (c + 1)) (get_or (set r a (c + 1)) a 0)
seen_first r a c h e = subst (λ (x : ℕ). Seen a c r (set r a (c + 1)) x) (sym (get_or-set_same r a (c + 1) 0 h)) (seen-new r a c e)

pub seen_old : (r : List ℕ) (a c : ℕ) → (get_or r a 0 ≡ 0 → ⊥) → Seen a c r r (get_or r a 0)
seen_old r a c n = record { value = sym (seen_same (λ k. k) (get_or r a 0) c (omega arith)); is = sym (set-get_or r a 0) }

-- put together: no labels, then the pairs, then the numbers
module _ {l : ℕ} {bits e v fig : List ℕ} {long room : ℕ} (g : Given l bits e v fig long room) {l₀ l₁ : List ℕ} {n : ℕ}
    (f : Figures (λ _. 0) long l₀) (m : Marked (add_pairs (bit l bits) v (marks_of l₀ 1) (filter (is_two fig) e)) l₀ 1 l₁ n) where
  blank_marks : marks_of l₀ 1 ≡ record { lab = λ _. 0; next = 1 }
  blank_marks = ap (λ (h : ℕ → ℕ). record { lab = h; next = 1 }) (fun_ext (blank f))

  raw : marks_of l₁ n ≡ raw_marks (bit l bits) v e
  raw =
      m.is ∙ ap₂ (λ (x : Marks) (ys : List ℕ). add_pairs (bit l bits) v x ys) blank_marks (twos_are (bit l bits) v e fig g.right)

  raw_lab : labs l₁ ≡ (raw_marks (bit l bits) v e).lab
  raw_lab = ap (λ (x : Marks). x.lab) raw

  pub given_upto : length v ≤ length l₁
  given_upto = omega (arith, m.kept, f.long, g.within, g.labelled)

  pub given_low : (c : ℕ) → labs l₁ c < room
  given_low c = omega (arith, m.ready.low c, m.few, zeros_few l₀, f.long, g.fits)

  pub given_outside : Outside (labs l₁) (range 0 (length v))
  given_outside =
      subst (Outside (labs l₁)) g.columns
      (subst (λ (h : ℕ → ℕ). Outside h v) (sym raw_lab)
      (outside_pairs (bit l bits) v (record { lab = λ _. 0; next = 1 }) (filter (λ x. eqb (count (bit l bits) v x) 2) e) (record { none = λ c n. refl })))

  pub given_marked : {l₂ : List ℕ} {r : ℕ} → Numbered (length v) l₁ l₂ → length l₂ + length l₂ + 2 < 2 ^ 64 → r ≡ length v + 1 → FirstMarked (bit l bits) v e long l₂ r
  given_marked {l₂} {r} d b q = record {
    kept = d.kept ∙ m.kept ∙ f.long;
    next = q;
    ready = record {
      pos = omega arith;
      low = λ c. omega (arith, d.each c, by_least_low (labs l₁) (length v) c);
      room = omega (arith, zeros_few l₂, d.kept, m.kept, f.long, g.within, g.labelled);
    };
    is = ap₂ (λ (h : ℕ → ℕ) (k : ℕ). record { lab = h; next = k }) (fun_ext each) (q ∙ omega arith);
  }
    where
      each : (c : ℕ) → labs l₂ c ≡ by_least v (raw_marks (bit l bits) v e).lab c
      each c = d.each c ∙ ap₂ (λ (C : List ℕ) (h : ℕ → ℕ). by_least C h c) (sym g.columns) raw_lab
