-- Phase two as a whole.
--   Counted           a run that went through has so many steps
--   finished, both    the definition's columns cleared above besides, where each of them has a row
--   begun             the matrix that phase two begins with
--   Prepared          what phase two asks for
--   Reduced           what it promises
--   forward-counted   each column that was gone through has a step
--   done_fair         the journal is fair where the columns are gone through
--   done_then, singular_then   an answer of `forward`, after `backward`
--   eliminated_fair, eliminated_done, eliminated_singular   the same of what the two functions promise
--   columns_part      the columns from place i on
--   reduced           phase two, by its parts
--   reduced_length    phase two keeps the length of the list's room
-- Assumes nothing.
use Rattle.std.specs.Prelude.{◌≡◌, refl, List, [], ◌++◌, take, drop, Result, Ok, Err, ⊤}
use Rattle.std.proofs.Common.{sym, ap₂, subst, ◌∙◌, length-append, length-drop, take_at, take_all}
use Rattle.std.proofs.Math.Path.{ap}
use Rattle.std.proofs.Math.Option.{Option, some, none}
use Prim.Native.Nat.{ℕ, zero, suc, ◌+◌, ◌-◌, ◌≤◌}
use native.Mathlib.Omega.{arith}
use Rattle.std.proofs.Math.ListN.{length}
use Rattle.phases.specs.ByPlace.{length-rows_of}
use Rattle.loops.specs.Loop.{for_to, up}
use Rattle.loops.specs.Room.{notes, notes-append}
use Rattle.loops.specs.Out.{Out, done, at as beside}
use Rattle.loops.specs.Way.{Way, go, halt, map_way, bind_way, after, lay, for_way}
use Rattle.oplist.specs.declared.Op.{Op}
use Rattle.oplist.specs.Ops.{Within, Each}
use Rattle.oplist.specs.Listed.{ops_of}
use Rattle.oplist.specs.Facts.{Order}
use Rattle.rule.specs.Lists.{filter, head}
use Rattle.phases.specs.One.{rows_of}
use Rattle.phases.specs.Two.{Second, acts, working, giving, turn, forward, backward}
use Rattle.tally.specs.Book.{Book, note, anew, Fair, fair_notes, length-notes}
use Rattle.second.specs.declared.Singular.{Singular}
use Rattle.second.specs.Store.{store_of}
use Rattle.second.specs.Step.{Ready}
use Rattle.second.specs.Forward.{View, sight, told, seen, through, stopped, nonzero, Eliminated}
use Rattle.second.specs.Backward.{Cleared}
use Rattle.second.specs.Fill.{Filling, entries}

abbrev pub finished : Way (Out Op Second) → Way (Out Op Second)
finished (go f) = go (record { st = f.st; ops = f.ops ++ backward f.st.mat (rows_of f.st.steps) (length f.st.steps) })
finished (halt j f) = halt j f

abbrev pub both : List ℕ → List ℕ → List (List ℕ) → Way (Out Op Second)
both cols rows X = finished (forward cols rows X)

-- A's columns `cols`, after phase one's list
abbrev pub begun : (ℕ → ℕ → ℕ) → ℕ → List ℕ → List Op → List (List ℕ)
begun A m cols os = acts os (working A m cols)

pub record Prepared (m l s h i : ℕ) (bits octs c d w scratch : List ℕ) (g : Book) : Type 0 where
  pub ready : Ready m l i w scratch d g
  pub filling : Filling m l s h i w bits octs (drop i c)
  pub columns : length c ≡ l
  pub held : g.used ≤ length g.words
  pub within : Each (Within m) (ops_of (take g.used g.words))

pub record Reduced (m l s h i : ℕ) (bits octs c d₀ : List ℕ) (g₀ : Book) (r : Result ⊤ Singular) (w d : List ℕ) (g : Book) : Type 0 where
  pub order : Order m m d
  pub chosen : take i d ≡ take i d₀
  pub is : told r (sight (drop i d) (store_of m l i w)) g
      ≡ seen i (map_way (lay note (anew g₀))
      (both (drop i c) (drop i d₀) (begun (entries m l s h bits octs) m (drop i c) (ops_of (take g₀.used g₀.words)))))

-- each column so far has a step
abbrev pub Counted : ℕ → Way (Out Op Second) → Type 0
Counted n (go f) = length f.st.steps ≡ n
Counted n (halt j f) = Unit {0}

module _ (cols : List ℕ) where
  counted_next : (k n : ℕ) (w : Way (Out Op Second)) → Counted n w → Counted (suc n) (bind_way w (after (turn cols k)))
  counted_next k n (halt j f) h = tt
  counted_next k n (go f) h = at (head (filter (nonzero f.st.mat k) f.st.left))
    where
      at : (y : Option ℕ)
          → Counted (suc n) (map_way (λ (p : Out Op Second). record { st = p.st; ops = f.ops ++ p.ops }) (giving cols k f.st y))
      at none = tt
      at (some y) = length-append f.st.steps _ ∙ omega (arith, h)

  counted : (n : ℕ) (s : Second) → s.steps ≡ [] → Counted n (up 0 n (λ (k : ℕ) (w : Way (Out Op Second)). bind_way w (after (turn cols k))) (go (done s)))
  unfolding up
  counted zero s e = ap length e
  counted (suc n) s e =
      counted_next (0 + n) n (up 0 n (λ (k : ℕ) (w : Way (Out Op Second)). bind_way w (after (turn cols k))) (go (done s))) (counted n s e)

  pub forward-counted : (rows : List ℕ) (X : List (List ℕ)) → Counted (length cols) (forward cols rows X)
  unfolding for_to for_way
  forward-counted rows X =
      let z : length cols - 0 ≡ length cols = omega arith in
      rw z (counted (length cols) (record { steps = []; left = rows; mat = X }) refl)

module _ (i : ℕ) (g₀ : Book) {xs : List ℕ} {X : List (List ℕ)} {g : Book} (W : Way (Out Op Second)) where
  pub done_fair : go (beside (sight xs X) g) ≡ seen i (map_way (lay note g₀) W) → Fair g₀ → Fair g
  done_fair e h = let t = through i g₀ W e in subst Fair (sym t.ran.list) (fair_notes t.f.ops g₀ h)

  pub singular_then : {q : ℕ} → halt q (beside (sight xs X) g) ≡ seen i (map_way (lay note g₀) W)
      → halt q (beside (sight xs X) g) ≡ seen i (map_way (lay note g₀) (finished W))
  singular_then e = let s = stopped i g₀ W e in e ∙ rw s.way

  pub done_then : (n : ℕ) {g' : Book} → Counted n W → go (beside (sight xs X) g) ≡ seen i (map_way (lay note g₀) W)
      → Cleared (backward X (take n xs) n) g g' → go (beside (sight xs X) g') ≡ seen i (map_way (lay note g₀) (finished W))
  done_then n {g'} h e c =
      let t = through i g₀ W e in
      let s : Second = t.f.st in
      let k : length s.steps ≡ n = subst (Counted n) t.way h in
      let first : take n xs ≡ rows_of s.steps = ap (take n) t.ran.rows ∙ take_at (rows_of s.steps) s.left n (length-rows_of s.steps ∙ k) in
      let rest : backward X (take n xs) n ≡ backward s.mat (rows_of s.steps) (length s.steps) =
      ap₂ (λ (Y : List (List ℕ)) (ys : List ℕ). backward Y ys n) t.ran.mat first ∙ ap (backward s.mat (rows_of s.steps)) (sym k)
      in
      let next : g' ≡ notes note g₀ (t.f.ops ++ backward s.mat (rows_of s.steps) (length s.steps)) =
      c.is ∙ ap₂ (λ (j : Book) (os : List Op). notes note j os) t.ran.list rest ∙ sym (notes-append note g₀ t.f.ops _)
      in
      rw t.way (ap₂ (λ (v : View) (j : Book). go (beside v j)) (ap₂ sight t.ran.rows t.ran.mat) next)

-- the answer of `forward`, and what `eliminate` makes of it
module _ {m l i : ℕ} {w₀ d₀ : List ℕ} {g₀ : Book} {w d : List ℕ} {g : Book} where
  pub eliminated_fair : {r : Result ⊤ Singular} → r ≡ Ok tt → Eliminated forward m l i w₀ d₀ g₀ r w d g → Fair g₀ → (cols : List ℕ) → length cols ≡ l - i → Fair g
  eliminated_fair e p h cols n = done_fair i g₀ (forward cols (drop i d₀) (store_of m l i w₀)) (ap (λ (x : Result ⊤ Singular). told x (sight (drop i d) (store_of m l i w)) g) (sym e) ∙ p.is cols n) h

  pub eliminated_singular : {s : Singular} {r : Result ⊤ Singular} → r ≡ Err s → Eliminated forward m l i w₀ d₀ g₀ r w d g → Eliminated both m l i w₀ d₀ g₀ (Err s) w d g
  eliminated_singular e p = record {
    order = p.order;
    chosen = p.chosen;
    is = λ cols n. singular_then i g₀ (forward cols (drop i d₀) (store_of m l i w₀)) (ap (λ (x : Result ⊤ Singular). told x (sight (drop i d) (store_of m l i w)) g) (sym e) ∙ p.is cols n);
  }

  pub eliminated_done : {g' : Book} {r : Result ⊤ Singular} → r ≡ Ok tt → Eliminated forward m l i w₀ d₀ g₀ r w d g
      → Cleared (backward (store_of m l i w) (take (l - i) (drop i d)) (l - i)) g g' → Eliminated both m l i w₀ d₀ g₀ (Ok tt) w d g'
  eliminated_done e p c = record {
    order = p.order;
    chosen = p.chosen;
    is =
        λ cols n. done_then i g₀ (forward cols (drop i d₀) (store_of m l i w₀)) (l - i) (subst (λ (k : ℕ). Counted k (forward cols (drop i d₀) (store_of m l i w₀))) n (forward-counted cols (drop i d₀) (store_of m l i w₀)))
        (ap (λ (x : Result ⊤ Singular). told x (sight (drop i d) (store_of m l i w)) g) (sym e) ∙ p.is cols n) c;
  }

pub columns_part : (c : List ℕ) (l i : ℕ) → length c ≡ l → take (l - i) (drop i c) ≡ drop i c
columns_part c l i e = take_all (l - i) (drop i c) (omega (arith, length-drop i c))

module _ {m l s h i : ℕ} {bits octs c d₀ : List ℕ} (g₀ : Book) {g₁ : Book} where
  pub reduced : (w₁ : List ℕ) {ws w₂ w d : List ℕ} {g : Book} {r : Result ⊤ Singular} → length c ≡ l
      → store_of m l i w₁ ≡ working (entries m l s h bits octs) m (take (l - i) (drop i c))
      → ws ≡ take g₀.used g₀.words → store_of m l i w₂ ≡ acts (ops_of ws) (store_of m l i w₁)
      → g₁ ≡ anew g₀ → Eliminated both m l i w₂ d₀ g₁ r w d g
      → Reduced m l s h i bits octs c d₀ g₀ r w d g
  reduced w₁ {w₂ = w₂} n a q b e p =
      let A : (ℕ → ℕ → ℕ) = entries m l s h bits octs in
      let f : store_of m l i w₂ ≡ begun A m (drop i c) (ops_of (take g₀.used g₀.words)) =
      b ∙ ap₂ (λ (ks : List ℕ) (X : List (List ℕ)). acts (ops_of ks) X) q (a ∙ ap (working A m) (columns_part c l i n))
      in
      record {
        order = p.order;
        chosen = p.chosen;
        is =
            p.is (drop i c) (length-drop i c ∙ ap (λ (k : ℕ). k - i) n)
            ∙ ap₂ (λ (h : Book) (X : List (List ℕ)). seen i (map_way (lay note h) (both (drop i c) (drop i d₀) X))) e f;
      }

-- the room keeps its length
pub reduced_length : {m l s h i : ℕ} {bits octs c d₀ : List ℕ} {g₀ : Book} {r : Result ⊤ Singular} {w d : List ℕ} {g : Book}
    → Reduced m l s h i bits octs c d₀ g₀ r w d g → length g.words ≡ length g₀.words
reduced_length {m} {l} {s} {h} {i} {bits} {octs} {c} {d₀} {g₀} {r} {w} {d} {g} R = at r R.is
  where
    W : Way (Out Op Second)
    W = both (drop i c) (drop i d₀) (begun (entries m l s h bits octs) m (drop i c) (ops_of (take g₀.used g₀.words)))

    noted : (ops : List Op) → g ≡ notes note (anew g₀) ops → length g.words ≡ length g₀.words
    noted ops e = ap (λ (b : Book). length b.words) e ∙ length-notes ops (anew g₀)

    at : (x : Result ⊤ Singular) → told x (sight (drop i d) (store_of m l i w)) g ≡ seen i (map_way (lay note (anew g₀)) W) → length g.words ≡ length g₀.words
    at (Ok _) e = let t = through i (anew g₀) W e in noted t.f.ops t.ran.list
    at (Err x) e = let t = stopped i (anew g₀) W e in noted t.f.ops t.ran.list
