-- The columns of phase two, one after the other: what code sees of the definition's `forward`.
--   View, sight, view   the rows by place, those that got a column first, and the matrix
--   told                what an answer says, beside what the rooms then hold; a stop is told by the place of its column
--   seen                the same of the definition, whose columns are counted from place i
--   Eliminated by       what `forward` and `eliminate` promise: what the definition `by` says, whatever the columns' numbers are
--   Ran, Through, Stopped, through, stopped   what an answer says of the definition: it went through, or stopped at a column
--   nonzero             a row has a nonzero at a place
--   search_here, search_none   the first row with a nonzero, from a place on
--   state, step         a state of the definition, and a turn of its loop beside the journal
--   Going               where the loop over columns stands
--   going_start, going_next, going_done, going_stuck   it begins, makes a turn, is over, meets a column without pivot
--   going_chosen        the rows before place i stay
-- Assumes nothing.
use Rattle.std.specs.Prelude.{◌≡◌, refl, ◌≢◌, Bool, not, ℕ, ◌+◌, ◌-◌, ◌≤◌, ◌<◌, eqb, length, get_or, take, Result, Ok, Err, ⊤}
use Rattle.std.proofs.Common.{sym, ◌∙◌, add-one, ne_eqb, length-append, take-append-drop, drop_of_length-le, drop-cons, take_at, drop_at, length-take-le}
use Rattle.std.proofs.Math.Path.{ap}
use mathlib.Core.List.{List, [], ◌∷◌, ◌++◌, append_assoc, append-nil}
use Rattle.std.proofs.Math.Option.{some, none}
use native.Mathlib.Omega.{arith}
use Rattle.std.proofs.Math.ListN.{drop}
use Rattle.loops.specs.Loop.{At, at-start, at_next, at_end, left_early}
use Rattle.loops.specs.Room.{notes}
use Rattle.loops.specs.Out.{Out, Run, at as beside}
use Rattle.loops.specs.Way.{Way, go, halt, map_way, bind_way, lay, run_way, run_way_lem, for_way}
use Rattle.oplist.specs.declared.Op.{Op}
use Rattle.oplist.specs.Facts.{Order}
use Rattle.rule.specs.Lists.{filter, head}
use Rattle.rule.specs.Rule.{without}
use Rattle.phases.specs.One.{Step, rows_of}
use Rattle.phases.specs.Two.{at, Second, given, turn, forward}
use Rattle.tally.specs.Book.{Book, note}
use Rattle.second.specs.declared.Singular.{Singular}
use Rattle.second.specs.Store.{store_of}
use Rattle.second.specs.Step.{Stepped}

pub record View : Type 0 where
  pub rows : List ℕ
  pub mat : List (List ℕ)

abbrev pub sight : List ℕ → List (List ℕ) → View
sight xs X = record { rows = xs; mat = X }

abbrev pub view : Second → View
view s = sight (rows_of s.steps ++ s.left) s.mat

abbrev pub told : Result ⊤ Singular → View → Book → Way (Run Book View)
told (Ok _) v g = go (beside v g)
told (Err s) v g = halt s.place (beside v g)

abbrev pub seen : ℕ → Way (Run Book Second) → Way (Run Book View)
seen i (go r) = go (beside (view r.st) r.log)
seen i (halt j r) = halt (i + j) (beside (view r.st) r.log)

pub record Eliminated (by : List ℕ → List ℕ → List (List ℕ) → Way (Out Op Second)) (m l i : ℕ) (w₀ d₀ : List ℕ) (g₀ : Book)
    (r : Result ⊤ Singular) (w d : List ℕ) (g : Book) : Type 0 where
  pub order : Order m m d
  pub chosen : take i d ≡ take i d₀
  pub is : (cols : List ℕ) → length cols ≡ l - i
      → told r (sight (drop i d) (store_of m l i w)) g ≡ seen i (map_way (lay note g₀) (by cols (drop i d₀) (store_of m l i w₀)))

-- the rows by place, the matrix and the journal are those that f leaves
pub record Ran (g₀ : Book) (f : Out Op Second) (xs : List ℕ) (X : List (List ℕ)) (g : Book) : Type 0 where
  pub rows : xs ≡ rows_of f.st.steps ++ f.st.left
  pub mat : X ≡ f.st.mat
  pub list : g ≡ notes note g₀ f.ops

pub record Through (g₀ : Book) (W : Way (Out Op Second)) (xs : List ℕ) (X : List (List ℕ)) (g : Book) : Type 0 where
  pub f : Out Op Second
  pub way : W ≡ go f
  pub ran : Ran g₀ f xs X g

pub record Stopped (i : ℕ) (g₀ : Book) (W : Way (Out Op Second)) (q : ℕ) (xs : List ℕ) (X : List (List ℕ)) (g : Book) : Type 0 where
  pub f : Out Op Second
  pub j : ℕ
  pub way : W ≡ halt j f
  pub place : q ≡ i + j
  pub ran : Ran g₀ f xs X g

module _ (i : ℕ) (g₀ : Book) {xs : List ℕ} {X : List (List ℕ)} {g : Book} where
  ran_as : (f : Out Op Second) → beside (sight xs X) g ≡ beside (view f.st) (notes note g₀ f.ops) → Ran g₀ f xs X g
  ran_as f e = record {
    rows = ap (λ (r : Run Book View). r.st.rows) e;
    mat = ap (λ (r : Run Book View). r.st.mat) e;
    list = ap (λ (r : Run Book View). r.log) e;
  }

  pub through : (W : Way (Out Op Second)) → go (beside (sight xs X) g) ≡ seen i (map_way (lay note g₀) W) → Through g₀ W xs X g
  through (go f) e =
      let a : beside (sight xs X) g ≡ beside (view f.st) (notes note g₀ f.ops) = cc in
      record { f = f; way = refl; ran = ran_as f a }
  through (halt j f) e = let z : ◌≡◌ {A = ℕ} 0 1 = cc in absurd (omega arith)

  pub stopped : (W : Way (Out Op Second)) {q : ℕ} → halt q (beside (sight xs X) g) ≡ seen i (map_way (lay note g₀) W) → Stopped i g₀ W q xs X g
  stopped (go f) e = let z : ◌≡◌ {A = ℕ} 0 1 = cc in absurd (omega arith)
  stopped (halt j f) {q} e =
      let a : beside (sight xs X) g ≡ beside (view f.st) (notes note g₀ f.ops) = cc in
      record { f = f; j = j; way = refl; place = cc; ran = ran_as f a }

-- the search for a row
abbrev pub nonzero : List (List ℕ) → ℕ → ℕ → Bool
nonzero X k y = not (eqb (at X y k) 0)

module _ (X : List (List ℕ)) (k : ℕ) (d : List ℕ) (p : ℕ) (h : p < length d) where
  from : drop p d ≡ get_or d p 0 ∷ drop (p + 1) d
  from = drop-cons d p 0 h ∙ ap (λ (n : ℕ). get_or d p 0 ∷ drop n d) (sym (add-one p))

  pub search_here : at X (get_or d p 0) k ≢ 0 → head (filter (nonzero X k) (drop p d)) ≡ some (get_or d p 0)
  search_here e = rw (from, ne_eqb (at X (get_or d p 0) k) 0 e)

pub search_none : (X : List (List ℕ)) (k : ℕ) (d : List ℕ) (p : ℕ) → length d ≤ p → head (filter (nonzero X k) (drop p d)) ≡ none
search_none X k d p h = rw (drop_of_length-le d h)

rows_snoc : (ts : List Step) (t : Step) → rows_of (ts ++ (t ∷ [])) ≡ rows_of ts ++ (t.row ∷ [])
rows_snoc [] t = refl
rows_snoc (u ∷ ts) t = ap (λ (xs : List ℕ). u.row ∷ xs) (rows_snoc ts t)

abbrev pub state : List Step → List ℕ → List (List ℕ) → Second
state ts xs X = record { steps = ts; left = xs; mat = X }

-- a turn of the loop over columns
abbrev pub step : List ℕ → ℕ → Way (Run Book Second) → Way (Run Book Second)
step cols k w = bind_way w (run_way note (turn cols k))

pub record Going (m l i : ℕ) (cols w₀ d₀ : List ℕ) (g₀ : Book) (q : ℕ) (w d : List ℕ) (g : Book) : Type 0 where
  pub steps : List Step
  pub rows : take i d₀ ++ rows_of steps ≡ take q d
  pub so_far : At 0 (l - i) (step cols) (go (beside (state [] (drop i d₀) (store_of m l i w₀)) g₀)) (q - i) (go (beside (state steps (drop q d) (store_of m l i w)) g))

module _ {m l i : ℕ} {cols w₀ d₀ : List ℕ} {g₀ : Book} where
  pub going_start : i ≤ l → Going m l i cols w₀ d₀ g₀ i w₀ d₀ g₀
  going_start h =
      let z : i - i ≡ 0 = omega arith in
      record { steps = []; rows = append-nil (take i d₀); so_far = rw z (at-start 0 (l - i) (step cols) _ (omega arith)) }

  module _ {q : ℕ} {w d : List ℕ} {g : Book} (s : Going m l i cols w₀ d₀ g₀ q w d g) (from : i ≤ q) where
    abbrev X : List (List ℕ)
    X = store_of m l i w

    turn-some : (y : ℕ) → head (filter (nonzero X (q - i)) (drop q d)) ≡ some y
        → turn cols (q - i) (state s.steps (drop q d) X) ≡ go (given cols (q - i) (state s.steps (drop q d) X) y)
    turn-some y e = rw e

    pub going_next : {y : ℕ} {w' d' : List ℕ} {g' : Book} → q < l → q < length d → head (filter (nonzero X (q - i)) (drop q d)) ≡ some y
        → Stepped m l i q y w d g w' d' g' → Going m l i cols w₀ d₀ g₀ (q + 1) w' d' g'
    going_next {y} {w'} {d'} {g'} h k e t =
        let z : q + 1 - i ≡ q - i + 1 = omega arith in
        record {
          steps = ts;
          rows =
              ap (λ (xs : List ℕ). take i d₀ ++ xs) (rows_snoc s.steps _) ∙ sym (append_assoc (take i d₀) (rows_of s.steps) (y ∷ []))
              ∙ ap (λ (xs : List ℕ). xs ++ (y ∷ [])) s.rows ∙ sym taken;
          so_far = rw z (at_next s.so_far (omega arith) next);
        }
      where
        ts : List Step
        ts = (given cols (q - i) (state s.steps (drop q d) X) y).st.steps

        n : length (take q d) ≡ q
        n = length-take-le q d (omega arith)

        n' : length (take q d ++ (y ∷ [])) ≡ q + 1
        n' = length-append (take q d) (y ∷ []) ∙ ap (λ (x : ℕ). x + 1) n

        whole : d' ≡ (take q d ++ (y ∷ [])) ++ without y (drop q d)
        whole = t.order ∙ sym (append_assoc (take q d) (y ∷ []) (without y (drop q d)))

        taken : take (q + 1) d' ≡ take q d ++ (y ∷ [])
        taken = ap (take (q + 1)) whole ∙ take_at (take q d ++ (y ∷ [])) (without y (drop q d)) (q + 1) n'

        left : drop (q + 1) d' ≡ without y (drop q d)
        left = ap (drop (q + 1)) whole ∙ drop_at (take q d ++ (y ∷ [])) (without y (drop q d)) (q + 1) n'

        next : go (beside (state ts (drop (q + 1) d') (store_of m l i w')) g') ≡ step cols (q - i) (go (beside (state s.steps (drop q d) X) g))
        next = rw (left, t.done.store, t.done.list, turn-some y e)

    -- the rows by place
    module _ (size : i ≤ length d₀) where
      parts : d ≡ take i d₀ ++ (rows_of s.steps ++ drop q d)
      parts = sym (take-append-drop q d) ∙ ap (λ (xs : List ℕ). xs ++ drop q d) (sym s.rows) ∙ append_assoc (take i d₀) (rows_of s.steps) (drop q d)

      n₀ : length (take i d₀) ≡ i
      n₀ = length-take-le i d₀ size

      pub going_chosen : take i d ≡ take i d₀
      going_chosen = ap (take i) parts ∙ take_at (take i d₀) _ i n₀

      shown : drop i d ≡ rows_of s.steps ++ drop q d
      shown = ap (drop i) parts ∙ drop_at (take i d₀) _ i n₀

      pub going_done : length cols ≡ l - i → l ≤ q
          → go (beside (sight (drop i d) X) g) ≡ seen i (map_way (lay note g₀) (forward cols (drop i d₀) (store_of m l i w₀)))
      going_done e h =
          rw shown
          (ap (seen i) (at_end s.so_far (omega arith) ∙ run_way_lem note 0 (l - i) (turn cols) (state [] (drop i d₀) (store_of m l i w₀)) g₀)
          ∙ ap (λ (n : ℕ). seen i (map_way (lay note g₀) (for_way 0 n (turn cols) (state [] (drop i d₀) (store_of m l i w₀))))) (sym e))

      pub going_stuck : length cols ≡ l - i → q < l → head (filter (nonzero X (q - i)) (drop q d)) ≡ none
          → halt q (beside (sight (drop i d) X) g) ≡ seen i (map_way (lay note g₀) (forward cols (drop i d₀) (store_of m l i w₀)))
      unfolding notes
      going_stuck e h f =
          let z : i + (q - i) ≡ q = omega arith in
          let t : step cols (q - i) (go (beside (state s.steps (drop q d) X) g)) ≡ halt (q - i) (beside (state s.steps (drop q d) X) g) = rw f in
          rw shown
          (ap (λ (n : ℕ). halt n (beside (sight (rows_of s.steps ++ drop q d) X) g)) (sym z)
          ∙ ap (seen i) (sym (left_early (halt (q - i) (beside (state s.steps (drop q d) X) g)) s.so_far (omega arith) t (λ k. refl))
          ∙ run_way_lem note 0 (l - i) (turn cols) (state [] (drop i d₀) (store_of m l i w₀)) g₀)
          ∙ ap (λ (n : ℕ). seen i (map_way (lay note g₀) (for_way 0 n (turn cols) (state [] (drop i d₀) (store_of m l i w₀))))) (sym e))
