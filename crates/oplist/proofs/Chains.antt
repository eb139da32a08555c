-- What a check or a count over a list is, item by item, in the words of chains.
--   list_fine_all, undoable_all   the checks of a list: each word passes
--   adds_sum, muls_sum            the counts of a list: those of its words, added
--   adds_few, muls_few            they are no more than there are words
--   has_rows                      a search among entries
--   rows_over, rows_high, rows_twice, rows_next   the check of entries is over, fails at the first by a bound or a repeat, goes on
-- Assumes nothing.
use Rattle.std.proofs.Common.{◌≡◌, refl, sym, ap, ◌∙◌, ℕ, ◌+◌, ◌<◌, ◌≤◌, true, false, not, length, arith, le-ltb, lt-ltb, ◌&&◌, ◌||◌, eqb, ltb, List, [], ◌∷◌, map, Option, Some, None, MatchOption, is_some, option_map, unwrap_or, Bool, Bor}
use Rattle.std.specs.List.{list_all, list_any, sum, sum_by}
use Rattle.std.proofs.lemmas.List.{length-map}
use Rattle.std.proofs.lemmas.List.Sums.{sum-map, sum_by-cons, sum_by-le}
use Rattle.oplist.specs.declared.Op.{Op}
use Rattle.oplist.specs.Word.{meaning}
use Rattle.oplist.specs.Listed.{with_op, ops_of}
use Rattle.oplist.specs.Count.{adds, muls, word_adds, word_muls, adds-with_op, muls-with_op, word_adds-one, word_muls-one}
use Rattle.oplist.specs.Check.{word_fine, list_fine, has, rows_fine, order_fine, word_undoable, undoable}

pub list_fine_all : (m : ℕ) (ws : List ℕ) → list_all (λ w. word_fine m (meaning w)) ws ≡ list_fine m ws
unfolding list_fine
list_fine_all m [] = refl
list_fine_all m (w ∷ ws) = ap (λ b. word_fine m (meaning w) && b) (list_fine_all m ws)

pub undoable_all : (ws : List ℕ) → list_all (λ w. word_undoable (meaning w)) ws ≡ undoable (ops_of ws)
unfolding undoable ops_of
undoable_all [] = refl
undoable_all (w ∷ ws) = ap (λ b. word_undoable (meaning w) && b) (undoable_all ws) ∙ at (meaning w)
  where
    at : (v : Option Op) → (word_undoable v && undoable (ops_of ws)) ≡ undoable (with_op v (ops_of ws))
    at (Some o) = refl
    at None = refl

module _ (count : Option Op → ℕ) (counts : List Op → ℕ) (none : counts [] ≡ 0) (next : (v : Option Op) (os : List Op) → counts (with_op v os) ≡ count v + counts os) where
  total : (ws : List ℕ) → sum (map (λ w. count (meaning w)) ws) ≡ counts (ops_of ws)
  unfolding ops_of
  total ws = sum-map _ ws ∙ go ws
    where
      go : (ws : List ℕ) → sum_by (λ w. count (meaning w)) ws ≡ counts (ops_of ws)
      go [] = sym none
      go (w ∷ ws) = sum_by-cons _ w ws ∙ ap (λ n. count (meaning w) + n) (go ws) ∙ sym (next (meaning w) (ops_of ws))

pub adds_sum : (ws : List ℕ) → sum (map (λ w. word_adds (meaning w)) ws) ≡ adds (ops_of ws)
unfolding adds
adds_sum ws = total word_adds adds refl adds-with_op ws

few : (count : ℕ → ℕ) → ((w : ℕ) → count w ≤ 1) → (ws : List ℕ) → sum_by count ws ≤ length ws
few count one ws = omega (arith, sum_by-le count 1 ws (λ k d l. one _))

pub adds_few : (ws : List ℕ) → sum_by (λ w. word_adds (meaning w)) ws ≤ length ws
adds_few ws = few _ (λ w. word_adds-one (meaning w)) ws

pub muls_few : (ws : List ℕ) → sum_by (λ w. word_muls (meaning w)) ws ≤ length ws
muls_few ws = few _ (λ w. word_muls-one (meaning w)) ws

pub muls_sum : (ws : List ℕ) → sum (map (λ w. word_muls (meaning w)) ws) ≡ muls (ops_of ws)
unfolding muls
muls_sum ws = total word_muls muls refl muls-with_op ws

-- entries that name rows, as those of an order do
module _ {A : Type 0} {row : A → ℕ} {rows : List A → List ℕ} (law : (xs : List A) → rows xs ≡ map row xs) where
  pub has_rows : (x : ℕ) (ys : List A) → list_any (λ y. eqb (row y) x) ys ≡ has x (rows ys)
  unfolding has
  has_rows x ys = go ys ∙ ap (has x) (sym (law ys))
    where
      go : (zs : List A) → list_any (λ y. eqb (row y) x) zs ≡ has x (map row zs)
      go [] = refl
      go (z ∷ zs) = ap (λ b. eqb (row z) x || b) (go zs)

  pub rows_over : (m : ℕ) (xs : List A) → length xs ≡ 0 → true ≡ rows_fine m (rows xs)
  unfolding rows_fine
  rows_over m [] e = rw (law []) refl
  rows_over m (x ∷ xs) e = absurd (omega arith)

  -- the check of entries, at the first of them
  rows_turn : (m : ℕ) {x : A} {xs ys : List A} → ys ≡ x ∷ xs → rows_fine m (rows ys) ≡ (ltb (row x) m && (not (has (row x) (rows xs)) && rows_fine m (rows xs)))
  unfolding rows_fine
  rows_turn m {x} {xs} {ys} e = ap (λ l. rows_fine m (rows l)) e ∙ ap (rows_fine m) (law (x ∷ xs) ∙ ap (λ l. row x ∷ l) (sym (law xs)))

  pub rows_high : (m : ℕ) {x : A} {xs ys : List A} → ys ≡ x ∷ xs → m ≤ row x → rows_fine m (rows ys) ≡ false
  rows_high m {x} e h = rows_turn m e ∙ rw (le-ltb (row x) m h)

  pub rows_twice : (m : ℕ) {x : A} {xs ys : List A} → ys ≡ x ∷ xs → row x < m → has (row x) (rows xs) ≡ true → rows_fine m (rows ys) ≡ false
  rows_twice m {x} e h t = rows_turn m e ∙ rw (lt-ltb (row x) m h, t)

  pub rows_next : (m : ℕ) {x : A} {xs ys : List A} → ys ≡ x ∷ xs → row x < m → has (row x) (rows xs) ≡ false → rows_fine m (rows ys) ≡ rows_fine m (rows xs)
  rows_next m {x} e h t = rows_turn m e ∙ rw (lt-ltb (row x) m h, t)

  rows_length : (xs : List A) → length (rows xs) ≡ length xs
  rows_length xs = ap length (law xs) ∙ length-map xs row

  pub order_made : (m l : ℕ) {r : Bool} (o : Option (Bor (List A))) → MatchOption o (r ≡ true) (λ x. r ≡ (eqb (length x.now) l && rows_fine m (rows x.now)))
      → r ≡ order_fine m l (is_some (option_map (λ x. rows x.now) o)) (unwrap_or (option_map (λ x. rows x.now) o) [])
  unfolding order_fine
  order_made m l None e = e
  order_made m l (Some x) e = e ∙ rw (rows_length x.now)
