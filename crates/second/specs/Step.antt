-- One column of phase two: a row is brought to its place, scaled, and clears the column below.
--   Ready              the rooms, the order of all m rows and the journal are as phase two needs them
--   Stepped            what a step leaves
--   stepped            a step, by its parts
--   order-swapped, first-is, tail_is   the order after the exchange: all rows still, the brought one, those below it
--   tail_rows          rows from a place on, none twice
-- Assumes nothing.
use Rattle.std.specs.Prelude.{◌≡◌, List, ◌∷◌, ◌++◌, ℕ, ◌+◌, ◌-◌, ◌≤◌, ◌<◌, length, get_or, take, drop}
use Rattle.std.proofs.Common.{sym, ap, subst, ◌∙◌, add-one, arith, length-drop, take_all, drop-cons, length-take-le, drop_at}
use Rattle.std.proofs.lemmas.List.{get_or_at}
use Rattle.columns.specs.Exchange.{swapped, length-swapped}
use Rattle.oplist.specs.Facts.{Rows, Order}
use Rattle.phases.specs.One.{clears}
use Rattle.phases.specs.Two.{at, scaled, column_ops}
use Rattle.rule.specs.Rule.{without}
use Rattle.tally.specs.Book.{Book, Fair}
use Rattle.second.specs.Store.{store_of, Rooms}
use Rattle.second.specs.Clear.{Performed, performed_as, column_performed}
use Rattle.second.specs.Swap.{rows-swapped, rows_drop, brought}

pub record Ready (m l i : ℕ) (w scratch d : List ℕ) (g : Book) : Type 0 where
  pub rooms : Rooms m l i w scratch
  pub order : Order m m d
  pub wide : l ≤ m
  pub fair : Fair g

pub record Stepped (m l i q y : ℕ) (w d : List ℕ) (g : Book) (w' d' : List ℕ) (g' : Book) : Type 0 where
  pub order : d' ≡ take q d ++ (y ∷ without y (drop q d))
  pub rows : Order m m d'
  pub done : Performed m l i (column_ops (at (store_of m l i w)) (q - i) y (without y (drop q d))) w g w' g'

-- the rows from place q on, of which the first is known
module _ (d : List ℕ) (q : ℕ) (h : q < length d) where
  split : get_or d q 0 ∷ take (length d - (q + 1)) (drop (q + 1) d) ≡ drop q d
  split =
      let n : length (drop (q + 1) d) ≤ length d - (q + 1) = omega (arith, length-drop (q + 1) d) in
      ap (λ (r : List ℕ). get_or d q 0 ∷ r) (take_all (length d - (q + 1)) (drop (q + 1) d) n ∙ ap (λ (k : ℕ). drop k d) (add-one q)) ∙ sym (drop-cons d q 0 h)

  pub tail_rows : (m : ℕ) → Rows m d → Rows m (get_or d q 0 ∷ take (length d - (q + 1)) (drop (q + 1) d))
  tail_rows m R = subst (Rows m) (sym split) (rows_drop m q d R)

module _ (m q p : ℕ) (d d' : List ℕ) (O : Order m m d) (from : q ≤ p) (low : p < m) (e : d' ≡ swapped q p d) where
  abbrev y : ℕ
  y = get_or d p 0

  is : d' ≡ take q d ++ (y ∷ without y (drop q d))
  is = e ∙ brought m q p d O.rows from (omega (arith, O.size))

  taken : length (take q d) ≡ q
  taken = length-take-le q d (omega (arith, O.size))

  pub order-swapped : Order m m d'
  order-swapped =
      record {
        size = ap length e ∙ length-swapped q p d ∙ O.size;
        rows = subst (Rows m) (sym e) (rows-swapped m q p d (omega (arith, O.size)) (omega (arith, O.size)) O.rows);
      }

  pub first-is : get_or d' q 0 ≡ y
  first-is = ap (λ (l : List ℕ). get_or l q 0) is ∙ get_or_at (take q d) y (without y (drop q d)) 0 q taken

  pub tail_is : take (length d' - (q + 1)) (drop (q + 1) d') ≡ without y (drop q d)
  tail_is =
      let h : q < length d' = omega (arith, order-swapped.size) in
      let f : get_or d' q 0 ∷ take (length d' - (q + 1)) (drop (q + 1) d') ≡ y ∷ without y (drop q d) = split d' q h ∙ ap (drop q) is ∙ drop_at (take q d) _ q taken in
      ap (drop 1) f

  module _ (l i : ℕ) (w : List ℕ) where
    pub stepped : {w₁ w₂ : List ℕ} {g g₁ g₂ : Book}
        → Performed m l i (scaled (at (store_of m l i w) (get_or d' q 0) (q - i)) (get_or d' q 0)) w g w₁ g₁
        → Performed m l i (clears (λ (z : ℕ). at (store_of m l i w₁) z (q - i)) (get_or d' q 0) (take (length d' - (q + 1)) (drop (q + 1) d'))) w₁ g₁ w₂ g₂
        → Stepped m l i q y w d g w₂ d' g₂
    stepped a b =
        let h : q < length d' = omega (arith, order-swapped.size) in
        record {
          order = is;
          rows = order-swapped;
          done =
              performed_as
              (ap (λ (x : ℕ). column_ops (at (store_of m l i w)) (q - i) x (take (length d' - (q + 1)) (drop (q + 1) d'))) first-is
              ∙ ap (column_ops (at (store_of m l i w)) (q - i) y) tail_is)
              (column_performed m l i (q - i) (get_or d' q 0) _ w (tail_rows d' q h m order-swapped.rows) a b);
        }
