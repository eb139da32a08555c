-- The binary matrix as it is lent, row after row, and lists of its rows and columns.
--   bit l m x q       whether row x has a one in column q of the matrix m of l columns
--   Under n xs        every number of xs is below n
--   Rows l n ys       every row of ys lies within n bytes
--   Figures f n xs    xs has n entries, and entry x is f x
--   figures_one       two lists that meet it are equal
--   gone              nothing is left of a list from its end on
--   passing           what the library's `filter` leaves is what the rule's leaves
--   Filled            the figures below i are in place
--   in_under, under_item   a member of a list whose numbers are all below m is below m, named by itself or by its place
-- Assumes nothing.
use Rattle.std.specs.Prelude.{◌≡◌, refl, List, [], ◌∷◌, Bool, true, false, cond, ℕ, suc, ◌+◌, ◌*◌, ◌≤◌, ◌<◌, length, get_or, drop, eqb}
use Rattle.std.specs.List.{filter}
use Rattle.std.proofs.Common.{sym, ap, ◌∙◌, inl, inr, arith, drop_of_length-le, ext_get_or}
use Rattle.std.proofs.lemmas.Grind.{get_or_default_zero}
use Rattle.loops.specs.Entry.{entry_at}
use Rattle.rule.specs.Lists.{In, filter as kept_of, keep}

unfoldable pub bit : ℕ → List ℕ → ℕ → ℕ → Bool
bit l m x q = eqb (entry_at l m x q) 1

pub record Under (n : ℕ) (xs : List ℕ) : Type 0 where
  pub at : (k : ℕ) → k < length xs → get_or xs k 0 < n

pub record Rows (l n : ℕ) (ys : List ℕ) : Type 0 where
  pub at : (k : ℕ) → k < length ys → get_or ys k 0 * l + l ≤ n

pub record Figures (f : ℕ → ℕ) (n : ℕ) (xs : List ℕ) : Type 0 where
  pub long : length xs ≡ n
  pub each : (x : ℕ) → x < n → get_or xs x 0 ≡ f x

pub figures_one : {f : ℕ → ℕ} {n : ℕ} {xs ys : List ℕ} → Figures f n xs → Figures f n ys → xs ≡ ys
figures_one {f} {n} {xs} {ys} p q =
    ext_get_or 0 xs ys (p.long ∙ sym q.long) (λ x h. let i : x < n = omega (arith, p.long) in p.each x i ∙ sym (q.each x i))

pub gone : (ys : List ℕ) (k : ℕ) → length ys ≤ k → drop k ys ≡ []
gone ys k h = drop_of_length-le ys h

-- what the library's `filter` leaves is what the rule's leaves
pub passing : (p : ℕ → Bool) (l : List ℕ) → filter p l ≡ kept_of p l
passing p [] = refl
passing p (a ∷ l) = go (p a) (passing p l)
  where
    go : (b : Bool) → filter p l ≡ kept_of p l → cond b (a ∷ filter p l) (filter p l) ≡ keep b a (kept_of p l)
    go true i = ap (λ (t : List ℕ). a ∷ t) i
    go false i = i

-- the figures below i are in place
pub record Filled (f : ℕ → ℕ) (n i : ℕ) (xs : List ℕ) : Type 0 where
  pub long : length xs ≡ n
  pub within : i ≤ n
  pub each : (x : ℕ) → x < i → get_or xs x 0 ≡ f x

pub under_item : {n : ℕ} {xs : List ℕ} → Under n xs → (k : ℕ) → k < length xs → {x : ℕ} → x ≡ get_or xs k x → x < n
under_item {n} {xs} u k h {x} e = omega (arith, u.at k h, e, get_or_default_zero xs k x h)

-- by members rather than places
pub in_under : {m : ℕ} (v : List ℕ) → Under m v → (x : ℕ) → In x v → x < m
in_under [] u x h = absurd h
in_under (a ∷ v) u x (inl e) = omega (arith, u.at 0 (omega arith))
in_under (a ∷ v) u x (inr h) = in_under v (record { at = λ k l. u.at (suc k) (omega arith) }) x h
