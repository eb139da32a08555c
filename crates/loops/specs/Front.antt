-- In-place loops over a slice: of the list d the list t, as long, is made from the front.
--   front t d i   the first i entries of t, then those of d from i on
--   Front         what such a loop knows at its test, l being what d has become
--   begin, turn, end       it begins at the first entry, makes a turn, is over
--   begin-at, end_at       it begins and ends where t and d are the same before and from there on
--   unread, unread_at, passed_at   an entry not yet reached is d's, one that was passed is t's
-- Assumes nothing.
use Rattle.std.specs.Prelude.{◌≡◌, refl, ℕ, suc, ◌+◌, ◌-◌, ◌≤◌, ◌<◌}
use Rattle.std.proofs.Math.Path.{sym, ap, ap₂}
use Rattle.std.proofs.Common.{◌∙◌, add-one, length-set, length-take-le, take-suc, drop-cons}
use mathlib.Core.List.{List, ◌++◌, append-nil}
use native.Mathlib.Omega.{arith}
use Rattle.std.proofs.Math.ListN.{length, get_or, take, drop, set, take-append-drop, get_or-append}
use Rattle.std.proofs.Math.Seq.{get_or-append-add, take-length, drop-length, set_at, append_snoc, get_or-drop, get_or-take}

unfoldable pub front : List ℕ → List ℕ → ℕ → List ℕ
front t d i = take i t ++ drop i d

pub record Front (t d l : List ℕ) (i : ℕ) : Type 0 where
  pub same : length t ≡ length d
  pub within : i ≤ length d
  pub long : length l ≡ length d
  pub is : l ≡ front t d i

pub begin-at : {t d : List ℕ} {i : ℕ} → length t ≡ length d → i ≤ length d → take i t ≡ take i d → Front t d d i
unfolding front
begin-at {t} {d} {i} e h same =
    record { same = e; within = h; long = refl; is = sym (ap (λ (x : List ℕ). x ++ drop i d) same ∙ take-append-drop i d) }

pub begin : {t d : List ℕ} → length t ≡ length d → Front t d d 0
begin e = begin-at e (omega arith) refl

module _ {t d l : List ℕ} {i : ℕ} (f : Front t d l i) where
  taken : length (take i t) ≡ i
  taken = length-take-le i t (omega (arith, f.same, f.within))

  pub unread_at : (k : ℕ) → i ≤ k → get_or l k 0 ≡ get_or d k 0
  unfolding front
  unread_at k h =
      let e : length (take i t) + (k - i) ≡ k = omega (arith, taken) in
      let e' : i + (k - i) ≡ k = omega arith in
      ap (λ (x : List ℕ). get_or x k 0) f.is ∙ ap (λ (m : ℕ). get_or (take i t ++ drop i d) m 0) (sym e)
      ∙ get_or-append-add (take i t) (drop i d) (k - i) 0 ∙ get_or-drop i d (k - i) 0 ∙ ap (λ (m : ℕ). get_or d m 0) e'

  pub unread : i < length l → get_or l i 0 ≡ get_or d i 0
  unread h = unread_at i (omega arith)

  pub passed_at : (k : ℕ) → k < i → get_or l k 0 ≡ get_or t k 0
  unfolding front
  passed_at k h =
      ap (λ (x : List ℕ). get_or x k 0) f.is ∙ get_or-append (take i t) (drop i d) 0 k (omega (arith, taken)) ∙ get_or-take i t k 0 h

  -- a turn puts t's entry in its place
  front-set : i < length d → set (front t d i) i (get_or t i 0) ≡ front t d (i + 1)
  unfolding front
  front-set h =
      ap (λ (x : List ℕ). set (take i t ++ x) i (get_or t i 0)) (drop-cons d i 0 h)
      ∙ set_at (take i t) (get_or d i 0) (drop (suc i) d) (get_or t i 0) i taken
      ∙ sym (append_snoc (take i t) (get_or t i 0) (drop (suc i) d))
      ∙ ap (λ (x : List ℕ). x ++ drop (suc i) d) (sym (take-suc t i 0 (omega (arith, f.same)))) ∙ ap (front t d) (sym (add-one i))

  pub turn : {v : ℕ} → i < length l → v ≡ get_or t i 0 → Front t d (set l i v) (i + 1)
  turn {v} h e =
      record {
        same = f.same;
        within = omega arith;
        long = length-set l i v ∙ f.long;
        is = ap₂ (λ (x : List ℕ) (y : ℕ). set x i y) f.is e ∙ front-set (omega arith);
      }

  pub end_at : drop i t ≡ drop i d → l ≡ t
  unfolding front
  end_at same = f.is ∙ ap (λ (x : List ℕ). take i t ++ x) (sym same) ∙ take-append-drop i t

  pub end : length l ≤ i → l ≡ t
  unfolding front
  end h =
      let e : i ≡ length d = omega (arith, f.long, f.within) in
      f.is ∙ ap (front t d) e
      ∙ ap₂ (λ (x y : List ℕ). x ++ y) (ap (λ (n : ℕ). take n t) (sym f.same) ∙ take-length t) (drop-length d) ∙ append-nil t
