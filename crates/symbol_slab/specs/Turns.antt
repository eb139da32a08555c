-- Loops over the words of a list, which apply or undo one operation a turn.
--   PlacedWord, AllPlaced   `Placed` of a word, if it is an operation's, and of every operation of a list
--   word_ops                 the operation of a word, as a list
--   source                  the row of which a word's operation adds a multiple, if it adds one
--   placed_at               each word of a list that is placed is placed
--   placed_undone, word_undone   what undoes a word's operation is placed where that is; it is the list that undoes it
--   inverse-value, inverse-zero   one over an octet is its inverse; zero, which has none, stands for itself
--   all-inverse             the list that undoes a list is placed where that is
--   Applied                 what one operation did to some columns, and what the room then holds
--   Up, Down                what a loop that applies, or that undoes, a list on the columns from a up to b knows at its test
--   up_start, up_next, up_end, down_start, down_next, down_end   it begins, makes a turn, is over
-- Assumes nothing.
use Rattle.std.specs.Prelude.{◌≡◌, refl, ℕ, zero, suc, ◌+◌, ◌-◌, ◌≤◌, ◌<◌, get_or, take, Option, Some, None, Ok, Err, option_map}
use Rattle.std.proofs.Common.{sym, ap, ◌∙◌, subst, not-suc-le-zero, le_of_suc-le-suc, take_all}
use mathlib.Core.List.{List, [], ◌∷◌, ◌++◌, append-nil}
use native.Mathlib.Omega.{arith}
use Rattle.std.proofs.Math.ListN.{length, drop}
use Rattle.std.proofs.Math.Seq.{drop-length}
use Rattle.octet.specs.Octet.{add, times, product, rest, mul, squares, inverse as inv, quotient}
use Rattle.octet.specs.declared.Octet.{Octet}
use Rattle.octet.specs.declared.ZeroDivisor.{ZeroDivisor}
use Rattle.octet.specs.Answers.{Quotient, quotient_of, number, Divided}
use Rattle.octet.specs.Field.{one-mul, inv_octet}
use Rattle.oplist.specs.declared.Op.{Op}
use Rattle.oplist.specs.declared.Op.TheVariants.{AddAssign, MulAssign, FMA}
use Rattle.oplist.specs.Ops.{Each, each_append}
use Rattle.oplist.specs.Word.{meaning}
use Rattle.oplist.specs.Listed.{with_op, ops_of, ops_of-take, ops_of-drop}
use Rattle.algebra.specs.Rows.{inverse, undo}
use Rattle.symbol_slab.specs.Placed.{Placed, Ready}
use Rattle.symbol_slab.specs.Columns.{Cols, cols-none, cols-append}

abbrev pub PlacedWord : ℕ → Option Op → ℕ → Type 0
PlacedWord w (Some o) n = Placed w o n
PlacedWord w None n = Unit {0}

abbrev pub AllPlaced : ℕ → List Op → ℕ → Type 0
AllPlaced w os n = Each (λ (o : Op). Placed w o n) os

abbrev pub word_ops : Option Op → List Op
word_ops v = with_op v []

unfoldable pub source : Option Op → Option ℕ
source (Some (AddAssign d s)) = None
source (Some (MulAssign d c)) = None
source (Some (FMA d s c)) = Some s
source None = None

pub placed_at : (w : ℕ) (ws : List ℕ) (n : ℕ) → AllPlaced w (ops_of ws) n → (i : ℕ) → i < length ws → PlacedWord w (meaning (get_or ws i 0)) n
unfolding ops_of
placed_at w [] n p i h = absurd (not-suc-le-zero h)
placed_at w (x ∷ ws) n p zero h = at (meaning x) p
  where
    at : (v : Option Op) → AllPlaced w (with_op v (ops_of ws)) n → PlacedWord w v n
    at (Some o) q = q.0
    at None q = tt
placed_at w (x ∷ ws) n p (suc i) h = placed_at w ws n (rest (meaning x) p) i (le_of_suc-le-suc h)
  where
    rest : (v : Option Op) → AllPlaced w (with_op v (ops_of ws)) n → AllPlaced w (ops_of ws) n
    rest (Some o) q = q.1
    rest None q = q

inverse-placed : (w n : ℕ) (o : Op) → Placed w o n → Placed w (inverse o) n
inverse-placed w n (AddAssign d s) h = h
inverse-placed w n (MulAssign d c) h = h
inverse-placed w n (FMA d s c) h = h

pub placed_undone : (w n : ℕ) (v : Option Op) → PlacedWord w v n → PlacedWord w (option_map inverse v) n
placed_undone w n (Some o) p = inverse-placed w n o p
placed_undone w n None p = tt

pub word_undone : (v : Option Op) → word_ops (option_map inverse v) ≡ undo (word_ops v)
word_undone (Some o) = refl
word_undone None = refl

pub inverse-value : {k : ℕ} {v : Quotient} {q : Octet} → Divided 1 k v → v ≡ Ok q → q.value ≡ inv k
unfolding quotient_of quotient
inverse-value {k = zero} {v} {q} d e = let f = d.is in let z : ◌≡◌ {A = ℕ} 0 1 = cc in absurd (omega arith)
inverse-value {k = suc k} {v} {q} d e =
    let f : record { value = quotient 1 (suc k) } ≡ q = value-one (sym d.is ∙ e) in
    sym (ap (λ (x : Octet). x.value) f) ∙ one-mul (inv (suc k)) (inv_octet (suc k))
  where
    value-one : {x y : Octet} → ◌≡◌ {A = Quotient} (Ok x) (Ok y) → x ≡ y
    value-one g = cc

zero-inverse : inv 0 ≡ 0
unfolding inv squares mul rest product times add
zero-inverse = refl

pub inverse-zero : {k : ℕ} {v : Quotient} {e : ZeroDivisor} → Divided 1 k v → v ≡ Err e → 0 ≡ inv k
inverse-zero {k} {v} d e = sym (ap inv (d.refused.0 (ap number e)) ∙ zero-inverse)

undo-with : (v : Option Op) (os : List Op) → undo (with_op v os) ≡ undo os ++ undo (word_ops v)
undo-with (Some o) os = refl
undo-with None os = sym (append-nil (undo os))

-- what a word's operation did to the columns from a up to b, and what the room then holds
pub record Applied (w a n : ℕ) (os : List Op) (l₀ l room : List ℕ) (held : ℕ) : Type 0 where
  pub cols : Cols w a (a + n) os l₀ l
  pub ready : Ready n held l room

-- i operations are applied
pub record Up (w a b : ℕ) (ws s₀ s : List ℕ) (i : ℕ) : Type 0 where
  pub within : i ≤ length ws
  pub is : Cols w a b (ops_of (take i ws)) s₀ s

-- all operations but the first i are undone
pub record Down (w a b : ℕ) (ws s₀ s : List ℕ) (i : ℕ) : Type 0 where
  pub within : i ≤ length ws
  pub is : Cols w a b (undo (ops_of (drop i ws))) s₀ s

module _ (w a b : ℕ) (ws s₀ : List ℕ) where
  cols_ops : {s : List ℕ} {os ps : List Op} → os ≡ ps → Cols w a b os s₀ s → Cols w a b ps s₀ s
  cols_ops {s} e c = subst (λ (os : List Op). Cols w a b os s₀ s) e c

  pub up_start : Up w a b ws s₀ s₀ 0
  unfolding ops_of
  up_start = record { within = omega arith; is = cols-none }

  pub up_next : {s s' : List ℕ} {i : ℕ} → Up w a b ws s₀ s i → i < length ws → Cols w a b (word_ops (meaning (get_or ws i 0))) s s' → Up w a b ws s₀ s' (i + 1)
  up_next {i = i} u h c = record { within = omega arith; is = cols_ops (sym (ops_of-take ws i h)) (cols-append u.is c) }

  pub up_end : {s : List ℕ} {i : ℕ} → Up w a b ws s₀ s i → length ws ≤ i → Cols w a b (ops_of ws) s₀ s
  up_end {s} {i} u h = cols_ops (ap ops_of (take_all i ws h)) u.is

  pub down_start : Down w a b ws s₀ s₀ (length ws)
  unfolding ops_of
  down_start = record { within = omega arith; is = cols_ops (ap (λ (l : List ℕ). undo (ops_of l)) (sym (drop-length ws))) cols-none }

  pub down_next : {s s' : List ℕ} {i : ℕ} → Down w a b ws s₀ s i → 0 < i → Cols w a b (undo (word_ops (meaning (get_or ws (i - 1) 0)))) s s' → Down w a b ws s₀ s' (i - 1)
  down_next {i = i} u h c =
      let k : ℕ = i - 1 in
      let v = meaning (get_or ws k 0) in
      let p : i ≡ k + 1 = omega arith in
      record {
        within = omega arith;
        is = cols_ops
            (ap (λ (x : ℕ). undo (ops_of (drop x ws)) ++ undo (word_ops v)) p
            ∙ sym (ap undo (ops_of-drop ws k (omega arith)) ∙ undo-with v (ops_of (drop (k + 1) ws))))
            (cols-append u.is c);
      }

  pub down_end : {s : List ℕ} {i : ℕ} → Down w a b ws s₀ s i → i ≤ 0 → Cols w a b (undo (ops_of ws)) s₀ s
  down_end {s} {i} u h = let e : i ≡ 0 = omega arith in cols_ops (ap (λ (k : ℕ). undo (ops_of (drop k ws))) e) u.is

pub all-inverse : (w n : ℕ) (os : List Op) → AllPlaced w os n → AllPlaced w (undo os) n
all-inverse w n [] p = tt
all-inverse w n (o ∷ os) p = each_append (λ (q : Op). Placed w q n) (undo os) (inverse o ∷ []) (all-inverse w n os p.1) (inverse-placed w n o p.0, tt)
