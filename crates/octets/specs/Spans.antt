-- A row changed in a span of its places.
--   Span f e a b l           l is the row e with f's values in the places from a up to b
--   Last f d p               p is f's values in the last sixteen places of d
--   span_start, span_next    a loop that makes such a change begins; it makes a turn
--   span_upto                its end, written in another way
--   span_join                a change from the front on, and then one that reaches further
--   span_all                 a row changed in all its places
--   fma_at d s k, from_end d p   the entries of d + k s; of p in the last sixteen places of d
-- Assumes nothing.
use Rattle.std.specs.Prelude.{◌≡◌, refl, List, ℕ, ◌+◌, ◌-◌, ◌≤◌, ◌<◌, length, get_or, set}
use Rattle.std.proofs.Common.{sym, ◌∙◌, ⊎_elim, eq-zero-or-pos, arith, below_more, length-set, get_or-set_same, get_or-set_other, ext_get_or}
use Rattle.octet.specs.Octet.{add, mul}

abbrev pub fma_at : List ℕ → List ℕ → ℕ → ℕ → ℕ
fma_at d s k x = add (get_or d x 0) (mul k (get_or s x 0))

-- the row p, sixteen octets long, in the last places of d
abbrev pub from_end : List ℕ → List ℕ → ℕ → ℕ
from_end d p x = get_or p (x - (length d - 16)) 0

pub record Span (f : ℕ → ℕ) (e : List ℕ) (a b : ℕ) (l : List ℕ) : Type 0 where
  pub long : length l ≡ length e
  pub low : (x : ℕ) → x < a → get_or l x 0 ≡ get_or e x 0
  pub made : (x : ℕ) → a ≤ x → x < b → get_or l x 0 ≡ f x
  pub high : (x : ℕ) → b ≤ x → get_or l x 0 ≡ get_or e x 0

-- p has f's values in the last sixteen places of a row as long as d
pub record Last (f : ℕ → ℕ) (d p : List ℕ) : Type 0 where
  pub has : (j : ℕ) → j < 16 → get_or p j 0 ≡ f (length d - 16 + j)

pub span_start : {f : ℕ → ℕ} {e : List ℕ} {a b : ℕ} → b ≡ a → Span f e a b e
span_start h = record { long = refl; low = λ x l. refl; made = λ x l m. absurd (omega arith); high = λ x l. refl }

module _ {f : ℕ → ℕ} {e : List ℕ} {a b : ℕ} {l : List ℕ} (i : Span f e a b l) where
  pub span_next : {b' v : ℕ} → a ≤ b → b < length e → b' ≡ b + 1 → v ≡ f b → Span f e a b' (set l b v)
  span_next {b'} {v} h m n p =
      record {
        long = length-set l b v ∙ i.long;
        low = λ x q. get_or-set_other l b x v 0 (λ z. omega arith) ∙ i.low x q;
        made = λ x q r. below_more (λ x. a ≤ x → get_or (set l b v) x 0 ≡ f x) b
            (λ x r q. get_or-set_other l b x v 0 (λ z. omega arith) ∙ i.made x q r)
            (λ q. get_or-set_same l b v 0 (omega (arith, i.long)) ∙ p) x (omega arith) q;
        high = λ x q. get_or-set_other l b x v 0 (λ z. omega arith) ∙ i.high x (omega arith);
      }

  pub span_upto : {b' : ℕ} → b' ≡ b → Span f e a b' l
  span_upto h = rw h i

  pub span_all : {t : List ℕ} → a ≡ 0 → length e ≤ b → length t ≡ length e → ((x : ℕ) → x < length e → get_or t x 0 ≡ f x) → l ≡ t
  span_all {t} z h n p =
      ext_get_or 0 l t (i.long ∙ sym n) (λ x q. i.made x (omega arith) (omega (arith, i.long)) ∙ sym (p x (omega (arith, i.long))))

pub span_join : {f g : ℕ → ℕ} {e l l' : List ℕ} {i a b : ℕ} → Span f e 0 i l → Span g l a b l' → a ≤ i → i ≤ b
    → ((x : ℕ) → a ≤ x → x < b → g x ≡ f x) → Span f e 0 b l'
span_join {f} {g} {e} {l} {l'} {i} {a} {b} s t h m p =
    record {
      long = t.long ∙ s.long;
      low = λ x q. absurd (omega arith);
      made = λ x q r. ⊎_elim (λ y. t.made x (omega arith) r ∙ p x (omega arith) r) (λ y. t.low x (omega arith) ∙ s.made x q (omega arith)) (eq-zero-or-pos (a - x));
      high = λ x q. t.high x q ∙ s.high x (omega arith);
    }
