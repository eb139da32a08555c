-- How many columns of V have each label, counted in one pass; and the smallest label of the greatest size.
--   Labelled          every column of v has a label below n
--   Sizing            the first k columns of v are counted
--   size_fits         a count stays below the number of columns
--   Growing           the smallest label of the greatest size, of those below c
--   Found             that label, and the sizes in the room
--   grow_first, grow_next, grow_stay    the search takes the first label, a greater one, none
-- Assumes nothing.
use Rattle.std.specs.Prelude.{◌≡◌, refl, List, Bool, true, false, cond, ◌||◌, ℕ, zero, suc, ◌+◌, ◌≤◌, ◌<◌, length, get_or, drop, ltb, eqb}
use Rattle.std.proofs.Common.{sym, ap, ◌∙◌, add-one, arith, eq-eqb, ne_eqb, lt-ltb, le-ltb}
use Rattle.loops.specs.Part.{drop-next}
use Rattle.rule.specs.Sets.{length-filter}
use Rattle.rule.specs.Rule.{size, bigger, biggest}
use Rattle.grid.specs.Grid.{Figures}

abbrev pub Labelled : (ℕ → ℕ) → List ℕ → ℕ → Type 0
Labelled lab v n = (k : ℕ) → k < length v → lab (get_or v k 0) < n

pub record Sizing (lab : ℕ → ℕ) (v : List ℕ) (n k : ℕ) (xs : List ℕ) : Type 0 where
  pub long : length xs ≡ n
  pub within : k ≤ length v
  pub each : (a : ℕ) → a < n → get_or xs a 0 + size lab (drop k v) a ≡ size lab v a

module _ {lab : ℕ → ℕ} {v : List ℕ} {n k : ℕ} {xs : List ℕ} (s : Sizing lab v n k xs) (h : k < length v) where
  here : size lab (drop k v) (lab (get_or v k 0)) ≡ size lab (drop (k + 1) v) (lab (get_or v k 0)) + 1
  here = rw (drop-next v k h, eq-eqb (lab (get_or v k 0)) (lab (get_or v k 0)) refl) (omega arith)

  pub size_fits : lab (get_or v k 0) < n → get_or xs (lab (get_or v k 0)) 0 < length v
  size_fits l = omega (arith, here, s.each (lab (get_or v k 0)) l, length-filter (λ c. eqb (lab c) (lab (get_or v k 0))) v)

-- b is the smallest label of the greatest size among those below c, at first 0
pub record Growing (lab : ℕ → ℕ) (v : List ℕ) (n b c : ℕ) : Type 0 where
  pub from : 0 < c
  pub upto : c ≤ n
  pub low : b < c
  pub is : b ≡ biggest lab v c

biggest-next : (lab : ℕ → ℕ) (v : List ℕ) (c : ℕ) → 0 < c → biggest lab v (c + 1) ≡ bigger (size lab v) (biggest lab v c) c
biggest-next lab v zero h = absurd (omega arith)
biggest-next lab v (suc c) h = rw add-one

module _ {lab : ℕ → ℕ} {v : List ℕ} {n b c m : ℕ} {xs : List ℕ} (f : Figures (size lab v) m xs) (g : Growing lab v n b c) (h : c < n) (fits : n ≤ m) where
  pub grow_first : b ≡ 0 → Growing lab v n c (c + 1)
  grow_first e = record {
    from = omega arith;
    upto = omega arith;
    low = omega arith;
    is = sym (biggest-next lab v c g.from ∙ ap (λ (x : ℕ). bigger (size lab v) x c) (sym g.is) ∙ rw e);
  }

  pub grow_next : get_or xs b 0 < get_or xs c 0 → Growing lab v n c (c + 1)
  grow_next e = record {
    from = omega arith;
    upto = omega arith;
    low = omega arith;
    is = sym (biggest-next lab v c g.from ∙ ap (λ (x : ℕ). bigger (size lab v) x c) (sym g.is) ∙ last (eqb b 0));
  }
    where
      q : ltb (size lab v b) (size lab v c) ≡ true
      q = lt-ltb (size lab v b) (size lab v c) (omega (arith, f.each b (omega (arith, g.low)), f.each c (omega arith), e))

      last : (t : Bool) → cond (t || ltb (size lab v b) (size lab v c)) c b ≡ c
      last true = refl
      last false = rw q

  pub grow_stay : (b ≡ 0 → ⊥) → get_or xs c 0 ≤ get_or xs b 0 → Growing lab v n b (c + 1)
  grow_stay d e =
      let q : ltb (size lab v b) (size lab v c) ≡ false = le-ltb (size lab v b) (size lab v c) (omega (arith, f.each b (omega (arith, g.low)), f.each c (omega arith), e)) in
      record {
        from = omega arith;
        upto = omega arith;
        low = omega (arith, g.low);
        is = sym (biggest-next lab v c g.from ∙ ap (λ (x : ℕ). bigger (size lab v) x c) (sym g.is) ∙ rw (ne_eqb b 0 d, q));
      }

-- the label that was sought, and the room in which the sizes were counted
pub record Found (lab : ℕ → ℕ) (v : List ℕ) (n b : ℕ) (before after : List ℕ) : Type 0 where
  pub is : b ≡ biggest lab v n
  pub room : Figures (size lab v) (length before) after
