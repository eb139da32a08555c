-- The order of columns and rows before the first step.
--   get_or-range                   the numbers from a on, by place
--   rows_at_first m s h            m rows by place, of which the h from row s on are octet rows
--   rows-at-first                they are the definition's, those that may be chosen and then the octet rows
--   number_at                    a loop that writes each place's number
--   Laying                       of m rows, j of the octet rows, from row s on, have changed places with those from row b on
--   lay-start, lay-next, lay_end   that begins, has one exchange more, gives the definition's rows when all octet rows are exchanged
--   Exchanging                   j octet rows are exchanged, one by one, with the last rows
--   exchange_start, exchange_next, exchange_end   that begins, makes a turn, is over
-- Assumes nothing.
use Rattle.std.specs.Prelude.{◌≡◌, refl, ◌⊎◌, List, ◌++◌, ℕ, ◌+◌, ◌-◌, ◌≤◌, ◌<◌, length, get_or, set}
use Rattle.std.proofs.Common.{sym, ap, subst, ◌∙◌, inl, inr, append_assoc, arith, length-append, get_or-append-add, ext_get_or, below_more}
use Rattle.std.proofs.Math.ListN.{length-set, get_or-append}
use Rattle.std.proofs.Math.Seq.{get_or-set_same, get_or-set_other}
use Rattle.loops.specs.Front.{Front}
use Rattle.columns.specs.Exchange.{swapped, length-swapped}
use Rattle.phases.specs.System.{Shape, range, first_rows, octet_rows}
use Rattle.phases.specs.Matrix.{length-range, get_or-range}
use Rattle.phases.specs.Fit.{less?}

-- a loop that writes each place's number
pub number_at : (n : ℕ) {k : ℕ} {d l : List ℕ} → Front (range 0 n) d l k → k < length l → k ≡ get_or (range 0 n) k 0
number_at n {k} f h = sym (get_or-range 0 n k (omega (arith, f.same, f.long, length-range 0 n)) ∙ omega arith)

unfoldable pub rows_at_first : ℕ → ℕ → ℕ → List ℕ
rows_at_first m s h = let z : Shape = record { m = m; n = 0; s = s; h = h; w = 0 } in first_rows z ++ octet_rows z

-- the definition's, whatever the columns are
pub rows-at-first : (z : Shape) → rows_at_first z.m z.s z.h ≡ first_rows z ++ octet_rows z
unfolding rows_at_first
rows-at-first z = refl

-- the numbers from a on, then others
module _ (a n : ℕ) (ys : List ℕ) (k : ℕ) where
  range-first : k < n → get_or (range a n ++ ys) k 0 ≡ a + k
  range-first h = get_or-append (range a n) ys 0 k (omega (arith, length-range a n)) ∙ get_or-range a n k h

  range_past : n ≤ k → get_or (range a n ++ ys) k 0 ≡ get_or ys (k - n) 0
  range_past h =
      let e : k ≡ length (range a n) + (k - n) = omega (arith, length-range a n) in
      ap (λ (i : ℕ). get_or (range a n ++ ys) i 0) e ∙ get_or-append-add (range a n) ys (k - n) 0

-- an exchange, by place
module _ (i j : ℕ) (d : List ℕ) where
  swapped-second : j < length d → get_or (swapped i j d) j 0 ≡ get_or d i 0
  unfolding swapped
  swapped-second h = get_or-set_same (set d i (get_or d j 0)) j (get_or d i 0) 0 (omega (arith, length-set d i (get_or d j 0)))

  swapped-first : i < length d → (i ≡ j → ⊥) → get_or (swapped i j d) i 0 ≡ get_or d j 0
  unfolding swapped
  swapped-first h n = get_or-set_other (set d i (get_or d j 0)) j i (get_or d i 0) 0 n ∙ get_or-set_same d i (get_or d j 0) 0 h

  swapped_other : (k : ℕ) → (k ≡ i → ⊥) → (k ≡ j → ⊥) → get_or (swapped i j d) k 0 ≡ get_or d k 0
  unfolding swapped
  swapped_other k a b = get_or-set_other (set d i (get_or d j 0)) j k (get_or d i 0) 0 b ∙ get_or-set_other d i k (get_or d j 0) 0 a

-- of m rows, j of the octet rows, from row s on, are exchanged with those from row b on
pub record Laying (m s b j : ℕ) (d : List ℕ) : Type 0 where
  pub long : length d ≡ m
  pub first : (k : ℕ) → k < s → get_or d k 0 ≡ k
  pub came : (k : ℕ) → k < j → get_or d (s + k) 0 ≡ b + k
  pub stayed : (k : ℕ) → s + j ≤ k → k < b → get_or d k 0 ≡ k
  pub went : (k : ℕ) → k < j → get_or d (b + k) 0 ≡ s + k
  pub last : (k : ℕ) → b + j ≤ k → k < m → get_or d k 0 ≡ k

pub lay-start : (m s b : ℕ) {d : List ℕ} → s ≤ b → b ≤ m → d ≡ range 0 m → Laying m s b 0 d
lay-start m s b {d} h i e = record {
  long = ap length e ∙ length-range 0 m;
  first = λ k l. at k (omega arith);
  came = λ k l. absurd (omega arith);
  stayed = λ k l n. at k (omega arith);
  went = λ k l. absurd (omega arith);
  last = λ k l n. at k n;
}
  where
    at : (k : ℕ) → k < m → get_or d k 0 ≡ k
    at k l = ap (λ (x : List ℕ). get_or x k 0) e ∙ get_or-range 0 m k l ∙ omega arith

module _ {m s b j h : ℕ} {d : List ℕ} (y : Laying m s b j d) (apart : s + h ≤ b) (ends : b + h ≤ m) (i : j < h) where
  pub lay-next : {d' : List ℕ} → d' ≡ swapped (s + j) (b + j) d → Laying m s b (j + 1) d'
  lay-next {d'} e = record {
    long = ap length e ∙ length-swapped (s + j) (b + j) d ∙ y.long;
    first = λ k l. other k (λ q. omega arith) (λ q. omega arith) ∙ y.first k l;
    came = below_more _ _ (λ k l. other (s + k) (λ q. omega arith) (λ q. omega arith) ∙ y.came k l)
        (to (s + j) ∙ swapped-first (s + j) (b + j) d (omega (arith, y.long)) (λ q. omega arith) ∙ y.last (b + j) (omega arith) (omega arith));
    stayed = λ k l n. other k (λ q. omega arith) (λ q. omega arith) ∙ y.stayed k (omega arith) n;
    went = below_more _ _ (λ k l. other (b + k) (λ q. omega arith) (λ q. omega arith) ∙ y.went k l)
        (to (b + j) ∙ swapped-second (s + j) (b + j) d (omega (arith, y.long)) ∙ y.stayed (s + j) (omega arith) (omega arith));
    last = λ k l n. other k (λ q. omega arith) (λ q. omega arith) ∙ y.last k (omega arith) n;
  }
    where
      to : (k : ℕ) → get_or d' k 0 ≡ get_or (swapped (s + j) (b + j) d) k 0
      to k = ap (λ (x : List ℕ). get_or x k 0) e

      other : (k : ℕ) → (k ≡ s + j → ⊥) → (k ≡ b + j → ⊥) → get_or d' k 0 ≡ get_or d k 0
      other k p q = to k ∙ swapped_other (s + j) (b + j) d k p q

module _ (z : Shape) (fits : z.s + z.h + z.h ≤ z.m) where
  split : first_rows z ++ octet_rows z ≡ range 0 z.s ++ (range (z.m - z.h) z.h ++ (range (z.s + z.h) (z.m - (z.s + z.h + z.h)) ++ range z.s z.h))
  split = simp append_assoc

  at : (k : ℕ) → {d : List ℕ} → Laying z.m z.s (z.m - z.h) z.h d → k < z.m → get_or d k 0 ≡ get_or (first_rows z ++ octet_rows z) k 0
  at k {d} y l = go (less? k z.s) (less? k (z.s + z.h)) (less? k (z.m - z.h)) ∙ sym (ap (λ (x : List ℕ). get_or x k 0) split)
    where
      c : List ℕ
      c = range (z.s + z.h) (z.m - (z.s + z.h + z.h)) ++ range z.s z.h

      b : List ℕ
      b = range (z.m - z.h) z.h ++ c

      go : (k < z.s) ⊎ (z.s ≤ k) → (k < z.s + z.h) ⊎ (z.s + z.h ≤ k) → (k < z.m - z.h) ⊎ (z.m - z.h ≤ k) → get_or d k 0 ≡ get_or (range 0 z.s ++ b) k 0
      go (inl p) _ _ = y.first k p ∙ sym (range-first 0 z.s b k p ∙ omega arith)
      go (inr p) (inl q) _ =
          let e : z.s + (k - z.s) ≡ k = omega arith in
          ap (λ (i : ℕ). get_or d i 0) (sym e) ∙ y.came (k - z.s) (omega arith)
          ∙ sym (range_past 0 z.s b k p ∙ range-first (z.m - z.h) z.h c (k - z.s) (omega arith))
      go (inr p) (inr q) (inl r) =
          y.stayed k q r
          ∙ sym (range_past 0 z.s b k p ∙ range_past (z.m - z.h) z.h c (k - z.s) (omega arith)
          ∙ range-first (z.s + z.h) (z.m - (z.s + z.h + z.h)) (range z.s z.h) (k - z.s - z.h) (omega arith) ∙ omega arith)
      go (inr p) (inr q) (inr r) =
          let e : z.m - z.h + (k - (z.m - z.h)) ≡ k = omega arith in
          ap (λ (i : ℕ). get_or d i 0) (sym e) ∙ y.went (k - (z.m - z.h)) (omega arith)
          ∙ sym (range_past 0 z.s b k p ∙ range_past (z.m - z.h) z.h c (k - z.s) (omega arith)
          ∙ range_past (z.s + z.h) (z.m - (z.s + z.h + z.h)) (range z.s z.h) (k - z.s - z.h) (omega arith)
          ∙ get_or-range z.s z.h (k - z.s - z.h - (z.m - (z.s + z.h + z.h))) (omega arith) ∙ omega arith)

  pub lay_end : {d : List ℕ} → Laying z.m z.s (z.m - z.h) z.h d → d ≡ first_rows z ++ octet_rows z
  lay_end {d} y = ext_get_or 0 d (first_rows z ++ octet_rows z) (y.long ∙ sym (ap length split ∙ long)) (λ k l. at k y (omega (arith, y.long)))
    where
      long : length (range 0 z.s ++ (range (z.m - z.h) z.h ++ (range (z.s + z.h) (z.m - (z.s + z.h + z.h)) ++ range z.s z.h))) ≡ z.m
      long = simp (length-append, length-range) (omega arith)

-- the loop: j of the h octet rows are exchanged, b being the first of the last h rows
pub record Exchanging (m s h b j : ℕ) (d : List ℕ) : Type 0 where
  pub lay : Laying m s b j d
  pub upto : j ≤ h
  pub ends : b + h ≡ m
  pub apart : s + h ≤ b

pub exchange_start : {n s h : ℕ} {d : List ℕ} → s + h + h ≤ n → d ≡ range 0 n → Exchanging (length d) s h (length d - h) 0 d
exchange_start {n} {s} {h} {d} f q =
    let e : length d ≡ n = ap length q ∙ length-range 0 n in
    record {
      lay = lay-start (length d) s (length d - h) (omega arith) (omega arith) (q ∙ ap (range 0) (sym e));
      upto = omega arith;
      ends = omega arith;
      apart = omega arith;
    }

module _ {m s h b j : ℕ} {d : List ℕ} (x : Exchanging m s h b j d) where
  pub exchange_next : {d' : List ℕ} → j < h → d' ≡ swapped (s + j) (b + j) d → Exchanging m s h b (j + 1) d'
  exchange_next i e = record {
    lay = lay-next x.lay x.apart (omega (arith, x.ends)) i e;
    upto = omega arith;
    ends = x.ends;
    apart = x.apart;
  }

  over : h ≤ j → d ≡ rows_at_first m s h
  unfolding rows_at_first
  over i =
      let e : j ≡ h = omega (arith, x.upto) in
      let q : b ≡ m - h = omega (arith, x.ends) in
      lay_end (record { m = m; n = 0; s = s; h = h; w = 0 }) (omega (arith, x.ends, x.apart))
      (subst (λ (i : ℕ). Laying m s (m - h) i d) e (subst (λ (i : ℕ). Laying m s i j d) q x.lay))

  pub exchange_end : {n : ℕ} → h ≤ j → m ≡ n → d ≡ rows_at_first n s h
  exchange_end i e = over i ∙ ap (λ (k : ℕ). rows_at_first k s h) e
