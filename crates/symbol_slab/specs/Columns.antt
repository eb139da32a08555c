-- A list of operations on some columns of a flat slab. Operations act on each column by itself, so a slab may be worked on a span of columns at a time.
--   Cols w a b os l₀ l     l is l₀, of rows w wide, with the operations os done to the columns from a up to b
--   cols-none, cols-append no operation; two lists after each other
--   cols_join              a list done to some columns from the first on, and then to those that follow
--   cols_op                one operation, by what it does to a part of the row that it writes
--   cols-add, cols_scale, cols_fma   the three operations
--   cols-start             no column
--   cols-all               a list done to all columns is what `acts` makes
-- Assumes nothing.
use Rattle.std.specs.Prelude.{◌≡◌, refl, ◌≢◌, ◌⊎◌, Bool, true, false, List, [], ◌∷◌, ◌++◌, map, eqb, ltb, length}
use Rattle.std.proofs.Common.{sym, ap₂, ◌∙◌, inl, inr, ⊎_elim, add-zero, div-add-mod', mod-lt, eq-zero-or-pos, take-append-drop, ext_get_or, eqb-true, ltb-true, ltb-false}
use Rattle.std.proofs.Math.Path.{ap, subst, fun_ext}
use Prim.Native.Nat.{ℕ, ◌+◌, ◌-◌, ◌*◌, ◌/◌, ◌%◌, ◌≤◌, ◌<◌}
use native.Mathlib.Omega.{arith}
use Rattle.std.proofs.Math.ListN.{get_or, get_or-map}
use Rattle.std.proofs.lemmas.List.{length-map}
use Rattle.std.proofs.lemmas.Bool.{eqb-false}
use Rattle.loops.specs.Part.{part, put, length_part, get_d_part}
use Rattle.octet.specs.Octet.{add, mul}
use Rattle.octet.specs.Field.{mul-zero}
use Rattle.octets.specs.Spans.{Span}
use Rattle.oplist.specs.declared.Op.{Op}
use Rattle.oplist.specs.declared.Op.TheVariants.{AddAssign, MulAssign, FMA}
use Rattle.oplist.specs.Ops.{dest, Each}
use Rattle.algebra.specs.Sums.{pick}
use Rattle.algebra.specs.Rows.{value, run, run-append}
use Rattle.algebra.specs.Flat.{row, view, zip, written, act, acts, length-zip, get_d_zip, fits}
use Rattle.symbol_slab.specs.Placed.{Placed, add_at, fma_at, scale_at, span_part}

pub record Cols (w a b : ℕ) (os : List Op) (l₀ l : List ℕ) : Type 0 where
  pub long : length l ≡ length l₀
  pub none : b ≤ a → l ≡ l₀
  pub inside : (t : ℕ) → a ≤ t → t < b → view w t l ≡ run os (view w t l₀)
  pub outside : (t : ℕ) → t < w → (t < a) ⊎ (b ≤ t) → view w t l ≡ view w t l₀

pub cols-none : {w a b : ℕ} {l : List ℕ} → Cols w a b [] l l
cols-none = record { long = refl; none = λ h. refl; inside = λ t h k. refl; outside = λ t h k. refl }

pub cols-append : {w a b : ℕ} {os ps : List Op} {l₀ l m : List ℕ} → Cols w a b os l₀ l → Cols w a b ps l m → Cols w a b (os ++ ps) l₀ m
cols-append {w} {os = os} {ps = ps} {l₀ = l₀} p q =
    record {
      long = q.long ∙ p.long;
      none = λ h. q.none h ∙ p.none h;
      inside = λ t h k. q.inside t h k ∙ ap (run ps) (p.inside t h k) ∙ sym (run-append os ps (view w t l₀));
      outside = λ t h k. q.outside t h k ∙ p.outside t h k;
    }

pub cols-start : {w : ℕ} {os : List Op} {l : List ℕ} → Cols w 0 0 os l l
cols-start = record { long = refl; none = λ h. refl; inside = λ t h k. absurd (omega arith); outside = λ t h k. refl }

pub cols_join : {w a b : ℕ} {os : List Op} {l₀ l m : List ℕ} → Cols w 0 a os l₀ l → Cols w a b os l m → a ≤ b → b ≤ w → Cols w 0 b os l₀ m
cols_join {w} {a} {b} {os} {l₀} {l} {m} p q h k =
    record {
      long = q.long ∙ p.long;
      none = λ z. q.none (omega arith) ∙ p.none (omega arith);
      inside = λ t y z. ⊎_elim
          (λ e. q.inside t (omega arith) z ∙ ap (run os) (p.outside t (omega arith) (inr (omega arith))))
          (λ e. q.outside t (omega arith) (inl (omega arith)) ∙ p.inside t y (omega arith)) (eq-zero-or-pos (a - t));
      outside = λ t y z. ⊎_elim (λ e. absurd (omega arith)) (λ e. q.outside t y (inr e) ∙ p.outside t y (inr (omega arith))) z;
    }

-- entry t of a row stands before the rows that follow
below : (w r d t : ℕ) → r < d → t < w → r * w + t < d * w
below w r d t h k = omega (arith, fits d w r h)

module _ (w a n : ℕ) (o : Op) {g : ℕ → ℕ} {l m : List ℕ} (h : a + n ≤ w) (s : Span g l (dest o * w + a) (dest o * w + a + n) m) where
  other : (t r : ℕ) → t < w → r ≢ dest o → view w t m r ≡ view w t l r
  other t r k ne = at (ltb r (dest o)) refl
    where
      at : (q : Bool) → ltb r (dest o) ≡ q → view w t m r ≡ view w t l r
      at true p = s.low (r * w + t) (omega (arith, below w r (dest o) t (ltb-true r (dest o) p) k))
      at false p =
          let q : dest o ≤ r = ltb-false r (dest o) p in
          s.high (r * w + t) (omega (arith, fits r w (dest o) (omega arith)))

  pub cols_op : (a + n ≤ a → m ≡ l) → ((t : ℕ) → a ≤ t → t < a + n → g (dest o * w + t) ≡ value o (view w t l)) → Cols w a (a + n) (o ∷ []) l m
  cols_op none e =
      record {
        long = s.long;
        none = none;
        inside = λ t y z. fun_ext (λ r. at t y z r (eqb r (dest o)) refl);
        outside = λ t y z. fun_ext (λ r. out t y z r (eqb r (dest o)) refl);
      }
    where
      at : (t : ℕ) → a ≤ t → t < a + n → (r : ℕ) (q : Bool) → eqb r (dest o) ≡ q → view w t m r ≡ pick q (value o (view w t l)) (view w t l r)
      at t y z r true p = ap (view w t m) (eqb-true r (dest o) p) ∙ s.made (dest o * w + t) (omega arith) (omega arith) ∙ e t y z
      at t y z r false p = other t r (omega arith) (eqb-false r (dest o) p)

      out : (t : ℕ) → t < w → (t < a) ⊎ (a + n ≤ t) → (r : ℕ) (q : Bool) → eqb r (dest o) ≡ q → view w t m r ≡ view w t l r
      out t y z r true p =
          ap (view w t m) (eqb-true r (dest o) p)
          ∙ ⊎_elim (λ k. s.low (dest o * w + t) (omega arith)) (λ k. s.high (dest o * w + t) (omega arith)) z
          ∙ ap (view w t l) (sym (eqb-true r (dest o) p))
      out t y z r false p = other t r y (eqb-false r (dest o) p)

module _ (w a n : ℕ) {l m : List ℕ} (h : a + n ≤ w) (some : 0 < n) where
  pub cols-add : (d s : ℕ) → Span (add_at l (d * w + a) (s * w + a)) l (d * w + a) (d * w + a + n) m → Cols w a (a + n) (AddAssign d s ∷ []) l m
  cols-add d s p =
      cols_op w a n (AddAssign d s) h p (λ z. absurd (omega arith)) (λ t y z. ap (λ (x : ℕ). add (get_or l (d * w + t) 0) (get_or l x 0)) (omega arith))

  pub cols_scale : (d c : ℕ) → Span (scale_at l c) l (d * w + a) (d * w + a + n) m → Cols w a (a + n) (MulAssign d c ∷ []) l m
  cols_scale d c p = cols_op w a n (MulAssign d c) h p (λ z. absurd (omega arith)) (λ t y z. refl)

  pub cols_fma : (d s c : ℕ) → Span (fma_at l (d * w + a) (s * w + a) c) l (d * w + a) (d * w + a + n) m → Cols w a (a + n) (FMA d s c ∷ []) l m
  cols_fma d s c p =
      cols_op w a n (FMA d s c) h p (λ z. absurd (omega arith)) (λ t y z. ap (λ (x : ℕ). add (get_or l (d * w + t) 0) (mul c (get_or l x 0))) (omega arith))

module _ (w : ℕ) (l : List ℕ) where
  dest_in : (o : Op) → Placed w o (length l) → dest o * w + w ≤ length l
  dest_in (AddAssign d s) p = p.dest_in
  dest_in (MulAssign d c) p = p
  dest_in (FMA d s c) p = p.dest_in

  module _ (f : ℕ → ℕ → ℕ) (d s : ℕ) (hd : d * w + w ≤ length l) (hs : s * w + w ≤ length l) where
    length_joined : length (zip f (row w d l) (row w s l)) ≡ w
    length_joined = length-zip f (row w d l) (row w s l) (length_part l (d * w) w hd ∙ sym (length_part l (s * w) w hs)) ∙ length_part l (d * w) w hd

    get_or_joined : (t : ℕ) → t < w → get_or (zip f (row w d l) (row w s l)) t 0 ≡ f (view w t l d) (view w t l s)
    get_or_joined t h =
        get_d_zip f (row w d l) (row w s l) t (omega (arith, length_part l (d * w) w hd)) (omega (arith, length_part l (s * w) w hs))
        ∙ ap₂ f (get_d_part l (d * w) w t h) (get_d_part l (s * w) w t h)

  length-written : (o : Op) → Placed w o (length l) → length (written w o l) ≡ w
  length-written (AddAssign d s) p = length_joined add d s p.dest_in p.src_in
  length-written (MulAssign d c) p = length-map (row w d l) (mul c) ∙ length_part l (d * w) w p
  length-written (FMA d s c) p = length_joined (λ x y. add x (mul c y)) d s p.dest_in p.src_in

  get_or-written : (o : Op) → Placed w o (length l) → (t : ℕ) → t < w → get_or (written w o l) t 0 ≡ value o (view w t l)
  get_or-written (AddAssign d s) p t h = get_or_joined add d s p.dest_in p.src_in t h
  get_or-written (MulAssign d c) p t h =
      ap (λ (z : ℕ). get_or (map (mul c) (row w d l)) t z) (sym (mul-zero c)) ∙ get_or-map (mul c) (row w d l) t 0 ∙ ap (mul c) (get_d_part l (d * w) w t h)
  get_or-written (FMA d s c) p t h = get_or_joined (λ x y. add x (mul c y)) d s p.dest_in p.src_in t h

  written_none : (o : Op) → w ≤ 0 → written w o l ≡ []
  unfolding part
  written_none (AddAssign d s) h = let e : w ≡ 0 = omega arith in rw e
  written_none (MulAssign d c) h = let e : w ≡ 0 = omega arith in rw e
  written_none (FMA d s c) h = let e : w ≡ 0 = omega arith in rw e

  act-none : (o : Op) → w ≤ 0 → act w o l ≡ l
  unfolding act put
  act-none o h = let e : w ≡ 0 = omega arith in rw (written_none o h, e) (take-append-drop (dest o * 0) l)

  cols-act : (o : Op) → Placed w o (length l) → Cols w 0 w (o ∷ []) l (act w o l)
  unfolding act
  cols-act o p =
      let d = dest o * w in
      let r = written w o l in
      let g : ℕ → ℕ = λ x. get_or r (x - d) 0 in
      let s = subst (λ (k : ℕ). Span g l k (k + w) (act w o l)) (sym (add-zero d))
      (span_part l r d w (dest_in o p) (length-written o p) (λ i q. ap (λ (x : ℕ). get_or r x 0) (omega arith))) in
      let e : 0 + w ≡ w = omega arith in
      subst (λ (b : ℕ). Cols w 0 b (o ∷ []) l (act w o l)) e
      (cols_op w 0 w o (omega arith) s (λ z. act-none o (omega arith)) (λ t k q. ap (λ (x : ℕ). get_or r x 0) (omega arith) ∙ get_or-written o p t (omega arith)))

abbrev AllIn : ℕ → List Op → ℕ → Type 0
AllIn w os n = Each (λ (o : Op). Placed w o n) os

cols-acts : (w : ℕ) (os : List Op) (l : List ℕ) → AllIn w os (length l) → Cols w 0 w os l (acts w os l)
unfolding acts
cols-acts w [] l p = cols-none
cols-acts w (o ∷ os) l p =
    let c = cols-act w l o p.0 in
    cols-append c (cols-acts w os (act w o l) (subst (AllIn w os) (sym c.long) p.1))

cols_only : {w : ℕ} {os : List Op} {l₀ l m : List ℕ} → Cols w 0 w os l₀ l → Cols w 0 w os l₀ m → l ≡ m
cols_only {w} {os} {l₀} {l} {m} p q = ⊎_elim (λ e. p.none (omega arith) ∙ sym (q.none (omega arith))) some (eq-zero-or-pos w)
  where
    some : 0 < w → l ≡ m
    some h = ext_get_or 0 l m (p.long ∙ sym q.long) at
      where
        at : (i : ℕ) → i < length l → get_or l i 0 ≡ get_or m i 0
        at i k =
            let e : i / w * w + i % w ≡ i = div-add-mod' i w in
            let z = mod-lt i h in
            ap (λ (x : ℕ). get_or l x 0) (sym e)
            ∙ ap (λ (v : ℕ → ℕ). v (i / w)) (p.inside (i % w) (omega arith) z ∙ sym (q.inside (i % w) (omega arith) z))
            ∙ ap (λ (x : ℕ). get_or m x 0) e

pub cols-all : {w b : ℕ} {os : List Op} {l₀ l : List ℕ} → Cols w 0 b os l₀ l → b ≤ w → w ≤ b → AllIn w os (length l₀) → l ≡ acts w os l₀
cols-all {w} {b} {os} {l₀} {l} c h k p =
    let e : b ≡ w = omega arith in
    cols_only (subst (λ (x : ℕ). Cols w 0 x os l₀ l) e c) (cols-acts w os l₀ p)
