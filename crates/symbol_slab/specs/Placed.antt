-- Where the rows of an operation lie in a flat slab, and what is done to a part of a row.
--   TwoRows                   two rows of n entries within a size, which do not overlap
--   Placed w o n              the rows of the operation o, w wide, lie in a slab of n bytes, and are two where it reads one besides
--   add_at, fma_at, scale_at     an entry of the part from dest on after it gained the part from src on, or a multiple of it; after it was multiplied
--   Ready n held l room       the room is fit to be filled, and holds the multiples of the n bytes of l from held on, if they are in l
--   two_parts                 parts of two rows
--   span_part, scale_span, fma_span   a part of a slab that was changed as a row by itself
--   copy_span, copy_blank     a part that gained a multiple of another, by a copy of it in the room's second block; the room stays blank
--   held_part                 the multiples of a part of a slab
--   ready_none, ready_after   no multiples are held; those of another part stay what they are
-- Assumes nothing.
use Rattle.std.specs.Prelude.{◌≡◌, ◌⊎◌, List, ◌++◌, ℕ, zero, suc, ◌+◌, ◌-◌, ◌*◌, ◌≤◌, ◌<◌, length, get_or, take, drop}
use Rattle.std.proofs.Common.{sym, ap, ap₂, ◌∙◌, subst, inl, inr, ⊎_elim, length-take-le, take_at, drop_at}
use native.Mathlib.Omega.{arith}
use Rattle.loops.specs.Part.{part, put, length_part, get_d_part, length-put, get_or-put, get_or-put-before, get_or-put-after}
use Rattle.octet.specs.Octet.{add, mul}
use Rattle.octets.specs.Rows.{scale_row, fma_row}
use Rattle.octets.specs.Laws.{length-scale_row, get_or-scale_row, length-fma_row, get_or-fma_row}
use Rattle.octets.specs.Spans.{Span}
use Rattle.octets.specs.Multiples.{Blank, Multiples, entry, place, multiples_same, digits_at, digits}
use Rattle.oplist.specs.declared.Op.{Op}
use Rattle.oplist.specs.declared.Op.TheVariants.{AddAssign, MulAssign, FMA}

pub record TwoRows (dest src n size : ℕ) : Type 0 where
  pub dest_in : dest + n ≤ size
  pub src_in : src + n ≤ size
  pub apart : (dest + n ≤ src) ⊎ (src + n ≤ dest)

abbrev pub Placed : ℕ → Op → ℕ → Type 0
Placed w (AddAssign d s) n = TwoRows (d * w) (s * w) w n
Placed w (MulAssign d c) n = d * w + w ≤ n
Placed w (FMA d s c) n = TwoRows (d * w) (s * w) w n

abbrev pub add_at : List ℕ → ℕ → ℕ → ℕ → ℕ
add_at l dest src x = add (get_or l x 0) (get_or l (src + (x - dest)) 0)

abbrev pub fma_at : List ℕ → ℕ → ℕ → ℕ → ℕ → ℕ
fma_at l dest src k x = add (get_or l x 0) (mul k (get_or l (src + (x - dest)) 0))

abbrev pub scale_at : List ℕ → ℕ → ℕ → ℕ
scale_at l k x = mul k (get_or l x 0)

pub record Ready (n held : ℕ) (l room : List ℕ) : Type 0 where
  pub blank : Blank room
  pub holds : held + n ≤ length l → Multiples n (entry l held) room

pub two_parts : {dest src w size : ℕ} (a n : ℕ) → TwoRows dest src w size → a + n ≤ w → TwoRows (dest + a) (src + a) n size
two_parts a n r h =
    record {
      dest_in = omega (arith, r.dest_in);
      src_in = omega (arith, r.src_in);
      apart = ⊎_elim (λ q. inl (omega arith)) (λ q. inr (omega arith)) r.apart;
    }

-- the part from d on, and a slab that got r in its place, in the shapes in which the checker gives them
abbrev cut : ℕ → ℕ → List ℕ → List ℕ
cut d n l = take (d + n - d) (drop d l)

abbrev back : ℕ → ℕ → List ℕ → List ℕ → List ℕ
back d n l r = take d l ++ (r ++ drop (d + n - d) (drop d l))

cut-part : (d n : ℕ) (l : List ℕ) → cut d n l ≡ part d n l
unfolding part
cut-part d n l = let e : d + n - d ≡ n = omega arith in rw e

get_or-cut : (d n : ℕ) (l : List ℕ) (i : ℕ) → i < n → get_or (cut d n l) i 0 ≡ get_or l (d + i) 0
get_or-cut d n l i h = ap (λ (x : List ℕ). get_or x i 0) (cut-part d n l) ∙ get_d_part l d n i h

length_cut : (d n : ℕ) (l : List ℕ) → d + n ≤ length l → length (cut d n l) ≡ n
length_cut d n l h = ap length (cut-part d n l) ∙ length_part l d n h

-- r is what the part became
module _ (l r : List ℕ) (d n : ℕ) (h : d + n ≤ length l) where
  pub span_part : {g : ℕ → ℕ} → length r ≡ n → ((i : ℕ) → i < n → get_or r i 0 ≡ g (d + i)) → Span g l d (d + n) (put d n l r)
  span_part {g} y p =
      record {
        long = length-put l d n r h y;
        low = get_or-put-before l d n r h y;
        made = λ x q k.
            let v : d + (x - d) ≡ x = omega arith in
            ap (λ (u : ℕ). get_or (put d n l r) u 0) (sym v) ∙ get_or-put l d n r h y (x - d) (omega arith) ∙ p (x - d) (omega arith) ∙ ap g v;
        high = get_or-put-after l d n r h y;
      }

  put_back : put d n l r ≡ back d n l r
  unfolding put
  put_back = let e : d + n - d ≡ n = omega arith in rw e

  pub scale_span : (k : ℕ) → r ≡ scale_row k (cut d n l) → Span (scale_at l k) l d (d + n) (back d n l r)
  scale_span k e =
      subst (Span (scale_at l k) l d (d + n)) put_back
      (span_part (ap length e ∙ length-scale_row k (cut d n l) ∙ length_cut d n l h)
      (λ i q. ap (λ (x : List ℕ). get_or x i 0) e ∙ get_or-scale_row k (cut d n l) i ∙ ap (mul k) (get_or-cut d n l i q)))

  pub fma_span : {room : List ℕ} (src k : ℕ) → k < 256 → Multiples n (entry l src) room → Span (digits_at (cut d n l) room k) (cut d n l) 0 (length (cut d n l)) r
      → Span (fma_at l d src k) l d (d + n) (back d n l r)
  fma_span {room} src k b m s =
      let z = length_cut d n l h in
      subst (Span (fma_at l d src k) l d (d + n)) put_back
      (span_part (s.long ∙ z)
      (λ i q. s.made i (omega arith) (omega arith) ∙ digits m k i b q (cut d n l)
      ∙ ap₂ (λ (x y : ℕ). add x (mul k (get_or l y 0))) (get_or-cut d n l i q) (omega arith)))

  cut-back : length r ≡ n → cut d n (back d n l r) ≡ r
  cut-back e =
      let k : ℕ = d + n - d in
      ap (take k) (drop_at (take d l) (r ++ drop k (drop d l)) d (length-take-le d l (omega arith))) ∙ take_at r (drop k (drop d l)) k (omega arith)

-- p is what the room got in its second block: a copy of the part from src on
module _ (l : List ℕ) {room p : List ℕ} {d n src : ℕ} (t : TwoRows d src n (length l)) (h : n ≤ 1280) (b : Blank room) (f : p ≡ cut src n l) where
  room_in : 1280 + n ≤ length room
  room_in = omega (arith, b.long)

  length_copy : length p ≡ n
  length_copy = ap length f ∙ length_cut src n l t.src_in

  pub copy_span : {r : List ℕ} (k : ℕ) → r ≡ fma_row (cut d n l) (cut 1280 n (back 1280 n room p)) k → Span (fma_at l d src k) l d (d + n) (back d n l r)
  copy_span {r} k e =
      let z = length_cut d n l t.dest_in in
      let q = e ∙ ap (λ (x : List ℕ). fma_row (cut d n l) x k) (cut-back room p 1280 n room_in length_copy ∙ f) in
      subst (Span (fma_at l d src k) l d (d + n)) (put_back l r d n t.dest_in)
      (span_part l r d n t.dest_in (ap length q ∙ length-fma_row (cut d n l) (cut src n l) k ∙ z)
      (λ i y. ap (λ (x : List ℕ). get_or x i 0) q ∙ get_or-fma_row (cut d n l) (cut src n l) k i (omega arith)
      ∙ ap₂ (λ (x y : ℕ). add x (mul k y)) (get_or-cut d n l i y) (get_or-cut src n l i y ∙ ap (λ (x : ℕ). get_or l x 0) (omega arith))))

  pub copy_blank : Blank (back 1280 n room p)
  copy_blank =
      subst Blank (put_back room p 1280 n room_in)
      (record { long = length-put room 1280 n p room_in length_copy ∙ b.long; zeros = λ j i hj hi. at j i hi ∙ b.zeros j i hj hi })
    where
      at : (j i : ℕ) → i < 1280 → get_or (put 1280 n room p) (place j 0 i) 0 ≡ get_or room (place j 0 i) 0
      at zero i hi = get_or-put-before room 1280 n p room_in length_copy (place 0 0 i) (omega arith)
      at (suc j) i hi = get_or-put-after room 1280 n p room_in length_copy (place (suc j) 0 i) (omega arith)

pub held_part : (l room : List ℕ) (d n : ℕ) → d + n ≤ length l → Multiples (length (cut d n l)) (entry (cut d n l) 0) room → Multiples n (entry l d) room
held_part l room d n h m =
    multiples_same (subst (λ (k : ℕ). Multiples k (entry (cut d n l) 0) room) (length_cut d n l h) m)
    (λ i q. sym (ap (λ (k : ℕ). get_or (cut d n l) k 0) (omega arith) ∙ get_or-cut d n l i q))

pub ready_none : {n held : ℕ} {l room : List ℕ} → 0 < n → held ≡ length l → Blank room → Ready n held l room
ready_none p e b = record { blank = b; holds = λ h. absurd (omega arith) }

pub ready_after : {g : ℕ → ℕ} {dest src n size : ℕ} {l m room : List ℕ} → TwoRows dest src n size → Span g l dest (dest + n) m
    → Multiples n (entry l src) room → Blank room → Ready n src m room
ready_after {src = src} r s f b =
    record { blank = b; holds = λ h. multiples_same f (λ i q. ⊎_elim (λ z. s.high (src + i) (omega arith)) (λ z. s.low (src + i) (omega arith)) r.apart) }
