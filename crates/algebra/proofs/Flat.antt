-- The slab as the code holds it: one list of bytes, in which row r is the part of width w from r * w on. What an operation does to the list is
-- what it does to each of its w columns. m is the number of rows.
--   length-row, get_or-row        a row below m has w entries, and its entry t is what column t has there
--   length-act, view-act        an operation keeps the length, and does `step` to each column
--   length-acts, view-acts      a list keeps the length, and does `run` to each column
--   by_columns                  two slabs with the same columns are the same
--   acts-bytes                  bytes stay bytes
--   undo-acts, acts-undo        a list and then its undo, or its undo and then the list, restore every byte
--   undo-drop                   one operation more of a loop that goes down
-- Assumes nothing.
use Rattle.std.specs.Prelude.{◌≡◌, ◌≢◌, Bool, ℕ, suc, ◌+◌, ◌*◌, ◌/◌, ◌%◌, ◌<◌, ◌≤◌, ltb, length, get_or, drop}
use Rattle.std.proofs.Math.Path.{refl, ap, fun_ext}
use Rattle.std.proofs.Common.{sym, ap₂, ◌∙◌, subst, div-add-mod', mod-lt, div-lt_iff_lt-mul, add-one, arith, drop-cons, ext_get_or, eqb-true, ltb-true, ltb-false}
use Rattle.std.proofs.Math.Bool.{true, false}
use mathlib.Core.List.{List, [], ◌∷◌, map}
use Rattle.std.proofs.Math.Dec.{eqb}
use Rattle.std.proofs.lemmas.List.{length-map}
use Rattle.std.proofs.Math.ListN.{get_or-map}
use Rattle.std.proofs.lemmas.Bool.{eqb-false}
use Rattle.loops.specs.Part.{put, length_part, get_d_part, length-put, get_or-put, get_or-put-before, get_or-put-after}
use Rattle.octet.specs.Octet.{add, mul}
use Rattle.octet.specs.Field.{Octet, mul-zero}
use Rattle.oplist.specs.declared.Op.{Op}
use Rattle.oplist.specs.declared.Op.TheVariants.{AddAssign, MulAssign, FMA}
use Rattle.oplist.specs.Ops.{dest, Each}
use Rattle.algebra.specs.Sums.{pick}
use Rattle.algebra.specs.Rows.{value, step, Good, Within, run, inverse, undo, run_octet}
use Rattle.algebra.proofs.Rows.{undo-run, run-undo, within_undo}
use Rattle.algebra.specs.Flat.{Bytes, act, acts, acts-append, fits, get_d_zip, length-zip, row, view, written, zip}

module _ (m w : ℕ) where
  dest_within : (o : Op) → Within m o → dest o < m
  dest_within (AddAssign d s) b = b.0
  dest_within (MulAssign d c) b = b.0
  dest_within (FMA d s c) b = b.0

  module _ (l : List ℕ) (size : length l ≡ m * w) where
    pub length-row : (r : ℕ) → r < m → length (row w r l) ≡ w
    length-row r h = length_part l (r * w) w (omega (arith, fits m w r h))

    pub get_or-row : (r t : ℕ) → t < w → get_or (row w r l) t 0 ≡ view w t l r
    get_or-row r t h = get_d_part l (r * w) w t h

    module _ (d : ℕ) (hd : d < m) (new : List ℕ) (sn : length new ≡ w) where
      room : d * w + w ≤ length l
      room = omega (arith, fits m w d hd)

      view_same : (t : ℕ) → t < w → view w t (put (d * w) w l new) d ≡ get_or new t 0
      view_same t h = get_or-put l (d * w) w new room sn t h

      view-other : (t r : ℕ) → t < w → r ≢ d → view w t (put (d * w) w l new) r ≡ view w t l r
      view-other t r h ne = at (ltb r d) refl
        where
          at : (q : Bool) → ltb r d ≡ q → view w t (put (d * w) w l new) r ≡ view w t l r
          at true p = get_or-put-before l (d * w) w new room sn (r * w + t) (omega (arith, fits d w r (ltb-true r d p)))
          at false p =
              let g : d ≤ r = ltb-false r d p in
              get_or-put-after l (d * w) w new room sn (r * w + t) (omega (arith, fits r w d (omega arith)))

    zip-rows : (f : ℕ → ℕ → ℕ) (d s : ℕ) → d < m → s < m → length (zip f (row w d l) (row w s l)) ≡ w
    zip-rows f d s hd hs = length-zip f (row w d l) (row w s l) (length-row d hd ∙ sym (length-row s hs)) ∙ length-row d hd

    get_or-zip-rows : (f : ℕ → ℕ → ℕ) (d s : ℕ) → d < m → s < m → (t : ℕ) → t < w → get_or (zip f (row w d l) (row w s l)) t 0 ≡ f (view w t l d) (view w t l s)
    get_or-zip-rows f d s hd hs t h =
        get_d_zip f (row w d l) (row w s l) t (omega (arith, length-row d hd)) (omega (arith, length-row s hs)) ∙ ap₂ f (get_or-row d t h) (get_or-row s t h)

    length-written : (o : Op) → Within m o → length (written w o l) ≡ w
    length-written (AddAssign d s) b = zip-rows add d s b.0 b.1
    length-written (MulAssign d c) b = length-map (row w d l) (mul c) ∙ length-row d b.0
    length-written (FMA d s c) b = zip-rows (λ x y. add x (mul c y)) d s b.0 b.1

    get_or-written : (o : Op) → Within m o → (t : ℕ) → t < w → get_or (written w o l) t 0 ≡ value o (view w t l)
    get_or-written (AddAssign d s) b t h = get_or-zip-rows add d s b.0 b.1 t h
    get_or-written (MulAssign d c) b t h =
        ap (λ (z : ℕ). get_or (map (mul c) (row w d l)) t z) (sym (mul-zero c)) ∙ get_or-map (mul c) (row w d l) t 0 ∙ ap (mul c) (get_or-row d t h)
    get_or-written (FMA d s c) b t h = get_or-zip-rows (λ x y. add x (mul c y)) d s b.0 b.1 t h

    pub length-act : (o : Op) → Within m o → length (act w o l) ≡ m * w
    unfolding act
    length-act o b =
        length-put l (dest o * w) w (written w o l) (room (dest o) (dest_within o b) (written w o l) (length-written o b)) (length-written o b) ∙ size

    pub view-act : (o : Op) → Within m o → (t : ℕ) → t < w → view w t (act w o l) ≡ step o (view w t l)
    unfolding act
    view-act o b t h = fun_ext (λ r. at r (eqb r (dest o)) refl)
      where
        at : (r : ℕ) (q : Bool) → eqb r (dest o) ≡ q → view w t (act w o l) r ≡ pick q (value o (view w t l)) (view w t l r)
        at r true p =
            ap (view w t (act w o l)) (eqb-true r (dest o) p)
            ∙ view_same (dest o) (dest_within o b) (written w o l) (length-written o b) t h ∙ get_or-written o b t h
        at r false p = view-other (dest o) (dest_within o b) (written w o l) (length-written o b) t r h (eqb-false r (dest o) p)

  pub length-acts : (os : List Op) (l : List ℕ) → length l ≡ m * w → Each (Within m) os → length (acts w os l) ≡ m * w
  unfolding acts
  length-acts [] l z b = z
  length-acts (o ∷ os) l z b = length-acts os (act w o l) (length-act l z o b.0) b.1

  pub view-acts : (os : List Op) (l : List ℕ) → length l ≡ m * w → Each (Within m) os → (t : ℕ) → t < w → view w t (acts w os l) ≡ run os (view w t l)
  unfolding acts
  view-acts [] l z b t h = refl
  view-acts (o ∷ os) l z b t h = view-acts os (act w o l) (length-act l z o b.0) b.1 t h ∙ ap (run os) (view-act l z o b.0 t h)

  module _ (hw : 0 < w) where
    pub by_columns : (k l : List ℕ) → length k ≡ m * w → length l ≡ m * w → ((t r : ℕ) → t < w → r < m → view w t k r ≡ view w t l r) → k ≡ l
    by_columns k l zk zl h = ext_get_or 0 k l (zk ∙ sym zl) at
      where
        at : (i : ℕ) → i < length k → get_or k i 0 ≡ get_or l i 0
        at i q =
            let e : i / w * w + i % w ≡ i = div-add-mod' i w in
            ap (λ (z : ℕ). get_or k z 0) (sym e)
            ∙ h (i % w) (i / w) (mod-lt i hw) ((div-lt_iff_lt-mul hw).1 (omega arith))
            ∙ ap (λ (z : ℕ). get_or l z 0) e

    module _ (os : List Op) (l : List ℕ) (size : length l ≡ m * w) (bytes : Bytes l) (b : Each (Within m) os) where
      pub acts-bytes : Bytes (acts w os l)
      acts-bytes i =
          subst Octet (ap (λ (u : ℕ → ℕ). u (i / w)) (sym (view-acts os l size b (i % w) (mod-lt i hw))) ∙ ap (λ (k : ℕ). get_or (acts w os l) k 0) (div-add-mod' i w))
          (run_octet os (view w (i % w) l) (λ r. bytes (r * w + i % w)) (i / w))

    -- a list and then another, which the second undoes in each column
    there_and_back : (os ps : List Op) (l : List ℕ) → length l ≡ m * w → Each (Within m) os → Each (Within m) ps
        → ((t : ℕ) → t < w → run ps (run os (view w t l)) ≡ view w t l) → acts w ps (acts w os l) ≡ l
    there_and_back os ps l z b p e =
        by_columns (acts w ps (acts w os l)) l (length-acts ps (acts w os l) (length-acts os l z b) p) z
        (λ t r h q. ap (λ (u : ℕ → ℕ). u r)
        (view-acts ps (acts w os l) (length-acts os l z b) p t h ∙ ap (run ps) (view-acts os l z b t h) ∙ e t h))

    module _ (os : List Op) (l : List ℕ) (size : length l ≡ m * w) (bytes : Bytes l) (g : Each Good os) (b : Each (Within m) os) where
      pub undo-acts : acts w (undo os) (acts w os l) ≡ l
      undo-acts = there_and_back os (undo os) l size b (within_undo m os b) (λ t h. undo-run os (view w t l) g (λ i. bytes (i * w + t)))

      pub acts-undo : acts w os (acts w (undo os) l) ≡ l
      acts-undo = there_and_back (undo os) os l size (within_undo m os b) b (λ t h. run-undo os (view w t l) g (λ i. bytes (i * w + t)))

-- a loop that goes down has undone `drop (i + 1)`; one more
pub undo-drop : (w : ℕ) (os : List Op) (l : List ℕ) (i : ℕ) (z : Op) → i < length os
    → act w (inverse (get_or os i z)) (acts w (undo (drop (i + 1) os)) l) ≡ acts w (undo (drop i os)) l
unfolding acts
undo-drop w os l i z h = sym (rw (add-one i, drop-cons os i z) (acts-append w (undo (drop (suc i) os)) (inverse (get_or os i z) ∷ []) l))
