-- The list of operations that the words of a room say.
--   is_known, with_op           whether a word is of a known kind; its operation, if it is, before others
--   known                     each word is an operation's
--   ops_of                     the operations, in order; a word of an unknown kind says none
--   ops_of-append, ops_of-drop, ops_of-take   of words joined, left from a place on, and up to a place
--   ops_of-packed, known-packed             the words of a list say that list
--   packed-ops_of, length-ops_of             known words are those of the list that they say, as many
--   room_says                 a list that was recorded and fits stands at the front of its room
--   small_ops_of               what words say has fields that fit
-- Assumes nothing.
use Rattle.std.specs.Prelude.{ℕ, suc, ◌+◌, ◌≤◌, ◌<◌, ◌≡◌, refl, Bool, true, false, ◌&&◌, List, [], ◌∷◌, ◌++◌, map, length, get_or, take, drop, Option, Some, None}
use Rattle.std.proofs.Common.{sym, ap, ap₂, ◌∙◌, add-one, arith, take-suc, take_at}
use Rattle.std.proofs.lemmas.List.{length-map}
use Rattle.std.proofs.lemmas.List.Edits.{sets-eq}
use Rattle.loops.specs.Part.{drop-next}
use Rattle.loops.specs.Room.{Log, log, puts, puts_fit}
use Rattle.oplist.specs.declared.Op.{Op}
use Rattle.oplist.specs.Ops.{Each}
use Rattle.oplist.specs.Word.{Small, packed, meaning, meaning-packed, packed-meaning}

abbrev pub is_known : Option Op → Bool
is_known (Some o) = true
is_known None = false

-- the operation of a word before others
abbrev pub with_op : Option Op → List Op → List Op
with_op (Some o) os = o ∷ os
with_op None os = os

unfoldable pub known : List ℕ → Bool
known [] = true
known (w ∷ ws) = is_known (meaning w) && known ws

unfoldable pub ops_of : List ℕ → List Op
ops_of [] = []
ops_of (w ∷ ws) = with_op (meaning w) (ops_of ws)

pub ops_of-append : (a b : List ℕ) → ops_of (a ++ b) ≡ ops_of a ++ ops_of b
unfolding ops_of
ops_of-append [] b = refl
ops_of-append (w ∷ a) b = at (meaning w) (ops_of-append a b)
  where
    at : (m : Option Op) → ops_of (a ++ b) ≡ ops_of a ++ ops_of b → with_op m (ops_of (a ++ b)) ≡ with_op m (ops_of a) ++ ops_of b
    at (Some o) e = ap (λ (l : List Op). o ∷ l) e
    at None e = e

pub ops_of-drop : (ws : List ℕ) (k : ℕ) → k < length ws → ops_of (drop k ws) ≡ with_op (meaning (get_or ws k 0)) (ops_of (drop (k + 1) ws))
unfolding ops_of
ops_of-drop ws k h = rw (drop-next ws k h)

pub ops_of-take : (ws : List ℕ) (k : ℕ) → k < length ws → ops_of (take (k + 1) ws) ≡ ops_of (take k ws) ++ with_op (meaning (get_or ws k 0)) []
unfolding ops_of
ops_of-take ws k h = ap ops_of (ap (λ (n : ℕ). take n ws) (add-one k) ∙ take-suc ws k 0 h) ∙ ops_of-append (take k ws) (get_or ws k 0 ∷ [])

pub ops_of-packed : (os : List Op) → Each Small os → ops_of (map packed os) ≡ os
unfolding ops_of
ops_of-packed [] h = refl
ops_of-packed (o ∷ os) h = rw (meaning-packed o h.0, ops_of-packed os h.1)

pub known-packed : (os : List Op) → Each Small os → known (map packed os) ≡ true
unfolding known
known-packed [] h = refl
known-packed (o ∷ os) h = rw (meaning-packed o h.0) (known-packed os h.1)

pub packed-ops_of : (ws : List ℕ) → known ws ≡ true → map packed (ops_of ws) ≡ ws
unfolding known ops_of
packed-ops_of [] h = refl
packed-ops_of (w ∷ ws) h = at (meaning w) refl (packed-ops_of ws) h
  where
    at : (m : Option Op) → meaning w ≡ m → (known ws ≡ true → map packed (ops_of ws) ≡ ws) → is_known m && known ws ≡ true → map packed (with_op m (ops_of ws)) ≡ w ∷ ws
    at (Some o) e ih k = ap₂ (λ (x : ℕ) (l : List ℕ). x ∷ l) (sym (packed-meaning w o e).is) (ih k)
    at None e ih k = let z : ◌≡◌ {A = ℕ} 0 1 = cc in absurd (omega arith)

pub length-ops_of : (ws : List ℕ) → known ws ≡ true → length (ops_of ws) ≡ length ws
unfolding known ops_of
length-ops_of [] h = refl
length-ops_of (w ∷ ws) h = at (meaning w) (length-ops_of ws) h
  where
    at : (m : Option Op) → (known ws ≡ true → length (ops_of ws) ≡ length ws) → is_known m && known ws ≡ true → length (with_op m (ops_of ws)) ≡ suc (length ws)
    at (Some o) ih k = ap suc (ih k)
    at None ih k = let z : ◌≡◌ {A = ℕ} 0 1 = cc in absurd (omega arith)

pub small_ops_of : (ws : List ℕ) → Each Small (ops_of ws)
unfolding ops_of
small_ops_of [] = tt
small_ops_of (w ∷ ws) = at (meaning w) refl (small_ops_of ws)
  where
    at : (m : Option Op) → meaning w ≡ m → Each Small (ops_of ws) → Each Small (with_op m (ops_of ws))
    at (Some o) e ih = ((packed-meaning w o e).small, ih)
    at None e ih = ih

pub room_says : (os : List Op) (ws : List ℕ) → length os ≤ length ws → Each Small os → ops_of (take (length os) (puts packed (log ws 0) os).words) ≡ os
room_says os ws h k =
    let n = length-map os packed in
    let z : 0 + length os ≡ length os = omega arith in
    ap (λ (g : Log). ops_of (take (length os) g.words)) (puts_fit packed os ws 0 (omega arith))
    ∙ ap (λ (l : List ℕ). ops_of (take (length os) l)) (sets-eq (map packed os) ws 0 (omega arith))
    ∙ ap ops_of (take_at (map packed os) (drop (0 + length (map packed os)) ws) (length os) n) ∙ ops_of-packed os k
