-- The column rule by places, as code does it: one turn of the loop over the middle exchanges a one at c with the rightmost zero, at k + i.
--   front, back                     what V's first k places, and the last ones, are to come to from place c on
--   turn-zero  a turn of the loop
--   turns_end                       the end of the loop
-- Assumes nothing.
use Rattle.std.specs.Prelude.{◌≡◌, refl, List, [], ◌∷◌, ◌++◌, Bool, false, cond, ℕ, suc, ◌+◌, ◌≤◌, ◌<◌, length, get_or, take, drop}
use Rattle.std.proofs.Common.{sym, ap, ap₂, ◌∙◌, append_assoc, append-nil, arith, take-append-drop, take-suc}
use Rattle.std.proofs.Math.Seq.{slice, slice-cons, slice_empty}
use Rattle.rule.specs.Rule.{found, put, lacks, swept, filled, rev}

-- what the loop is to come to, from place c on: V's first k places, and the last ones
abbrev pub front : (ℕ → Bool) → ℕ → ℕ → List ℕ → List ℕ
front p k c v = take c v ++ swept p (slice c k v) (rev (drop k v))

abbrev pub back : (ℕ → Bool) → ℕ → ℕ → List ℕ → List ℕ
back p k c v = filled p (slice c k v) (rev (drop k v))

module _ (p : ℕ → Bool) (k c : ℕ) (v : List ℕ) (ck : c < k) (kv : k ≤ length v) where
  -- a zero at c: nothing to do
  pub turn-zero : p (get_or v c 0) ≡ false → (front p k (suc c) v ≡ front p k c v) × (back p k (suc c) v ≡ back p k c v)
  turn-zero e =
      let m : ℕ = get_or v c 0 in
      let S : List ℕ = slice (suc c) k v in
      let R : List ℕ = rev (drop k v) in
      let sc : slice c k v ≡ get_or v c 0 ∷ slice (suc c) k v = slice-cons c k v 0 ck kv in (
        ap (λ (l : List ℕ). l ++ swept p S R) (take-suc v c 0 (omega arith)) ∙ append_assoc (take c v) (m ∷ []) (swept p S R)
            ∙ sym (ap (λ (l : List ℕ). take c v ++ swept p l R) sc
            ∙ ap (λ (t : Bool). take c v ++ cond t (found (lacks p) m R ∷ swept p S (put (lacks p) m R)) (m ∷ swept p S R)) e),
        sym (ap (λ (l : List ℕ). filled p l R) sc ∙ ap (λ (t : Bool). cond t (filled p S (put (lacks p) m R)) (filled p S R)) e),
      )

rev-snoc : (l : List ℕ) (a : ℕ) → rev (l ++ (a ∷ [])) ≡ a ∷ rev l
rev-snoc [] a = refl
rev-snoc (b ∷ l) a = ap (λ (t : List ℕ). t ++ (b ∷ [])) (rev-snoc l a)

rev-rev : (l : List ℕ) → rev (rev l) ≡ l
rev-rev [] = refl
rev-rev (a ∷ l) = rev-snoc (rev l) a ∙ ap (λ (t : List ℕ). a ∷ t) (rev-rev l)

-- at the end of the loop the list is what it was to come to
pub turns_end : (p : ℕ → Bool) (k : ℕ) (v : List ℕ) → front p k k v ++ rev (back p k k v) ≡ v
turns_end p k v =
    ap₂ (λ (x y : List ℕ). (take k v ++ swept p x (rev (drop k v))) ++ rev (filled p y (rev (drop k v)))) (slice_empty k v) (slice_empty k v)
    ∙ ap₂ (λ (x y : List ℕ). x ++ y) (append-nil (take k v)) (rev-rev (drop k v)) ∙ take-append-drop k v
