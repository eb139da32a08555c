-- What is kept of operations as they are recorded; and a lent room for a list of them, with a sticky count. `code` is the word of an operation.
--   notes           a journal after a list of operations, `note` being what one operation does to it
--   notes-append    the journal after two lists, one after the other
--   Log             the words of the room, and the count: at most the room, or one above it once an operation found no place
--   log, pick_log    words with a count; one of two, by a test
--   put, puts       one operation more; a list of them
--   put_fits, put_full   one operation more where there is room, and where there is none
--   puts-append     lists after each other
--   puts_fit        a list that fits stands in the room, word after word
--   puts-over       after one that does not fit the count is one above the room
-- Assumes nothing.
use Prim.Native.Nat.{ℕ, suc, ◌+◌, ◌≤◌, ◌<◌}
use Rattle.std.specs.Prelude.{◌≡◌, Bool, set}
use Rattle.std.proofs.Math.Path.{refl, ap}
use Rattle.std.proofs.Common.{◌∙◌}
use Rattle.std.proofs.Math.Bool.{true, false}
use mathlib.Core.List.{List, [], ◌∷◌, ◌++◌, map}
use Rattle.std.proofs.Math.Nat.{add-zero}
use Rattle.std.proofs.Math.Numerals.{add-one}
use native.Mathlib.Omega.{arith}
use borrow.Author.Tests.{lt-ltb, le-ltb, ltb-true, ltb-false}
use Rattle.std.proofs.Math.Dec.{ltb}
use Rattle.std.proofs.Math.ListN.{length, length-set}
use Rattle.std.proofs.lemmas.List.Edits.{sets}

pub record Log : Type 0 where
  pub words : List ℕ
  pub count : ℕ

abbrev pub log : List ℕ → ℕ → Log
log ws n = record { words = ws; count = n }

abbrev pub pick_log : Bool → Log → Log → Log
pick_log true a b = a
pick_log false a b = b

module _ {O J : Type 0} (note : J → O → J) where
  unfoldable pub notes : J → List O → J
  notes g [] = g
  notes g (o ∷ os) = notes (note g o) os

  pub notes-append : (g : J) (a b : List O) → notes g (a ++ b) ≡ notes (notes g a) b
  unfolding notes
  notes-append g [] b = refl
  notes-append g (o ∷ os) b = notes-append (note g o) os b

module _ {O : Type 0} (code : O → ℕ) where
  unfoldable pub put : Log → O → Log
  put g o = pick_log (ltb g.count (length g.words)) (log (set g.words g.count (code o)) (g.count + 1)) (log g.words (length g.words + 1))

  unfoldable pub puts : Log → List O → Log
  puts g os = notes put g os

  pub puts-append : (g : Log) (a b : List O) → puts g (a ++ b) ≡ puts (puts g a) b
  unfolding puts
  puts-append g a b = notes-append put g a b

  pub put_fits : (ws : List ℕ) (n : ℕ) (o : O) → n < length ws → put (log ws n) o ≡ log (set ws n (code o)) (n + 1)
  unfolding put
  put_fits ws n o h = rw (lt-ltb n (length ws) h)

  pub put_full : (ws : List ℕ) (n : ℕ) (o : O) → length ws ≤ n → put (log ws n) o ≡ log ws (length ws + 1)
  unfolding put
  put_full ws n o h = rw (le-ltb n (length ws) h)

  pub puts_fit : (ops : List O) (ws : List ℕ) (n : ℕ) → n + length ops ≤ length ws
      → puts (log ws n) ops ≡ log (sets ws n (map code ops)) (n + length ops)
  unfolding puts notes
  puts_fit [] ws n h = rw add-zero
  puts_fit (o ∷ os) ws n h =
      let e : n + 1 + length os ≡ n + suc (length os) = omega arith in
      rw (put_fits ws n o (omega arith), puts_fit os (set ws n (code o)) (n + 1) (rw length-set (omega arith)), e, add-one n)

  stuck : (ops : List O) (ws : List ℕ) (n : ℕ) → n ≡ length ws + 1 → puts (log ws n) ops ≡ log ws (length ws + 1)
  unfolding puts notes
  stuck [] ws n h = ap (log ws) h
  stuck (o ∷ os) ws n h = rw (put_full ws n o (omega arith)) (stuck os ws (length ws + 1) refl)

  pub puts-over : (ops : List O) (ws : List ℕ) (n : ℕ) → n ≤ length ws → length ws < n + length ops
      → (puts (log ws n) ops).count ≡ length ws + 1
  unfolding puts notes
  puts-over [] ws n h k = absurd (omega (arith, add-zero n))
  puts-over (o ∷ os) ws n h k = go (ltb n (length ws)) refl (puts-over os (set ws n (code o)) (n + 1))
    where
      go : (b : Bool) → ltb n (length ws) ≡ b
          → (n + 1 ≤ length (set ws n (code o)) → length (set ws n (code o)) < n + 1 + length os → (puts (log (set ws n (code o)) (n + 1)) os).count ≡ length (set ws n (code o)) + 1)
          → (puts (put (log ws n) o) os).count ≡ length ws + 1
      go true e ih =
          let l = length-set ws n (code o) in
          let t = ltb-true n (length ws) e in
          rw (put_fits ws n o t) (ih (omega arith) (omega arith) ∙ ap (λ (x : ℕ). x + 1) l)
      go false e ih = rw (put_full ws n o (ltb-false n (length ws) e), stuck os ws (length ws + 1) refl)
