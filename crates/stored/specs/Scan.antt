-- What loops over the operations of a form go by. An operation's bytes are the four at its place.
--   words_at-next, list_fine_next, unused_fine_next   operation k, and what comes after it
--   get_or-words_at, length-words_at                   the words one by one
-- Assumes nothing.
use Rattle.std.specs.Prelude.{ℕ, zero, suc, ◌+◌, ◌-◌, ◌*◌, ◌<◌, ◌≡◌, refl, ◌&&◌, List, ◌∷◌, length, get_or}
use Rattle.std.proofs.Common.{sym, ap, ◌∙◌, arith}
use Rattle.oplist.specs.Word.{meaning}
use Rattle.oplist.specs.Check.{word_fine, list_fine}
use Rattle.stored.specs.Form.{word_at, words_at, unused_at, unused_fine}

module _ (b : List ℕ) (at n k : ℕ) (h : k < n) where
  count : n - k ≡ suc (n - (k + 1))
  count = omega arith

  place : at + 4 * k + 4 ≡ at + 4 * (k + 1)
  place = omega arith

  pub words_at-next : words_at b (at + 4 * k) (n - k) ≡ word_at b (at + 4 * k) ∷ words_at b (at + 4 * (k + 1)) (n - (k + 1))
  unfolding words_at
  words_at-next = rw (count, place)

  pub list_fine_next : (m : ℕ)
      → list_fine m (words_at b (at + 4 * k) (n - k)) ≡ (word_fine m (meaning (word_at b (at + 4 * k))) && list_fine m (words_at b (at + 4 * (k + 1)) (n - (k + 1))))
  unfolding list_fine
  list_fine_next m = rw words_at-next

  pub unused_fine_next : unused_fine b (at + 4 * k) (n - k) ≡ (unused_at b (at + 4 * k) && unused_fine b (at + 4 * (k + 1)) (n - (k + 1)))
  unfolding unused_fine
  unused_fine_next = rw (count, place)

pub length-words_at : (b : List ℕ) (at n : ℕ) → length (words_at b at n) ≡ n
unfolding words_at
length-words_at b at zero = refl
length-words_at b at (suc n) = ap suc (length-words_at b (at + 4) n)

pub get_or-words_at : (b : List ℕ) (at n i : ℕ) → i < n → get_or (words_at b at n) i 0 ≡ word_at b (at + 4 * i)
unfolding words_at
get_or-words_at b at zero i h = absurd (omega arith)
get_or-words_at b at (suc n) zero h = let e : at + 4 * 0 ≡ at = omega arith in ap (word_at b) (sym e)
get_or-words_at b at (suc n) (suc i) h =
    let e : at + 4 + 4 * i ≡ at + 4 * suc i = omega arith in
    get_or-words_at b (at + 4) n i (omega arith) ∙ ap (word_at b) e
