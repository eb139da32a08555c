-- What needs with no columns come to.
--   short_is, short_number   Err BadShape, and its number
-- Assumes nothing.
use Rattle.std.specs.Prelude.{◌≡◌, ℕ, ◌<◌, Err}
use borrow.Author.Tests.{lt-leb}
use Rattle.answers.specs.declared.Refusal.TheVariants.{BadShape}
use Rattle.answers.specs.Rooms.{need_of, need_refusal}

pub short_is : (m l : ℕ) → l < 1 → Err BadShape ≡ need_of m l
unfolding need_of
short_is m l h = rw (lt-leb 1 l h)

pub short_number : (m l : ℕ) → l < 1 → 2 ≡ need_refusal m l
unfolding need_refusal
short_number m l h = rw (lt-leb 1 l h)
