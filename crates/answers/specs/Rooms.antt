-- The rooms of a system of m rows and l columns: what order, vector and each working slice have to hold, in entries, and all working slices in bytes.
--   rooms_of         the need of each slice
--   need_of          the same, or that m and l are out of bounds
--   need_number      the number of that answer;  need_refusal   the number that m and l are answered with
--   Needed, need_met   what `needs` promises of its answer: the needs, and their number
--   bytes_are       the bytes are one for each entry of work and scratch, and 8 for each other entry
--   within_bound    for every l of the table the need in bytes is at most 16 m (l + h), with any number h of octet rows
--   small_product   a product of rows and bytes is small
--   need_one        two results that meet the statement are equal
-- Assumes nothing.
use Rattle.std.specs.Prelude.{◌≡◌, refl, Bool, true, false, ◌&&◌, cond, ℕ, ◌+◌, ◌*◌, ◌≤◌, leb, Result, Ok, Err}
use Rattle.std.proofs.Common.{sym, ap, ◌∙◌, mul-le-mul_left, mul-le-mul_right, mul-add, arith}
use Rattle.bounds.specs.Bounds.{most_rows}
use Rattle.params.specs.Params.{params_of}
use Rattle.params.specs.Answers.{sized}
use Rattle.params.specs.declared.Sizes.{Sizes}
use Rattle.answers.specs.declared.Rooms.{Rooms}
use Rattle.answers.specs.declared.Refusal.{Refusal}
use Rattle.answers.specs.declared.Refusal.TheVariants.{BadShape}
use Rattle.answers.specs.Answers.{number_of}

-- of the working slices work and scratch hold bytes, the others numbers of 8 bytes; sizes has an entry for each label, which are fewer than 2 l + 2
abbrev pub rooms_of : ℕ → ℕ → Rooms
rooms_of m l =
    record {
      order = l;
      vector = l;
      work = m * l;
      scratch = l;
      columns = l;
      rows = m;
      ones = m;
      degrees = m;
      singles = m;
      labels = l;
      sizes = 2 * l + 2;
      bytes = m * l + 32 * m + 33 * l + 16;
    }

-- 1 <= l <= m, and m within the bound
abbrev in_bounds : ℕ → ℕ → Bool
in_bounds m l = leb 1 l && (leb l m && leb m most_rows)

unfoldable pub need_of : ℕ → ℕ → Result Rooms Refusal
need_of m l = cond (in_bounds m l) (Ok (rooms_of m l)) (Err BadShape)

-- 0: the needs; else the number of the refusal
abbrev pub need_number : Result Rooms Refusal → ℕ
need_number (Ok r) = 0
need_number (Err e) = number_of (Err e)

unfoldable pub need_refusal : ℕ → ℕ → ℕ
need_refusal m l = cond (in_bounds m l) 0 2

pub record Needed (m l : ℕ) (r : Result Rooms Refusal) : Type 0 where
  pub is : r ≡ need_of m l
  pub number_is : need_number r ≡ need_refusal m l

pub need_met : {m l : ℕ} {r : Result Rooms Refusal} → r ≡ need_of m l → Needed m l r
unfolding need_of need_refusal
need_met {m} {l} e = record { is = e; number_is = ap need_number e ∙ at (in_bounds m l) }
  where
    at : (b : Bool) → need_number (cond b (Ok (rooms_of m l)) (Err BadShape)) ≡ cond b 0 2
    at true = refl
    at false = refl

-- bytes are the entries of work and scratch, and 8 for each other entry
pub bytes_are : (m l : ℕ) → let r : Rooms = rooms_of m l in
    r.bytes ≡ r.work + r.scratch + 8 * (r.columns + r.rows + r.ones + r.degrees + r.singles + r.labels + r.sizes)
bytes_are m l = omega arith

bounded : (m l h : ℕ) → 27 ≤ l → l ≤ m → (rooms_of m l).bytes ≤ 16 * (m * (l + h))
bounded m l h a b =
    let x : m * 27 ≤ m * l = mul-le-mul_left m a in
    let y : m * (l + h) ≡ m * l + m * h = mul-add m l h in
    omega arith

pub within_bound : (k m h : ℕ) (z : Sizes) → params_of k ≡ Ok z → z.l ≤ m → (rooms_of m z.l).bytes ≤ 16 * (m * (z.l + h))
within_bound k m h z e = bounded m z.l h (sized k z e).least_l

pub small_product : (a b : ℕ) → a ≤ 256 → b ≤ 65535 → a * b ≤ 16776960
small_product a b h k = omega (arith, mul-le-mul_right b h)

pub need_one : {m l : ℕ} {x y : Result Rooms Refusal} → Needed m l x → Needed m l y → x ≡ y
need_one e f = e.is ∙ sym f.is
