-- A scan of the packed table gives the row for k, packed.
--   front_small   a part of a small sum is small
--   word e        an entry, packed
--   found_packed, long_packed   what a packed row answers, by its L
--   scan-table    the scan of the packed table
--   word-packed   the sums of what it finds are safe
--   word-answer   what it finds answers what the entry does;  none-answer   so does it where it finds nothing
-- Assumes nothing.
use mathlib.Core.Path.{◌≡◌, refl, sym, ap, ◌∙◌, subst}
use mathlib.Core.Bool.{Bool, true, false, cond}
use mathlib.Core.List.{List, [], ◌∷◌, map, Memᴰ}
use Rattle.std.specs.Prelude.{Option, Some, None, Ok}
use Prim.Native.Nat.{ℕ, ◌+◌, ◌/◌, ◌≤◌, ◌<◌}
use native.Mathlib.Nat.{le_of_lt}
use native.Mathlib.Omega.{arith}
use lib.Dec.{leb}
use Rattle.params.specs.Table.{Row, table}
use Rattle.bounds.specs.Bounds.{most_rows}
use Rattle.params.specs.Answers.{answer-found, answer_long}
use Rattle.params.specs.Params.{pick, Entry, entry, none, first, length_of, sizes, bad_count, answer}
use Rattle.params.specs.Packed.{k_unit, pack, unpack, scan, packed_answer, Packed}
use Rattle.params.specs.Rule.{Right, right-at, table-ruled}
use Rattle.params.specs.Smallest.{first_smallest}

pub front_small : (a b c : ℕ) → a + b + c < 65_536 → a + b < 65_536
front_small a b c h = omega arith

abbrev pub word : Entry → Option ℕ
word none = None
word (entry r) = Some (pack r)

-- a scan of right rows, packed
scan-packed : (k : ℕ) (t : List Row) → ((r : Row) → Memᴰ r t → Right r) → scan k (map pack t) ≡ word (first k t)
unfolding first
scan-packed k [] h = refl
scan-packed k (x ∷ xs) h =
    let e : pack x / k_unit ≡ x.k = ap (λ (r : Row). r.k) (h x (Memᴰ.head refl)).packs in
    rw (e, scan-packed k xs (λ r m. h r (Memᴰ.tail m))) (choose (leb k x.k))
  where
    choose : (b : Bool) → cond b (Some (pack x)) (word (first k xs)) ≡ word (pick b (entry x) (first k xs))
    choose true = refl
    choose false = refl

pub scan-table : (k : ℕ) → scan k (map pack table) ≡ word (first k table)
scan-table k = scan-packed k table (λ r m. right-at m)

pack-packed : (r : Row) → Right r → Packed (pack r)
pack-packed r c =
    let e = sym c.packs in
    record {
      w_upto_l = subst (λ (q : Row). q.w ≤ length_of q) e (le_of_lt c.w-below_l);
      l_small = subst (λ (q : Row). length_of q < 65_536) e c.l_small;
    }

pack-answer : (r : Row) → Right r → packed_answer (pack r) ≡ answer (entry r)
unfolding packed_answer
pack-answer r c = ap (λ (q : Row). answer (entry q)) c.packs

pub found_packed : (x : ℕ) → length_of (unpack x) ≤ most_rows → Ok (sizes (unpack x)) ≡ packed_answer x
unfolding packed_answer
found_packed x l = sym (answer-found (unpack x) l)

pub long_packed : (x : ℕ) → most_rows < length_of (unpack x) → bad_count ≡ packed_answer x
unfolding packed_answer
long_packed x l = sym (answer_long (unpack x) l)

-- the row that is found, packed
pub word-packed : (k x : ℕ) → Some x ≡ word (first k table) → Packed x
word-packed k x = go (first k table) refl
  where
    go : (e : Entry) → first k table ≡ e → Some x ≡ word e → Packed x
    go none h m = let z : ◌≡◌ {A = ℕ} 0 1 = cc in absurd (omega arith)
    go (entry r) h m =
        let e : pack r ≡ x = cc in
        subst Packed e (pack-packed r (right-at (first_smallest k 0 table table-ruled r h).inside))

pub word-answer : (k x : ℕ) → Some x ≡ word (first k table) → packed_answer x ≡ answer (first k table)
word-answer k x = go (first k table) refl
  where
    go : (e : Entry) → first k table ≡ e → Some x ≡ word e → packed_answer x ≡ answer e
    go none h m = let z : ◌≡◌ {A = ℕ} 0 1 = cc in absurd (omega arith)
    go (entry r) h m =
        let e : x ≡ pack r = cc in
        ap packed_answer e ∙ pack-answer r (right-at (first_smallest k 0 table table-ruled r h).inside)

pub none-answer : (k : ℕ) → None ≡ word (first k table) → bad_count ≡ answer (first k table)
unfolding answer
none-answer k = go (first k table)
  where
    go : (e : Entry) → None ≡ word e → bad_count ≡ answer e
    go none m = refl
    go (entry r) m = let z : ◌≡◌ {A = ℕ} 0 1 = cc in absurd (omega arith)
