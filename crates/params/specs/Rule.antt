-- The rule of the table: K' rises strictly from row to row, and the figures of each row are right. One test, which antt computes over the
-- whole table, and the laws that carry it to each row.
--   claims b r    what is claimed of a row r after a row with K' = b
--   ruled b t     the test of the rows t, after a row with K' = b
--   table-ruled   the table passes it
--   Right r       what holds of the figures of a row
--   right-at      every row of the table is right
--   row_at t i     the row at a place of t; zeros from its end on
--   rises-at      of two rows of the table the later has the larger K'
--   ruled-right, ruled-above   the same of any rows that pass the test;  ruled-rest   so do those after the first
--   rows          the table has 477 rows
-- Assumes nothing.
use Rattle.std.specs.Prelude.{◌≡◌, refl, Bool, true, ℕ, zero, suc, ◌+◌, ◌≤◌, ◌<◌, T, length, get_or}
use Rattle.std.proofs.Common.{sym, subst, ⊎_elim, lt_trans, le_of_suc-le-suc, not-suc-le-zero}
use mathlib.Core.List.Memᴰ
use mathlib.Core.List.{List, [], ◌∷◌, Memᴰ}
use Rattle.loops.specs.Table.{both, both_left, both_right}
use Rattle.params.specs.Table.{Row, row, table}
use Rattle.params.specs.Params.{length_of}
use Rattle.params.specs.Packed.{pack, unpack}
use Rattle.params.specs.Claims.{Claim, less, upto, same, Hold, tests, tests_hold}

-- K' rises, and W is below L; then what else later work asks of each row; and the row is its packed form's
unfoldable pub claims : ℕ → Row → List Claim
claims b r =
    less b r.k ∷
    less r.w (length_of r) ∷
    less 0 r.s ∷
    less 0 r.h ∷
    less r.s r.k ∷
    upto r.h r.k ∷
    less r.k r.w ∷
    upto r.w (r.k + r.s) ∷
    upto (r.s + length_of r) (r.w + r.w) ∷
    upto r.j 1_000 ∷
    less (length_of r) 65_536 ∷
    upto 27 (length_of r) ∷
    same (unpack (pack r)).k r.k ∷
    same (unpack (pack r)).j r.j ∷
    same (unpack (pack r)).s r.s ∷
    same (unpack (pack r)).h r.h ∷
    same (unpack (pack r)).w r.w ∷
    []

-- each row passes, after the one before it
unfoldable pub ruled : ℕ → List Row → Bool
ruled b [] = true
ruled b (r ∷ rs) = both (tests (claims b r)) (ruled r.k rs)

pub table-ruled : T (ruled 0 table)
unfolding ruled claims table
table-ruled = tt

pub record Right (r : Row) : Type 0 where
  pub w-below_l : r.w < length_of r
  pub some-s : 0 < r.s
  pub some-h : 0 < r.h
  pub s-below-k : r.s < r.k
  pub h_upto_k : r.h ≤ r.k
  pub k-below-w : r.k < r.w
  pub w_upto_ks : r.w ≤ r.k + r.s
  -- S + P ≤ W
  pub sp_upto_w : r.s + length_of r ≤ r.w + r.w
  pub j_upto : r.j ≤ 1_000
  pub l_small : length_of r < 65_536
  pub l_least : 27 ≤ length_of r
  pub packs : unpack (pack r) ≡ r

-- what the claims of a row say
right : (b : ℕ) (r : Row) → Hold (claims b r) → (b < r.k) × Right r
unfolding claims
right b r (above, (wl, (s, (h, (sk, (hk, (kw, (wks, (spw, (j, (l, (ll, (pk, (pj, (ps, (ph, (pw, _))))))))))))))))) = (
  above,
  record {
    w-below_l = wl;
    some-s = s;
    some-h = h;
    s-below-k = sk;
    h_upto_k = hk;
    k-below-w = kw;
    w_upto_ks = wks;
    sp_upto_w = spw;
    j_upto = j;
    l_small = l;
    l_least = ll;
    packs = rw (pk, pj, ps, ph, pw);
  },
)

module _ (b : ℕ) (x : Row) (xs : List Row) (h : T (ruled b (x ∷ xs))) where
  front : (b < x.k) × Right x
  unfolding ruled
  front = right b x (tests_hold (claims b x) (both_left (tests (claims b x)) (ruled x.k xs) h))

  pub ruled-rest : T (ruled x.k xs)
  unfolding ruled
  ruled-rest = both_right (tests (claims b x)) (ruled x.k xs) h

pub ruled-right : (b : ℕ) (t : List Row) → T (ruled b t) → {r : Row} → Memᴰ r t → Right r
ruled-right b [] h m = absurd (Memᴰ.not-nil m)
ruled-right b (x ∷ xs) h m =
    ⊎_elim (λ e. subst Right (sym e) (front b x xs h).1) (λ n. ruled-right x.k xs (ruled-rest b x xs h) n) (Memᴰ.cases_cons m)

pub ruled-above : (b : ℕ) (t : List Row) → T (ruled b t) → {r : Row} → Memᴰ r t → b < r.k
ruled-above b [] h m = absurd (Memᴰ.not-nil m)
ruled-above b (x ∷ xs) h m =
    let p = (front b x xs h).0 in
    ⊎_elim (λ e. subst (λ (q : Row). b < q.k) (sym e) p)
    (λ n. lt_trans p (ruled-above x.k xs (ruled-rest b x xs h) n)) (Memᴰ.cases_cons m)

pub right-at : {r : Row} → Memᴰ r table → Right r
right-at m = ruled-right 0 table table-ruled m

-- the row at a place of t; zeros from its end on
abbrev pub row_at : List Row → ℕ → Row
row_at t i = get_or t i (row 0 0 0 0 0)

row_in : (t : List Row) (i : ℕ) → i < length t → Memᴰ (row_at t i) t
row_in [] i h = absurd (not-suc-le-zero h)
row_in (x ∷ xs) zero h = Memᴰ.head refl
row_in (x ∷ xs) (suc i) h = Memᴰ.tail (row_in xs i (le_of_suc-le-suc h))

ruled-rises : (b : ℕ) (t : List Row) → T (ruled b t) → (i n : ℕ) → i < n → n < length t → (row_at t i).k < (row_at t n).k
ruled-rises b [] h i n p q = absurd (not-suc-le-zero q)
ruled-rises b (x ∷ xs) h i zero p q = absurd (not-suc-le-zero p)
ruled-rises b (x ∷ xs) h zero (suc n) p q = ruled-above x.k xs (ruled-rest b x xs h) (row_in xs n (le_of_suc-le-suc q))
ruled-rises b (x ∷ xs) h (suc i) (suc n) p q = ruled-rises x.k xs (ruled-rest b x xs h) i n (le_of_suc-le-suc p) (le_of_suc-le-suc q)

pub rises-at : (i n : ℕ) → i < n → n < length table → (row_at table i).k < (row_at table n).k
rises-at i n = ruled-rises 0 table table-ruled i n

pub rows : length table ≡ 477
unfolding table
rows = refl
