-- What `params_of` answers: the sizes of the smallest K' that is not below k, and BadCount exactly where there is none to give.
--   at_zero, at_some, answer-found, answer_long   the answer case by case
--   Finds k z r      z are the sizes of the row r for k;  found, finds    params_of gives z exactly there
--   Refused k        there are none to give;              bad, refused    params_of gives BadCount exactly there
--   number_of        the number of the answer for k
--   answered         the answer keeps the promise of `params`
--   one-outcome      two outcomes that keep it are equal
--   Sized k z        the rule of the sizes z found for k;  sized   they keep it
-- Assumes nothing.
use Rattle.std.specs.Prelude.{◌≡◌, refl, ◌≢◌, ◌⊎◌, Bool, true, false, ℕ, ◌+◌, ◌≤◌, ◌<◌, leb, eqb, Ok}
use Rattle.std.proofs.Common.{sym, ap, ◌∙◌, subst, inl, inr, ⊎_elim, ne_of_gt, eq-zero-or-pos, arith, le-leb, ne_eqb}
use mathlib.Core.List.{Memᴰ}
use Rattle.std.proofs.lemmas.Bool.{lt-leb}
use Rattle.params.specs.Table.{Row, table}
use Rattle.bounds.specs.Bounds.{most_rows}
use Rattle.params.specs.Params.{Parameters, Entry, entry, none, pick, first, length_of, sizes, bad_count, answer, params_of, number, entry_refusal, refusal_of, Answered}
use Rattle.params.specs.Rule.{Right, table-ruled, right-at}
use Rattle.params.specs.Smallest.{Smallest, within, first_smallest, smallest_first, first-none, none_first}
use Rattle.params.specs.declared.Sizes.{Sizes}

pub at_zero : (k : ℕ) → k ≡ 0 → params_of k ≡ bad_count
unfolding params_of
at_zero k h = rw h

pub at_some : (k : ℕ) → k ≢ 0 → params_of k ≡ answer (first k table)
unfolding params_of
at_some k h = rw (ne_eqb k 0 h)

pub answer-found : (r : Row) → length_of r ≤ most_rows → answer (entry r) ≡ Ok (sizes r)
unfolding answer
answer-found r h = rw (le-leb (length_of r) most_rows h)

pub answer_long : (r : Row) → most_rows < length_of r → answer (entry r) ≡ bad_count
unfolding answer
answer_long r h = rw (lt-leb (length_of r) most_rows h)

-- z are the sizes of the row for k, and L is within the bound
pub record Finds (k : ℕ) (z : Sizes) (r : Row) : Type 0 where
  pub some : 0 < k
  pub smallest : Smallest k table r
  pub fits : length_of r ≤ most_rows
  pub is : z ≡ sizes r

-- k is 0, or above each K', or L of its row exceeds the bound
pub data Refused (k : ℕ) : Type 0 where
  empty : k ≡ 0 → Refused k
  above : ((q : Row) → Memᴰ q table → q.k < k) → Refused k
  long : (r : Row) → Smallest k table r → most_rows < length_of r → Refused k

pub finds : (k : ℕ) (z : Sizes) (r : Row) → Finds k z r → params_of k ≡ Ok z
finds k z r f =
    at_some k (ne_of_gt f.some) ∙ ap answer (smallest_first k 0 table table-ruled r f.smallest) ∙ answer-found r f.fits ∙ ap Ok (sym f.is)

-- a k whose entry is refused is refused, 0 or not
entry_bad : (k : ℕ) (e : Entry) → first k table ≡ e → answer e ≡ bad_count → params_of k ≡ bad_count
entry_bad k e d b = ⊎_elim (at_zero k) (λ p. at_some k (ne_of_gt p) ∙ ap answer d ∙ b) (eq-zero-or-pos k)

pub refused : (k : ℕ) → Refused k → params_of k ≡ bad_count
unfolding answer
refused k (empty e) = at_zero k e
refused k (above h) = entry_bad k none (none_first k table h) refl
refused k (long r s l) = entry_bad k (entry r) (smallest_first k 0 table table-ruled r s) (answer_long r l)

-- each k is found or refused
decide : (k : ℕ) → ((r : Row) × Finds k (sizes r) r) ⊎ Refused k
decide k = ⊎_elim (λ e. inr (empty e)) some (eq-zero-or-pos k)
  where
    some : 0 < k → ((r : Row) × Finds k (sizes r) r) ⊎ Refused k
    some p = go (first k table) refl
      where
        go : (e : Entry) → first k table ≡ e → ((r : Row) × Finds k (sizes r) r) ⊎ Refused k
        go none e = inr (above (first-none k table e))
        go (entry r) e =
            let s = first_smallest k 0 table table-ruled r e in
            ⊎_elim (λ l. inl (r, record { some = p; smallest = s; fits = l; is = refl })) (λ l. inr (long r s l)) (within (length_of r) most_rows)

pub found : (k : ℕ) (z : Sizes) → params_of k ≡ Ok z → (r : Row) × Finds k z r
found k z e =
    ⊎_elim
    (λ (f : (r : Row) × Finds k (sizes r) r).
    let g = finds k (sizes f.0) f.0 f.1 in
    let d : z ≡ sizes f.0 = cc in
    (f.0, record { some = f.1.some; smallest = f.1.smallest; fits = f.1.fits; is = d }))
    (λ (q : Refused k). let b = refused k q in absurd (let n : ◌≡◌ {A = ℕ} 0 1 = cc in omega arith))
    (decide k)

pub bad : (k : ℕ) → params_of k ≡ bad_count → Refused k
bad k e =
    ⊎_elim
    (λ (f : (r : Row) × Finds k (sizes r) r).
    let g = finds k (sizes f.0) f.0 f.1 in
    absurd (let n : ◌≡◌ {A = ℕ} 0 1 = cc in omega arith))
    (λ (q : Refused k). q)
    (decide k)

pick-number : (b : Bool) (z : Sizes) → number (pick b (Ok z) bad_count) ≡ pick b 0 1
pick-number true z = refl
pick-number false z = refl

entry-number : (e : Entry) → number (answer e) ≡ entry_refusal e
unfolding answer entry_refusal
entry-number none = refl
entry-number (entry r) = pick-number (leb (length_of r) most_rows) (sizes r)

pub number_of : (k : ℕ) → number (params_of k) ≡ refusal_of k
unfolding params_of refusal_of
number_of k = go (eqb k 0)
  where
    go : (b : Bool) → number (pick b bad_count (answer (first k table))) ≡ pick b 1 (entry_refusal (first k table))
    go true = refl
    go false = entry-number (first k table)

pub answered : (k : ℕ) (a : Parameters) → a ≡ params_of k → Answered k a
answered k a e = record { is = e; numbered = ap number e ∙ number_of k }

pub one-outcome : (k : ℕ) (a b : Parameters) → Answered k a → Answered k b → a ≡ b
one-outcome k a b p q = p.is ∙ sym q.is

pub record Sized (k : ℕ) (z : Sizes) : Type 0 where
  pub some : 0 < k
  pub reaches : k ≤ z.k
  pub is_l : z.l ≡ z.k + z.s + z.h
  pub is-p : z.l ≡ z.w + z.p
  pub some_l : 0 < z.l
  pub least_l : 27 ≤ z.l
  pub most_l : z.l ≤ most_rows
  pub some-s : 0 < z.s
  pub some-h : 0 < z.h
  pub some-p : 0 < z.p
  pub j_upto : z.j ≤ 1_000
  pub w-below_l : z.w < z.l
  pub s-below-k : z.s < z.k
  pub h_upto_k : z.h ≤ z.k
  pub p_upto_k : z.p ≤ z.k
  pub k-below-w : z.k < z.w
  pub w_upto_ks : z.w ≤ z.k + z.s
  pub h_upto_p : z.h ≤ z.p
  pub p_upto_sh : z.p ≤ z.s + z.h
  pub sh_upto_w : z.s + z.h ≤ z.w
  pub sp_upto_w : z.s + z.p ≤ z.w
  pub shh_upto_l : z.s + z.h + z.h ≤ z.l

-- the figures of a right row that is found for k
sized_row : (k : ℕ) (r : Row) → 0 < k → k ≤ r.k → length_of r ≤ most_rows → Right r → Sized k (sizes r)
sized_row k r some reaches most c =
    record {
      some = some;
      reaches = reaches;
      is_l = refl;
      is-p = omega arith;
      some_l = omega arith;
      least_l = c.l_least;
      most_l = most;
      some-s = c.some-s;
      some-h = c.some-h;
      some-p = omega arith;
      j_upto = c.j_upto;
      w-below_l = c.w-below_l;
      s-below-k = c.s-below-k;
      h_upto_k = c.h_upto_k;
      p_upto_k = omega arith;
      k-below-w = c.k-below-w;
      w_upto_ks = c.w_upto_ks;
      h_upto_p = omega arith;
      p_upto_sh = omega arith;
      sh_upto_w = omega arith;
      sp_upto_w = omega arith;
      shh_upto_l = omega arith;
    }

pub sized : (k : ℕ) (z : Sizes) → params_of k ≡ Ok z → Sized k z
sized k z e =
    let f = found k z e in
    let s = f.1.smallest in
    subst (Sized k) (sym f.1.is) (sized_row k f.0 f.1.some s.reaches f.1.fits (right-at s.inside))
