-- The combined matrix of a call is a system that the definition takes.
--   combined_binary   any other row
--   combined_fit      where every byte is one, and binary entries outside the ignored rows are 0 or 1
-- Assumes nothing.
use Rattle.std.specs.Prelude.{◌≡◌, ◌⊎◌, Bool, true, false, cond, ◌&&◌, List, ℕ, ◌+◌, ◌-◌, ◌<◌, ◌≤◌, leb, ltb, get_or}
use Rattle.std.proofs.Common.{sym, subst, inl, inr, arith, le-ltb, le-leb}
use Rattle.std.proofs.lemmas.Bool.{lt-leb}
use Rattle.loops.specs.Entry.{entry_at, entry-any}
use Rattle.octet.specs.Field.{Octet}
use Rattle.phases.specs.System.{Shape, combined, first_rows, octet_rows}
use Rattle.phases.specs.Occ.{occ-append, occ-range, Member}
use Rattle.phases.specs.Fit.{Fit, less?}
use Rattle.phases.proofs.Fit.{rows_once, rows-below}

module _ (z : Shape) (binary octets : List ℕ) where
  pub combined_binary : (x q : ℕ) → (x < z.s) ⊎ (z.s + z.h ≤ x) → combined z binary octets x q ≡ entry_at z.n binary x q
  combined_binary x q (inl a) = rw (lt-leb z.s x a)
  combined_binary x q (inr a) = rw (le-leb z.s x (omega arith), le-ltb x (z.s + z.h) a)

  -- a row that may be chosen is no octet row
  not_octet : z.s + z.h + z.h ≤ z.m → (x : ℕ) → Member (first_rows z) x → (x < z.s) ⊎ (z.s + z.h ≤ x)
  not_octet fits x i = go (less? x z.s) (less? x (z.s + z.h))
    where
      go : (x < z.s) ⊎ (z.s ≤ x) → (x < z.s + z.h) ⊎ (z.s + z.h ≤ x) → (x < z.s) ⊎ (z.s + z.h ≤ x)
      go (inl a) b = inl a
      go (inr a) (inr b) = inr b
      go (inr a) (inl b) =
          absurd (omega (arith, (occ-range z.s z.h x).inside a b, rows_once z fits x, occ-append x (first_rows z) (octet_rows z)))

  pub combined_fit : ((i : ℕ) → Octet (get_or binary i 0)) → ((i : ℕ) → Octet (get_or octets i 0))
      → ((x q : ℕ) → x < z.m → (x < z.s) ⊎ (z.s + z.h ≤ x) → entry_at z.n binary x q ≤ 1)
      → z.s + z.h + z.h ≤ z.m → z.w ≤ z.n → Fit z (combined z binary octets)
  combined_fit hb ho bits rows cols = record {
    entries = λ x q. either x q (leb z.s x && ltb x (z.s + z.h));
    binary = λ x q i l. subst (λ (c : ℕ). c ≤ 1) (sym (combined_binary x q (not_octet rows x i)))
        (bits x q (rows-below z rows x (omega (arith, occ-append x (first_rows z) (octet_rows z)))) (not_octet rows x i));
    rows_fit = rows;
    cols_fit = cols;
  }
    where
      either : (x q : ℕ) (b : Bool) → Octet (cond b (entry_at z.n octets (x - z.s) q) (entry_at z.n binary x q))
      either x q true = entry-any z.n octets (x - z.s) q Octet (omega arith) ho
      either x q false = entry-any z.n binary x q Octet (omega arith) hb
