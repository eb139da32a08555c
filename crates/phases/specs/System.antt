-- The system to be solved, as the solver sees it.
--   Shape                     how many rows and columns, which rows are octet rows, how many columns V has at first
--   range a k                 the k numbers from a on
--   combined                  the entry of row x in column q, from the two flat lists that a caller gives
--   first_rows, octet_rows    the rows at first, by place: those that may be chosen, and the octet rows, which stand last
-- Assumes nothing.
use Rattle.std.specs.Prelude.{cond, ◌&&◌, List, [], ◌∷◌, ◌++◌, ℕ, zero, suc, ◌+◌, ◌-◌, leb, ltb}
use Rattle.loops.specs.Entry.{entry_at}

-- m rows, n columns (M and L), h octet rows (H; 0 without) from row s on (S), and w columns of V at first (W): RFC 6330, 5.6 and 5.4.2.2
pub record Shape : Type 0 where
  pub m : ℕ
  pub n : ℕ
  pub s : ℕ
  pub h : ℕ
  pub w : ℕ

abbrev pub range : ℕ → ℕ → List ℕ
range a zero = []
range a (suc k) = a ∷ range (suc a) k

-- row s + j is octet row j, whatever the binary matrix holds there
abbrev pub combined : Shape → List ℕ → List ℕ → ℕ → ℕ → ℕ
combined z binary octets x q =
    cond (leb z.s x && ltb x (z.s + z.h)) (entry_at z.n octets (x - z.s) q) (entry_at z.n binary x q)

-- the octet rows are exchanged, one by one, with the last h rows
abbrev pub first_rows : Shape → List ℕ
first_rows z = range 0 z.s ++ range (z.m - z.h) z.h ++ range (z.s + z.h) (z.m - (z.s + z.h + z.h))

abbrev pub octet_rows : Shape → List ℕ
octet_rows z = range z.s z.h
