-- What the programs call: the solver, over a case whose inputs are at the front of buffers, and over working rooms that are zeros.
--   given        the octet rows of a case, or none
--   rooms        working rooms for any system within the bounds
--   Calls        a call over these rooms gave this answer and left these buffers; in the rooms, whatever it leaves
--   Solves       the same of a case: it gets the front of its buffers, and the slab keeps what lies behind
--   calls_one, solves_one    two outcomes are equal
--   calls_is     a call, by what was said of its octet rows;  solves_is   a case, by how much was taken of its buffers
-- Assumes nothing.
use Rattle.std.specs.Prelude.{◌≡◌, Bool, true, false, List, ◌++◌, ℕ, length, min, replicate, take, drop, Option, Some, None}
use Rattle.std.proofs.Common.{sym, ap, ◌∙◌}
use Rattle.answers.specs.Answers.{Answer}
use Rattle.call.specs.Call.{Octets, Working, Outcome, rows_of, working, buffers, outcome, call_of}
use Rattle.systems.specs.declared.told.System.{System}

abbrev pub given : Bool → List ℕ → Option (List ℕ)
given true octets = Some octets
given false octets = None

abbrev pub rooms : Working
rooms =
    working (replicate 65536 0) (replicate 256 0) (replicate 256 0) (replicate 256 0) (replicate 256 0) (replicate 256 0) (replicate 256 0) (replicate 256 0)
    (replicate 514 0)

pub record Calls (k m t : ℕ) (bits : List ℕ) (o : Octets) (slab list order vector : List ℕ) (r : Answer) (slab' list' order' vector' : List ℕ) : Type 0 where
  pub left : Working
  pub is : outcome r (buffers slab' list' order' vector' left) ≡ call_of k m t bits o (buffers slab list order vector rooms)

pub record Solves (s : System) (bits octets slab list order vector : List ℕ) (r : Answer) (slab' list' order' vector' : List ℕ) : Type 0 where
  pub front : List ℕ
  pub called : Calls s.k s.m s.t (take (min s.bits (length bits)) bits) (rows_of (given s.octet (take (min s.octets (length octets)) octets)))
      (take (min s.slab (length slab)) slab) list order vector r front list' order' vector'
  pub behind : slab' ≡ front ++ drop (min s.slab (length slab)) slab

pub calls_one : {k m t : ℕ} {bits : List ℕ} {o : Octets} {slab list order vector slab' list' order' vector' slab'' list'' order'' vector'' : List ℕ} {r r' : Answer}
    → Calls k m t bits o slab list order vector r slab' list' order' vector' → Calls k m t bits o slab list order vector r' slab'' list'' order'' vector''
    → (r ≡ r') × (slab' ≡ slab'') × (list' ≡ list'') × (order' ≡ order'') × (vector' ≡ vector'')
calls_one x y =
    let e = x.is ∙ sym y.is in (
      ap (λ (z : Outcome). z.answer) e,
      ap (λ (z : Outcome). z.buffers.slab) e,
      ap (λ (z : Outcome). z.buffers.list) e,
      ap (λ (z : Outcome). z.buffers.order) e,
      ap (λ (z : Outcome). z.buffers.vector) e,
    )

pub solves_one : {s : System} {bits octets slab list order vector slab' list' order' vector' slab'' list'' order'' vector'' : List ℕ} {r r' : Answer}
    → Solves s bits octets slab list order vector r slab' list' order' vector' → Solves s bits octets slab list order vector r' slab'' list'' order'' vector''
    → (r ≡ r') × (slab' ≡ slab'') × (list' ≡ list'') × (order' ≡ order'') × (vector' ≡ vector'')
solves_one {s} {slab = slab} x y =
    let e = calls_one x.called y.called in
    (e.0, x.behind ∙ ap (λ (f : List ℕ). f ++ drop (min s.slab (length slab)) slab) e.1 ∙ sym y.behind, e.2, e.3, e.4)

-- a call, by what was said of its octet rows
pub calls_is : (octets : List ℕ) (b : Bool) {k m t : ℕ} {bits slab list order vector slab' list' order' vector' : List ℕ} {r : Answer} {which : Option (List ℕ)} {w : Working} → which ≡ given b octets
    → outcome r (buffers slab' list' order' vector' w) ≡ call_of k m t bits (rows_of which) (buffers slab list order vector rooms)
    → Calls k m t bits (rows_of (given b octets)) slab list order vector r slab' list' order' vector'
calls_is octets b {k} {m} {t} {bits} {slab} {list} {order} {vector} {w = w} e h =
    record { left = w; is = h ∙ ap (λ (x : Option (List ℕ)). call_of k m t bits (rows_of x) (buffers slab list order vector rooms)) e }

-- a case, by the numbers that were taken of its buffers
pub solves_is : {s : System} {bits octets slab list order vector front list' order' vector' : List ℕ} {r : Answer} {b o n : ℕ}
    → b ≡ min s.bits (length bits) → o ≡ min s.octets (length octets) → n ≡ min s.slab (length slab)
    → Calls s.k s.m s.t (take b bits) (rows_of (given s.octet (take o octets))) (take n slab) list order vector r front list' order' vector'
    → Solves s bits octets slab list order vector r (front ++ drop n slab) list' order' vector'
solves_is {s} {bits} {octets} {slab} {list} {order} {vector} {front} {list'} {order'} {vector'} {r} p q v c =
    record {
      front = front;
      called = rw (← p, ← q, ← v) c;
      behind = ap (λ (k : ℕ). front ++ drop k slab) v;
    }
