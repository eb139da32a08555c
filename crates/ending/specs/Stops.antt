-- The end of a run whose phase two met a column without pivot.
--   ending_ran       what the last phases leave, beside a vector that stays cleared
--   valuing_is       what the vector needs
--   stuck_full, stuck_ending   the list has passed the room, or fits
-- Assumes nothing.
use Rattle.std.specs.Prelude.{◌≡◌, refl, List, [], ◌++◌, ℕ, ◌+◌, ◌-◌, ◌*◌, ◌≤◌, ◌<◌, get_or, take, drop, Err}
use Rattle.std.proofs.Common.{sym, ap₂, ◌∙◌, append-nil, arith, length-append, take_at, drop_at, length-take-le}
use Rattle.std.proofs.Math.Path.{ap, subst}
use Rattle.std.proofs.Math.Bool.{true, false}
use borrow.Author.Tests.{lt-ltb, le-ltb}
use Rattle.std.proofs.Math.Dec.{ltb}
use Rattle.std.proofs.Math.ListN.{length}
use Rattle.loops.specs.Way.{halt}
use Rattle.oplist.specs.declared.Op.{Op}
use Rattle.oplist.specs.Facts.{Rows}
use Rattle.algebra.specs.Rows.{runs}
use Rattle.algebra.specs.Flat.{Bytes}
use Rattle.phases.specs.One.{Step, rows_of, pivots_of}
use Rattle.phases.specs.Rest.{by-column, by_substitution}
use Rattle.phases.specs.Run.{Run, whole, finish, answer}
use Rattle.phases.specs.Fit.{Fit}
use Rattle.phases.specs.ByPlace.{length-rows_of, length_pivots_of}
use Rattle.phases.specs.Forward.{Ended}
use Rattle.phases.proofs.Means.{ended, length-by-column}
use Rattle.tally.specs.declared.Tally.{Tally}
use Rattle.second.specs.Store.{store_of}
use Rattle.rest.specs.Columns.{placed, placed-is}
use Rattle.rest.specs.Vector.{valued, valued-is}
use Rattle.rest.specs.Vector as Vector
use Rattle.grid.specs.declared.shapes.Shape.{Shape}
use Rattle.answers.specs.Answers.{Answer}
use Rattle.answers.specs.declared.Refusal.TheVariants.{ListFull, Singular}
use Rattle.call.specs.Over.{over, blank}
use Rattle.call.specs.Call.{answer_of, told}
use Rattle.ending.specs.Ran.{as_shape, Posed, Ran}
use Rattle.ending.specs.Told.{posed_fit}
use Rattle.ending.specs.Journal.{holds_short, holds_long}
use Rattle.ending.specs.After.{Z, A, ts, os, cols, rest, columns_facts}
use Rattle.ending.specs.Then.{run_is, Stuck}
use Rattle.ending.specs.Ends.{Ending, over-placed}

pub ending_ran : (z : Shape) (bits octets : List ℕ) {n m : ℕ} {r : Answer} {list order₀ order vector : List ℕ} → n ≡ m → Ending (told (as_shape z) bits octets n) r list order₀ order
    → vector ≡ blank vector → Ran (told (as_shape z) bits octets m) r list order₀ vector order vector
ending_ran z bits octets {n} {m} {r} {list} {order₀} {order} {vector} q e b =
    subst (λ (k : ℕ). Ran (told (as_shape z) bits octets k) r list order₀ vector order vector) q
    (record {
      is = e.is;
      listed = e.listed;
      fits = e.fits;
      ordered = e.ordered;
      vectored = b ∙ ap (λ (x : List ℕ). over x vector) (sym e.no_vector);
    })

module _ (z : Shape) (bits octets : List ℕ) (P : Posed z bits octets) (hb : Bytes bits) (ho : Bytes octets) (i q : ℕ) (c d w ws : List ℕ) (two : Tally)
    (S : Stuck z bits octets i q c d w ws two) (lc : length c ≡ z.l) (ld : length d ≡ z.m) where
  abbrev T : List Step
  T = ts z bits octets

  abbrev O : List Op
  O = os z bits octets

  abbrev C : List ℕ
  C = cols z bits octets

  abbrev us : List Step
  us = S.f.st.steps

  abbrev M : ℕ → ℕ → ℕ
  M = A z bits octets

  abbrev r : Run
  r = finish (Z z bits octets) M T O C (halt S.j S.f)

  told-run : (room : ℕ) → told (Z z bits octets) bits octets room ≡ answer room r
  unfolding told
  told-run room = ap (answer room) (run_is z bits octets S.empty ∙ ap (finish (Z z bits octets) M T O C) S.way)

  fit : Fit (Z z bits octets) M
  fit = posed_fit z bits octets P hb ho

  stage : Ended z.m (runs O M) C (rest z bits octets) (length C) (halt S.j S.f)
  stage = subst (Ended z.m (runs O M) C (rest z bits octets) (length C)) S.way (ended (Z z bits octets) M fit)

  lt : length (rows_of T) ≡ i
  lt = length-rows_of T ∙ sym S.steps

  c_long : i + length C ≡ z.l
  c_long =
      sym (sym lc ∙ ap length S.columns ∙ length-append (pivots_of T) C ∙ ap (λ (x : ℕ). x + length C) (length_pivots_of T ∙ sym S.steps))

  us_long : length (rows_of us) ≡ S.j
  us_long = length-rows_of us ∙ sym (length_pivots_of us) ∙ ap length stage.0.reached ∙ length-take-le S.j C (omega (arith, stage.1))

  pub valuing_is : length w ≡ z.m * z.l → Vector.Singular w z.l c d i q
  valuing_is lw = record {
    size = lw ∙ ap (λ (x : ℕ). x * z.l) (sym ld);
    rows = record { at = λ k h. subst (λ (x : ℕ). get_or d k 0 < x) (sym ld) (S.order.rows.below k h) };
    columns = subst (Rows z.l) (sym S.columns) (columns_facts z bits octets P hb ho);
    wide = lc;
    from = omega (arith, S.place);
    upto = omega (arith, S.place, stage.1, c_long);
    tall = omega (arith, P.narrow);
  }

  chosen : take i d ≡ rows_of T
  chosen = ap (take i) S.rows ∙ take_at (rows_of T) (rows_of us ++ S.f.st.left) i lt

  behind : take (q - i) (drop i d) ≡ rows_of us
  behind =
      let e : q - i ≡ S.j = omega (arith, S.place) in
      ap₂ (λ (k : ℕ) (x : List ℕ). take k x) e (ap (drop i) S.rows ∙ drop_at (rows_of T) (rows_of us ++ S.f.st.left) i lt)
      ∙ take_at (rows_of us) S.f.st.left S.j us_long

  values_are : valued w z.l d i q ≡ by_substitution S.f.st.mat (rows_of T) (rows_of us)
  values_are =
      valued-is w z.l d i q S.f.st.mat (rows_of T) (rows_of us) (ap (λ (k : ℕ). store_of k z.l i w) ld ∙ S.mat) chosen behind

  vector_is : (v : List ℕ) → z.l ≤ length v → v ≡ blank v
      → placed z.l c (valued w z.l d i q) v ≡ over (by-column z.l (pivots_of T ++ C) (by_substitution S.f.st.mat (rows_of T) (rows_of us))) v
  vector_is v h e =
      let xs : List ℕ = by_substitution S.f.st.mat (rows_of T) (rows_of us) in
      let m : z.l ≡ length (by-column z.l (pivots_of T ++ C) xs) = sym (length-by-column z.l (pivots_of T ++ C) xs) in
      placed-is z.l c (valued w z.l d i q) v
      ∙ ap (λ (x : List ℕ). x ++ drop z.l v) (ap₂ (λ (x y : List ℕ). by-column z.l x y) S.columns values_are)
      ∙ ap (λ (k : ℕ). by-column z.l (pivots_of T ++ C) xs ++ drop k v) m
      ∙ over-placed (by-column z.l (pivots_of T ++ C) xs) v (omega (arith, m)) e

  whole_long : length (whole r) ≡ length (O ++ S.f.ops)
  whole_long = ap length (append-nil (((O ++ S.f.ops) ++ []) ++ []) ∙ append-nil ((O ++ S.f.ops) ++ []) ∙ append-nil (O ++ S.f.ops))

  pub stuck_full : (order vector : List ℕ) {room : ℕ} → length ws ≡ room → length ws < two.used → order ≡ blank order → vector ≡ blank vector
      → Ran (told (Z z bits octets) bits octets room) (Err ListFull) ws order vector order vector
  unfolding answer_of
  stuck_full order vector {room} er h a b =
      let l : length S.from < length (O ++ S.f.ops) = holds_long S.held (omega (arith, S.size)) in
      let f : ltb (length ws) (length (whole r)) ≡ true = lt-ltb (length ws) (length (whole r)) (omega (arith, S.size, whole_long)) in
      subst (λ (k : ℕ). Ran (told (Z z bits octets) bits octets k) (Err ListFull) ws order vector order vector) er
      (rw (told-run (length ws), f) (record { is = refl; listed = refl; fits = omega arith; ordered = a; vectored = b }))

  pub stuck_ending : (order vector vector' : List ℕ) {room : ℕ} → length ws ≡ room → two.used ≤ length ws → order ≡ blank order → vector ≡ blank vector → z.l ≤ length vector
      → vector' ≡ placed z.l c (valued w z.l d i q) vector → Ran (told (Z z bits octets) bits octets room) (Err Singular) ws order vector order vector'
  unfolding answer_of
  stuck_ending order vector vector' {room} er h a b k e =
      let l : length (O ++ S.f.ops) ≤ length S.from = holds_short S.held (omega (arith, S.size)) in
      let f : ltb (length ws) (length (whole r)) ≡ false = le-ltb (length ws) (length (whole r)) (omega (arith, S.size, whole_long)) in
      subst (λ (n : ℕ). Ran (told (Z z bits octets) bits octets n) (Err Singular) ws order vector order vector') er
      (rw (told-run (length ws), f) (record { is = refl; listed = refl; fits = omega arith; ordered = a; vectored = e ∙ vector_is vector k b }))
