-- A call that passes the tests.
--   Refused              an outcome whose answer is 1 to 4;  refused_same   a call with such an outcome changes nothing
--   sizes_in, columns_in   the sizes that the table has for K, zeros where it has none, and L among them
--   shape_in, matrix_in    the shape and the matrix of a call;  lent_in   the shape as the code has it
--   run_in                the defined run of them;  said_in   what it answers in the list room of the call
--   Taken                a call to which none of 1 to 4 applies
--   taken-by             a call that is not refused is one;  taken_at   by its number;  taken_late   and it is not refused
--   taken_is             it is the defined run;  number_is   its number is that of the run's answer
--   tabled, facts, posed, roomed, fit   what its sizes, its lengths, its system, its rooms and its matrix have
--   order-at, vector_at  what stands in order and vector after it
-- Assumes nothing.
use Rattle.std.specs.Prelude.{◌≡◌, Bool, cond, List, ℕ, ◌≤◌, length, Ok, Err}
use Rattle.std.proofs.Math.Path.{refl, sym, ap, subst}
use Rattle.std.proofs.Common.{◌∙◌}
use Rattle.std.proofs.Math.Bool.{true, false}
use native.Mathlib.Omega.{arith}
use Rattle.std.proofs.Math.ListN.{get_or}
use Rattle.params.specs.Params.{params_of, Parameters}
use Rattle.params.specs.declared.Sizes.{Sizes}
use Rattle.algebra.specs.Flat.{Bytes}
use Rattle.phases.specs.System.{Shape as Defined, combined}
use Rattle.phases.specs.Run.{Run, defined, Answer as Told, answer}
use Rattle.phases.specs.Fit.{Fit}
use Rattle.answers.specs.declared.Refusal.TheVariants.{BadShape, BadEntry, NoRoom}
use Rattle.answers.specs.Answers.{number_of}
use Rattle.grid.specs.declared.shapes.Shape.{Shape}
use Rattle.call.specs.Over.{at-over}
use Rattle.call.specs.Call.{Octets, octets_in, rows_in, Buffers, Outcome, outcome, shaped, entered, roomy_for, ended, shape_of, told, checked, counted, call_of}
use Rattle.call.specs.Called.{answer-number}
use Rattle.ending.specs.Ran.{Posed}
use Rattle.ending.specs.Told.{posed_fit}
use Rattle.running.specs.Lent.{Roomed}
use Rattle.solver.specs.Checked.{Tabled, Shaped, shaped_facts, tabled_given, tabled_none, posed_is, roomed_is, at-run, at_table}
use Rattle.solver.specs.Said.{answer_late, answer_short}

-- refused with 1 to 4
abbrev pub Refused : Outcome → Type 0
Refused x = (1 ≤ number_of x.answer) × (number_of x.answer ≤ 4)

pub refused_same : (k m t : ℕ) (bits : List ℕ) (o : Octets) (b : Buffers) → Refused (call_of k m t bits o b) → (call_of k m t bits o b).buffers ≡ b
unfolding call_of checked told
refused_same k m t bits o b = by-table (params_of k)
  where
    Keeps : Outcome → Type 0
    Keeps x = Refused x → x.buffers ≡ b

    tests : (p q r : Bool) (x : Outcome) → Keeps x → Keeps (cond p (cond q (cond r x (outcome (Err NoRoom) b)) (outcome (Err BadEntry) b)) (outcome (Err BadShape) b))
    tests false q r x f h = refl
    tests true false r x f h = refl
    tests true true false x f h = refl
    tests true true true x f h = f h

    ran : (room : ℕ) (r : Run) → Keeps (ended t b (answer room r))
    ran room r h = absurd (answer_late room r (rw (answer-number room r) at h.0) (rw (answer-number room r) at h.1))

    by-table : (p : Parameters) → Keeps (counted p m t bits o b)
    by-table (Err _) h = refl
    by-table (Ok g) h =
        tests (shaped g.l (rows_in o g) m t (length b.list) (length bits) (length (octets_in o)) (length b.slab)) (entered g.l g.s (rows_in o g) bits)
        (roomy_for g.l m b) _ (ran (length b.list) (defined (shape_of g (rows_in o g) m) (combined (shape_of g (rows_in o g) m) bits (octets_in o)) false)) h

abbrev sizes_by : Parameters → Sizes
sizes_by (Ok g) = g
sizes_by (Err _) = record { k = 0; j = 0; s = 0; h = 0; w = 0; l = 0; p = 0 }

abbrev pub sizes_in : ℕ → Sizes
sizes_in k = sizes_by (params_of k)

abbrev pub columns_in : ℕ → ℕ
columns_in k = (sizes_in k).l

abbrev pub shape_in : (k m : ℕ) → Octets → Defined
shape_in k m o = shape_of (sizes_in k) (rows_in o (sizes_in k)) m

-- as the code has it
abbrev pub lent_in : (k m : ℕ) → Octets → Shape
lent_in k m o = let g : Sizes = sizes_in k in record { m = m; l = g.l; s = g.s; h = rows_in o g; w = g.w }

abbrev pub matrix_in : (k m : ℕ) → List ℕ → Octets → ℕ → ℕ → ℕ
matrix_in k m bits o = combined (shape_in k m o) bits (octets_in o)

abbrev pub run_in : (k m : ℕ) → List ℕ → Octets → Run
run_in k m bits o = defined (shape_in k m o) (matrix_in k m bits o) false

-- in a list room of so many operations
abbrev pub said_in : (k m : ℕ) → List ℕ → Octets → ℕ → Told
said_in k m bits o room = told (shape_in k m o) bits (octets_in o) room

pub record Taken (k m t : ℕ) (bits : List ℕ) (o : Octets) (b : Buffers) : Type 0 where
  pub table : params_of k ≡ Ok (sizes_in k)
  pub shape : shaped (columns_in k) (rows_in o (sizes_in k)) m t (length b.list) (length bits) (length (octets_in o)) (length b.slab) ≡ true
  pub entries : entered (columns_in k) (sizes_in k).s (rows_in o (sizes_in k)) bits ≡ true
  pub rooms : roomy_for (columns_in k) m b ≡ true

module _ (k m t : ℕ) (bits : List ℕ) (o : Octets) (b : Buffers) where
  pub taken-by : (Refused (call_of k m t bits o b) → ⊥) → Taken k m t bits o b
  unfolding call_of checked
  taken-by = by-table (params_of k) refl
    where
      tests : (g : Sizes) → params_of k ≡ Ok g → (x : Outcome) (p q r : Bool)
          → shaped g.l (rows_in o g) m t (length b.list) (length bits) (length (octets_in o)) (length b.slab) ≡ p
          → entered g.l g.s (rows_in o g) bits ≡ q → roomy_for g.l m b ≡ r
          → (Refused (cond p (cond q (cond r x (outcome (Err NoRoom) b)) (outcome (Err BadEntry) b)) (outcome (Err BadShape) b)) → ⊥) → Taken k m t bits o b
      tests g z x true true true e f i n =
          let y : g ≡ sizes_in k = sym (ap sizes_by z) in
          record {
            table = z ∙ ap Ok y;
            shape =
                subst (λ (c : Sizes). shaped c.l (rows_in o c) m t (length b.list) (length bits) (length (octets_in o)) (length b.slab) ≡ true) y e;
            entries = subst (λ (c : Sizes). entered c.l c.s (rows_in o c) bits ≡ true) y f;
            rooms = subst (λ (c : Sizes). roomy_for c.l m b ≡ true) y i;
          }
      tests g z x true true false e f i n = absurd (n (omega arith, omega arith))
      tests g z x true false r e f i n = absurd (n (omega arith, omega arith))
      tests g z x false q r e f i n = absurd (n (omega arith, omega arith))

      by-table : (p : Parameters) → params_of k ≡ p → (Refused (counted p m t bits o b) → ⊥) → Taken k m t bits o b
      by-table (Err _) z n = absurd (n (omega arith, omega arith))
      by-table (Ok g) z n =
          tests g z (ended t b (told (shape_of g (rows_in o g) m) bits (octets_in o) (length b.list)))
          (shaped g.l (rows_in o g) m t (length b.list) (length bits) (length (octets_in o)) (length b.slab))
          (entered g.l g.s (rows_in o g) bits) (roomy_for g.l m b) refl refl refl n

  pub taken_at : (n : ℕ) → number_of (call_of k m t bits o b).answer ≡ n → (1 ≤ n → n ≤ 4 → ⊥) → Taken k m t bits o b
  taken_at n e late = taken-by (λ r. late (rw e at r.0) (rw e at r.1))

module _ {k m t : ℕ} {bits : List ℕ} {o : Octets} {b : Buffers} (T : Taken k m t bits o b) where
  abbrev sizes : Sizes
  sizes = sizes_in k

  abbrev said : Told
  said = said_in k m bits o (length b.list)

  pub taken_is : call_of k m t bits o b ≡ ended t b said
  taken_is = sym (at-run sizes (rows_in o sizes) m t bits (octets_in o) b T.shape T.entries T.rooms ∙ at_table k m t bits o b sizes T.table)

  pub number_is : number_of (call_of k m t bits o b).answer ≡ (answer (length b.list) (run_in k m bits o)).number
  unfolding told
  number_is = ap (λ (x : Outcome). number_of x.answer) taken_is ∙ answer-number (length b.list) (run_in k m bits o)

  pub taken_late : Refused (call_of k m t bits o b) → ⊥
  taken_late r = answer_late (length b.list) (run_in k m bits o) (rw number_is at r.0) (rw number_is at r.1)

  pub tabled : Tabled sizes (rows_in o sizes)
  tabled = at o
    where
      at : (p : Octets) → Tabled sizes (rows_in p sizes)
      at (Octets.given xs) = tabled_given k sizes T.table
      at Octets.none = tabled_none k sizes T.table

  pub facts : Shaped (columns_in k) (rows_in o sizes) m t (length b.list) (length bits) (length (octets_in o)) (length b.slab)
  facts = shaped_facts _ _ _ _ _ _ _ _ T.shape

  pub posed : Posed (lent_in k m o) bits (octets_in o)
  posed = posed_is tabled bits (octets_in o) facts T.entries

  pub roomed : Roomed (lent_in k m o) b.order b.vector b.rooms
  roomed = roomed_is (lent_in k m o) b.order b.vector b.rooms T.rooms

  pub fit : Bytes bits → Bytes (octets_in o) → Fit (shape_in k m o) (matrix_in k m bits o)
  fit hb ho = posed_fit (lent_in k m o) bits (octets_in o) posed hb ho

  pub order-at : (j : ℕ) → get_or (call_of k m t bits o b).buffers.order j 0 ≡ get_or said.order j 0
  unfolding told
  order-at j =
      ap (λ (x : Outcome). get_or x.buffers.order j 0) taken_is
      ∙ at-over said.order b.order j (omega (arith, (answer_short (shape_in k m o) (matrix_in k m bits o) (length b.list)).0, roomed.order-room))

  pub vector_at : (j : ℕ) → get_or (call_of k m t bits o b).buffers.vector j 0 ≡ get_or said.vector j 0
  unfolding told
  vector_at j =
      ap (λ (x : Outcome). get_or x.buffers.vector j 0) taken_is
      ∙ at-over said.vector b.vector j (omega (arith, (answer_short (shape_in k m o) (matrix_in k m bits o) (length b.list)).1, roomed.vector_room))
