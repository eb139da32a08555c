-- What a call promises, from its definition: of any call by the number of its answer. k is K, m the rows, t the bytes of a symbol.
--   call-one             two outcomes that meet the statement are equal
--   call_blind           symbol bytes affect only symbol bytes;  Alike   two outcomes are the same but for the slab
--   full_exactly         5 exactly when the tests pass and the defined list exceeds the room
--   slab_same            no answer but 0 changes a symbol
--   report_solved        0: the counts are those of the defined list;  report_zeros   any other: zeros
--   listed, ordered      the words of the list room that the answer counts, and the L entries of the order room
--   replay_finishes      0: `slab::replay` of that list, with that order or none, makes the finished slab of the received one
--   undo_restores        0: `slab::undo` of it makes the received slab of the finished one, every byte
--   set_recovered        0: where the received symbols are what the matrix makes of a set, the slab read through the order is that set
--   set_only             0: and no other set makes them
--   agreed               0: some set makes the received symbols exactly when the finished rows that the order does not name are zeros
--   listed-whole         0: the list in the room is that of the defined run
--   shaped-after         0: the matrix has the shape of RFC 6330, 5.4.2.3 to 5.4.2.6, after each phase, and each column is exactly one step's
--   permitted_each       not 1 to 4: every row that phase one chooses is one that RFC 6330, 5.4.2.2 permits in the matrix as it stands then
--   shaped-first         and the matrix has the shape of 5.4.2.2 after each of its steps
--   no_pivot_blank       6: columns are left in V, and no eligible row has a nonzero there
--   vector_nulled        7: the matrix sends the vector to zeros; it is 1 at the column without pivot and 0 at the later ones
--   singular_never       7: and no list of operations reduces the matrix
-- A call that is refused with 1 to 4 changes nothing: refused_same, in Taken.
-- Assumes nothing.
use Rattle.std.specs.Prelude.{◌≡◌, ◌≢◌, ◌↔◌, Bool, cond, ℕ, ◌+◌, ◌*◌, ◌≤◌, ◌<◌, eqb, get_or, Ok, Err}
use Rattle.std.proofs.Math.Path.{refl, sym, ap, subst, fun_ext}
use Rattle.std.proofs.Common.{◌∙◌, get_or-take}
use Rattle.std.proofs.Math.Bool.{true, false}
use mathlib.Core.List.{List, ◌++◌, map}
use Rattle.std.proofs.Math.Option.{some}
use native.Mathlib.Omega.{arith}
use borrow.Author.Tests.{leb-true, leb-false, le-leb, eq-eqb, eqb-true}
use Rattle.std.proofs.Math.Dec.{leb}
use Rattle.std.proofs.Math.ListN.{length, take, length-map}
use Rattle.std.proofs.Math.Seq.{length-take-le}
use Rattle.params.specs.Params.{params_of, Parameters}
use Rattle.oplist.specs.declared.Op.{Op}
use Rattle.oplist.specs.declared.Op.TheVariants.{AddAssign, MulAssign, FMA}
use Rattle.oplist.specs.Ops.{Nonzero, each_map}
use Rattle.oplist.specs.Word.{packed}
use Rattle.oplist.specs.Listed.{ops_of}
use Rattle.bounds.specs.Bounds.{most_ops}
use Rattle.oplist.specs.Check.{shape_fine, list_fine, order_fine, undoable}
use Rattle.oplist.specs.Facts.{Rows, shape-shape_fine, order-order_fine, each-undoable}
use Rattle.algebra.specs.Sums.{delta, pick}
use Rattle.algebra.specs.Rows.{Good, runs, undo}
use Rattle.algebra.specs.Solve.{Unnamed, Reduces}
use Rattle.algebra.specs.Flat.{Bytes, acts}
use Rattle.algebra.proofs.Flat.{length-acts, undo-acts}
use Rattle.algebra.specs.Slab.{Source, through}
use Rattle.algebra.proofs.Slab.{solved, only, report}
use Rattle.symbol_slab.specs.declared.Place.TheVariants.{InPlace}
use Rattle.symbol_slab.specs.Replay.{read_by, slab_shaped, checked as slabChecked, outcome as slabbed, replayed, undone}
use Rattle.rule.specs.Permitted.{Permitted}
use Rattle.rule.specs.Rule.{chosen}
use Rattle.phases.specs.System.{Shape, octet_rows}
use Rattle.phases.specs.One.{Step, Phase, one, degree, phase_after, phase_one}
use Rattle.phases.specs.Run.{Run, solved as ends-solved, whole, Answer as Told}
use Rattle.phases.specs.Choices.{standing}
use Rattle.phases.proofs.Choices.{permitted_then}
use Rattle.phases.specs.Means.{Nulled, Blank}
use Rattle.phases.specs.Shape.{First, Shapes}
use Rattle.phases.proofs.Shape.{first-shape, shapes}
use Rattle.phases.proofs.Answers.{solved_reduces, singular_nulled}
use Rattle.phases.proofs.Answers as Endsp
use Rattle.answers.specs.declared.Report.{Report}
use Rattle.answers.specs.Answers.{Answer}
use Rattle.answers.specs.declared.Refusal.TheVariants.{BadCount, BadShape, BadEntry, NoRoom}
use Rattle.answers.specs.Answers.{number_of, no_report, report_in, report_none}
use Rattle.call.specs.Over.{over, length_over, take-over}
use Rattle.call.specs.Call.{Octets, octets_in, rows_in, Working, Buffers, buffers, Outcome, outcome, shaped, entered, roomy_for, ended, shape_of, told, checked, counted, call_of}
use Rattle.ending.specs.Told.{told-says, told_words}
use Rattle.solver.specs.Said.{tallied, answer_listless, answer_fits, answer_report, answer-tallied}
use Rattle.solver.specs.Taken.{Refused, refused_same, columns_in, shape_in, lent_in, matrix_in, run_in, said_in, Taken, taken-by, taken_at, taken_is, number_is, tabled, facts, posed, roomed, fit, order-at, vector_at}

pub call-one : (k m t : ℕ) (bits : List ℕ) (o : Octets) (b : Buffers) (x y : Outcome) → x ≡ call_of k m t bits o b → y ≡ call_of k m t bits o b → x ≡ y
call-one k m t bits o b x y e f = e ∙ sym f

-- the same answer, and the same buffers but the slab
pub record Alike (x y : Outcome) : Type 0 where
  pub answer : x.answer ≡ y.answer
  pub list : x.buffers.list ≡ y.buffers.list
  pub order : x.buffers.order ≡ y.buffers.order
  pub vector : x.buffers.vector ≡ y.buffers.vector
  pub rooms : x.buffers.rooms ≡ y.buffers.rooms

pub call_blind : (k m t : ℕ) (bits : List ℕ) (o : Octets) (slab slab' list order vector : List ℕ) (w : Working) → length slab ≡ length slab'
    → Alike (call_of k m t bits o (buffers slab list order vector w)) (call_of k m t bits o (buffers slab' list order vector w))
unfolding call_of checked
call_blind k m t bits o slab slab' list order vector w e = by-table (params_of k)
  where
    same : (a : Answer) → Alike (outcome a (buffers slab list order vector w)) (outcome a (buffers slab' list order vector w))
    same a = record { answer = refl; list = refl; order = refl; vector = refl; rooms = refl }

    tests : (p q r : Bool) (a : Told)
        → Alike (cond p (cond q (cond r (ended t (buffers slab list order vector w) a) (outcome (Err NoRoom) (buffers slab list order vector w))) (outcome (Err BadEntry) (buffers slab list order vector w))) (outcome (Err BadShape) (buffers slab list order vector w)))
        (cond p (cond q (cond r (ended t (buffers slab' list order vector w) a) (outcome (Err NoRoom) (buffers slab' list order vector w))) (outcome (Err BadEntry) (buffers slab' list order vector w))) (outcome (Err BadShape) (buffers slab' list order vector w)))
    tests false q r a = same (Err BadShape)
    tests true false r a = same (Err BadEntry)
    tests true true false a = same (Err NoRoom)
    tests true true true a = record { answer = refl; list = refl; order = refl; vector = refl; rooms = refl }

    by-table : (p : Parameters) → Alike (counted p m t bits o (buffers slab list order vector w)) (counted p m t bits o (buffers slab' list order vector w))
    by-table (Err _) = same (Err BadCount)
    by-table (Ok g) =
        rw e (tests (shaped g.l (rows_in o g) m t (length list) (length bits) (length (octets_in o)) (length slab')) (entered g.l g.s (rows_in o g) bits)
        (roomy_for g.l m (buffers slab list order vector w)) (told (shape_of g (rows_in o g) m) bits (octets_in o) (length list)))

-- the words of the list room that the answer counts, and the order in the order room
abbrev pub listed : Outcome → List ℕ
listed x = take (report_in x.answer).operations x.buffers.list

abbrev pub ordered : ℕ → Outcome → List ℕ
ordered k x = take (columns_in k) x.buffers.order

module _ (k m t : ℕ) (bits : List ℕ) (o : Octets) (b : Buffers) where
  abbrev after : Outcome
  after = call_of k m t bits o b

  abbrev room : ℕ
  room = length b.list

  abbrev run : Run
  run = run_in k m bits o

  abbrev z : Shape
  z = shape_in k m o

  abbrev matrix : ℕ → ℕ → ℕ
  matrix = matrix_in k m bits o

  abbrev said : Told
  said = said_in k m bits o room

  pub full_exactly : (number_of after.answer ≡ 5) ↔ (Taken k m t bits o b × (length b.list < length (whole (run_in k m bits o))))
  full_exactly =
      let f = Endsp.full_exactly room run in
      (λ e. let T = taken_at k m t bits o b 5 e (λ h i. omega arith) in (T, f.0 (sym (number_is T) ∙ e)), λ h. number_is h.0 ∙ f.1 h.1)

  pub slab_same : number_of after.answer ≢ 0 → after.buffers.slab ≡ b.slab
  unfolding told acts
  slab_same n = at (leb (number_of after.answer) 4) refl
    where
      at : (q : Bool) → leb (number_of after.answer) 4 ≡ q → after.buffers.slab ≡ b.slab
      at true e =
          let h : number_of after.answer ≤ 4 = leb-true (number_of after.answer) 4 e in
          ap (λ (x : Buffers). x.slab) (refused_same k m t bits o b (omega arith, h))
      at false e =
          let h : 4 < number_of after.answer = leb-false (number_of after.answer) 4 e in
          let T = taken-by k m t bits o b (λ r. omega (arith, r.1)) in
          ap (λ (x : Outcome). x.buffers.slab) (taken_is T)
          ∙ ap (λ (os : List Op). acts t os b.slab) (answer_listless room run (λ z. n (number_is T ∙ z)))

  pub report_solved : number_of after.answer ≡ 0 → report_in after.answer ≡ tallied (run_in k m bits o)
  unfolding told
  report_solved e =
      let T = taken_at k m t bits o b 0 e (λ h i. omega arith) in
      ap (λ (x : Outcome). report_in x.answer) (taken_is T) ∙ answer_report room run ∙ answer-tallied room run (sym (number_is T) ∙ e)

  pub report_zeros : number_of after.answer ≢ 0 → report_in after.answer ≡ no_report
  report_zeros = report_none after.answer

  module _ (hb : Bytes bits) (ho : Bytes (octets_in o)) where
    module _ (e : number_of after.answer ≡ 0) where
      T : Taken k m t bits o b
      T = taken_at k m t bits o b 0 e (λ h i. omega arith)

      reduces : Reduces m (columns_in k) said.list matrix (λ j. get_or after.buffers.order j 0)
      unfolding told
      reduces =
          subst (Reduces m (columns_in k) said.list matrix) (sym (fun_ext (order-at T)))
          (solved_reduces z matrix (fit T hb ho) room false (sym (number_is T) ∙ e))

      slab_is : after.buffers.slab ≡ acts t said.list b.slab
      slab_is = ap (λ (x : Outcome). x.buffers.slab) (taken_is T)

      fits : length (map packed said.list) ≤ room
      unfolding told
      fits = omega (arith, answer_fits room run, length-map said.list packed)

      words : listed after ≡ map packed said.list
      unfolding told
      words =
          ap listed (taken_is T)
          ∙ ap (λ (i : ℕ). take i (over (map packed said.list) b.list))
          (ap (λ (r : Report). r.operations) (answer_report room run) ∙ sym (length-map said.list packed))
          ∙ take-over (map packed said.list) b.list fits

      says : ops_of (listed after) ≡ said.list
      says = ap ops_of words ∙ told-says (lent_in k m o) bits (octets_in o) (posed T) hb ho room

      size-after : length after.buffers.slab ≡ m * t
      size-after = ap length slab_is ∙ length-acts m t said.list b.slab (facts T).slab_size reduces.within

      order-room : columns_in k ≤ length after.buffers.order
      order-room = rw (taken_is T) (rw (length_over said.order b.order) (roomed T).order-room)

      rows : Rows m (ordered k after)
      rows =
          record {
            below = λ i h. let q : i < columns_in k = omega (arith, size) in rw (get_or-take (columns_in k) after.buffers.order i 0 q) (reduces.place i q);
            apart = λ i j h l q.
                let p : i < columns_in k = omega (arith, size) in
                let r : j < columns_in k = omega (arith, size) in
                same i j p r (sym (get_or-take (columns_in k) after.buffers.order i 0 p) ∙ q ∙ get_or-take (columns_in k) after.buffers.order j 0 r);
          }
        where
          size : length (ordered k after) ≡ columns_in k
          size = length-take-le (columns_in k) after.buffers.order order-room

          at : (i j : ℕ) (c : Bool) → eqb i j ≡ c → delta i j ≡ 1 → i ≡ j
          at i j true f g = eqb-true i j f
          at i j false f g = let z : ◌≡◌ {A = ℕ} 0 1 = rw f at g in absurd (omega arith)

          same : (i j : ℕ) → i < columns_in k → j < columns_in k → get_or after.buffers.order i 0 ≡ get_or after.buffers.order j 0 → i ≡ j
          same i j p r q =
              at i j (eqb i j) refl
              (sym (reduces.unit i j p r) ∙ ap (λ (x : ℕ). runs said.list matrix x j) q ∙ reduces.unit j j r r
              ∙ ap (λ (c : Bool). pick c 1 0) (eq-eqb j j refl))

      abbrev Asked : Bool → List ℕ → Type 0
      Asked with-order xs = with-order ≡ true → xs ≡ ordered k after

      order_fine_lem : (f : Bool) (xs : List ℕ) → Asked f xs → order_fine m (columns_in k) f xs ≡ true
      unfolding order_fine
      order_fine_lem false xs h = refl
      order_fine_lem true xs h =
          ap (order_fine m (columns_in k) true) (h refl)
          ∙ order-order_fine m (columns_in k) (ordered k after) (record { size = length-take-le (columns_in k) after.buffers.order order-room; rows = rows })

      shape_fine_lem : (s : List ℕ) → length s ≡ m * t → slab_shaped m (columns_in k) t (length (listed after)) (length s) ≡ true
      unfolding slab_shaped
      shape_fine_lem s z =
          let n : length (listed after) ≤ most_ops = omega (arith, ap length words, fits, (facts T).room) in
          let p : shape_fine m (columns_in k) (length (listed after)) ≡ true =
          shape-shape_fine m (columns_in k) (length (listed after)) (record { some = (tabled T).some; narrow = (facts T).narrow; rows = (facts T).few; ops = n }) in
          rw (p, le-leb 1 t (facts T).some_bytes, le-leb t _ (facts T).few_bytes, eq-eqb (length s) (m * t) z)

      list_fine_lem : list_fine m (listed after) ≡ true
      list_fine_lem = ap (list_fine m) words ∙ told_words (lent_in k m o) bits (octets_in o) (posed T) hb ho room

      can : undoable (ops_of (listed after)) ≡ true
      can = ap undoable says ∙ each-undoable said.list (each_map Good Nonzero at said.list reduces.good)
        where
          at : (q : Op) → Good q → Nonzero q
          at (AddAssign d s) g = tt
          at (MulAssign d c) g = g.1
          at (FMA d s c) g = tt

      -- f says whether an order is given: then it is that of the order room
      pub replay_finishes : (f : Bool) (xs : List ℕ) → (f ≡ true → xs ≡ ordered k after)
          → replayed m (columns_in k) t (listed after) f xs b.slab ≡ slabbed (read_by f) after.buffers.slab
      unfolding replayed slabChecked
      replay_finishes f xs h =
          rw (shape_fine_lem b.slab (facts T).slab_size, list_fine_lem, order_fine_lem f xs h)
          (ap (slabbed (read_by f)) (ap (λ (os : List Op). acts t os b.slab) says ∙ sym slab_is))

      module _ (hs : Bytes b.slab) where
        pub undo_restores : (f : Bool) (xs : List ℕ) → (f ≡ true → xs ≡ ordered k after)
            → undone m (columns_in k) t (listed after) f xs after.buffers.slab ≡ slabbed (Ok InPlace) b.slab
        unfolding undone slabChecked
        undo_restores f xs h =
            rw (shape_fine_lem after.buffers.slab size-after, list_fine_lem, order_fine_lem f xs h, can)
            (ap (slabbed (Ok InPlace)) (ap (λ (os : List Op). acts t (undo os) after.buffers.slab) says ∙ ap (acts t (undo said.list)) slab_is
            ∙ undo-acts m t (facts T).some_bytes said.list b.slab (facts T).slab_size hs reduces.good reduces.within))

        -- C, L rows of T bytes, is a set that the matrix makes the received symbols of
        pub set_recovered : (C : List ℕ) → Source m (columns_in k) t matrix C b.slab
            → through (columns_in k) t (λ j. get_or after.buffers.order j 0) after.buffers.slab ≡ C
        set_recovered C S =
            ap (through (columns_in k) t (λ j. get_or after.buffers.order j 0)) slab_is
            ∙ solved m (columns_in k) t said.list matrix (λ j. get_or after.buffers.order j 0) reduces (facts T).some_bytes b.slab (facts T).slab_size hs C S

        pub set_only : (C E : List ℕ) → Source m (columns_in k) t matrix C b.slab → Source m (columns_in k) t matrix E b.slab → C ≡ E
        set_only C E S U =
            only m (columns_in k) t said.list matrix (λ j. get_or after.buffers.order j 0) reduces (facts T).some_bytes b.slab (facts T).slab_size hs C E S U

        pub agreed : ((C : List ℕ) × Source m (columns_in k) t matrix C b.slab)
            ↔ ((r : ℕ) → r < m → Unnamed (columns_in k) (λ j. get_or after.buffers.order j 0) r → (i : ℕ) → i < t → get_or after.buffers.slab (r * t + i) 0 ≡ 0)
        agreed =
            subst (λ (s : List ℕ). ((C : List ℕ) × Source m (columns_in k) t matrix C b.slab)
            ↔ ((r : ℕ) → r < m → Unnamed (columns_in k) (λ j. get_or after.buffers.order j 0) r → (i : ℕ) → i < t → get_or s (r * t + i) 0 ≡ 0)) (sym slab_is)
            (report m (columns_in k) t said.list matrix (λ j. get_or after.buffers.order j 0) reduces (facts T).some_bytes b.slab (facts T).slab_size hs)

      solved_run : ((run_in k m bits o).end ≡ ends-solved said.order) × (said.list ≡ whole (run_in k m bits o))
      unfolding told
      solved_run = Endsp.solved_end room run (sym (number_is T) ∙ e)

      pub listed-whole : ops_of (listed after) ≡ whole (run_in k m bits o)
      listed-whole = says ∙ solved_run.1

      -- by phase one's steps and some steps of phase two
      pub shaped-after : (us : List Step) × Shapes z matrix (phase_one matrix z).steps us ((phase_one matrix z).now.elig ++ octet_rows z) (run_in k m bits o)
      shaped-after = shapes z matrix (fit T hb ho) false said.order solved_run.0

    module _ (accepted : Refused after → ⊥) (j : ℕ) where
      -- after j steps
      abbrev p : Phase
      p = phase_after matrix z j

      pub permitted_each : (x : ℕ) → chosen (one matrix) (degree matrix z) p.now ≡ some x
          → Permitted (one (standing z matrix j)) (degree matrix z) p.now.cols p.now.elig x
      permitted_each = permitted_then z matrix (fit (taken-by k m t bits o b accepted) hb ho) j

      pub shaped-first : First m matrix (standing z matrix j) p.steps (p.now.elig ++ octet_rows z) p.now.cols
      shaped-first = first-shape z matrix (fit (taken-by k m t bits o b accepted) hb ho) j

    pub no_pivot_blank : number_of after.answer ≡ 6 → Blank z matrix (run_in k m bits o).one
    no_pivot_blank e =
        let T = taken_at k m t bits o b 6 e (λ h i. omega arith) in
        Endsp.no_pivot_blank z matrix (fit T hb ho) room false (sym (number_is T) ∙ e)

    pub vector_nulled : number_of after.answer ≡ 7 → Nulled z matrix (λ j. get_or after.buffers.vector j 0)
    unfolding told
    vector_nulled e =
        let T = taken_at k m t bits o b 7 e (λ h i. omega arith) in
        subst (Nulled z matrix) (sym (fun_ext (vector_at T))) (singular_nulled z matrix (fit T hb ho) room false (sym (number_is T) ∙ e))

    pub singular_never : number_of after.answer ≡ 7 → (ps : List Op) (order : ℕ → ℕ) → Reduces m (columns_in k) ps matrix order → ⊥
    singular_never e =
        let T = taken_at k m t bits o b 7 e (λ h i. omega arith) in Endsp.singular_never z matrix (fit T hb ho) room false (sym (number_is T) ∙ e)
