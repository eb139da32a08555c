-- The verdict on a call: what it is refused for, or the shape that it is taken with.
--   if_given            a number that counts only where octet rows are given
--   lengths_of          the lengths of what is lent
--   shape_in            the shape of m rows with the sizes of the table and h octet rows
--   judged             the verdict, by the count, the matrix and the lengths
--   tabled_is          the sizes that a verdict goes by
--   judge_count, judge_shape, judge_entry, judge_room, judge_taken   the verdict, test by test;  rooms_tell   the test of the rooms
--   refused-is         a refused call is the definition's
--   Flagged, flagged_is   octet rows as a flag and entries, as the code has them
--   Ready, ready_is    what it has, and that its run is the definition's
-- Assumes nothing.
use Rattle.std.specs.Prelude.{◌≡◌, Bool, true, false, cond, ℕ, [], Option, Some, None, is_some, unwrap_or, option_map, Result, Ok, Err}
use Rattle.std.proofs.Math.Path.{refl, ap, ap₂}
use Rattle.std.proofs.Common.{sym, ◌∙◌, arith}
use mathlib.Core.List.{List}
use Rattle.std.proofs.Math.ListN.{length}
use Rattle.params.specs.Params.{params_of, Parameters, bad_count}
use Rattle.params.specs.declared.Sizes.{Sizes}
use Rattle.answers.specs.declared.Rooms.{Rooms}
use Rattle.answers.specs.declared.Refusal.{Refusal}
use Rattle.answers.specs.declared.Refusal.TheVariants.{BadCount, BadShape, BadEntry, NoRoom}
use Rattle.answers.specs.Rooms.{rooms_of}
use Rattle.grid.specs.declared.shapes.Shape.{Shape}
use Rattle.call.specs.Call.{Octets, octets_in, rows_in, rows_of, Buffers, Outcome, outcome, shaped, entered, roomy_in, roomy_for, shape_of, told, ended, checked, call_of}
use Rattle.ending.specs.Ran.{as_shape, Posed}
use Rattle.running.specs.Lent.{Roomed}
use Rattle.tested.specs.Parts.{Slabbed}
use Rattle.call.specs.declared.Lengths.{Lengths}
use Rattle.solver.specs.Checked.{Tabled, shaped_facts, tabled_given, tabled_none, posed_is, roomed_is, slabbed_is, at_count, at_table}

unfoldable pub if_given : Bool → ℕ → ℕ
if_given true n = n
if_given false n = 0

abbrev pub lengths_of : List ℕ → Buffers → Lengths
lengths_of octets b =
    record {
      octets = length octets;
      slab = length b.slab;
      list = length b.list;
      order = length b.order;
      vector = length b.vector;
      work = length b.rooms.work;
      scratch = length b.rooms.scratch;
      columns = length b.rooms.columns;
      rows = length b.rooms.rows;
      ones = length b.rooms.ones;
      degrees = length b.rooms.degrees;
      singles = length b.rooms.singles;
      labels = length b.rooms.labels;
      sizes = length b.rooms.sizes;
    }

abbrev pub shape_in : Sizes → ℕ → ℕ → Shape
shape_in g h m = record { m = m; l = g.l; s = g.s; h = h; w = g.w }

abbrev Verdict : Type 0
Verdict = Result Shape Refusal

-- the lowest of 2, 3 and 4 that applies
abbrev verdict : (shape entry room : Bool) → Shape → Verdict
verdict shape entry room z = cond shape (cond entry (cond room (Ok z) (Err NoRoom)) (Err BadEntry)) (Err BadShape)

abbrev tests : Sizes → (h m t : ℕ) → List ℕ → Lengths → Verdict
tests g h m t bits z =
    verdict (shaped g.l h m t z.list (length bits) z.octets z.slab) (entered g.l g.s h bits) (roomy_in (rooms_of m g.l) z) (shape_in g h m)

abbrev by_table : Parameters → (m t : ℕ) → List ℕ → Bool → Lengths → Verdict
by_table (Ok g) m t bits o z = tests g (if_given o g.h) m t bits z
by_table (Err _) m t bits o z = Err BadCount

unfoldable pub judged : (k m t : ℕ) → List ℕ → Bool → Lengths → Verdict
judged k m t bits o z = by_table (params_of k) m t bits o z

pub tabled_is : (k : ℕ) (g : Sizes) {h : ℕ} (o : Bool) → params_of k ≡ Ok g → h ≡ if_given o g.h → Tabled g h
unfolding if_given
tabled_is k g true e f = rw f (tabled_given k g e)
tabled_is k g false e f = rw f (tabled_none k g e)

module _ (k m t : ℕ) (bits : List ℕ) (o : Bool) (z : Lengths) where
  pub judge_count : params_of k ≡ bad_count → Err BadCount ≡ judged k m t bits o z
  unfolding judged
  judge_count e = rw e

  module _ {h : ℕ} {g : Sizes} (e : params_of k ≡ Ok g) (u : h ≡ if_given o g.h) where
    abbrev shape : Bool
    shape = shaped g.l h m t z.list (length bits) z.octets z.slab

    is-judged : tests g h m t bits z ≡ judged k m t bits o z
    unfolding judged
    is-judged = rw (e, u)

    abbrev entry : Bool
    entry = entered g.l g.s h bits

    abbrev room : Bool
    room = roomy_in (rooms_of m g.l) z

    abbrev by : Bool → Bool → Bool → Verdict
    by x y r = verdict x y r (shape_in g h m)

    pub judge_shape : shape ≡ false → Err BadShape ≡ judged k m t bits o z
    judge_shape a = sym (ap (λ (x : Bool). by x entry room) a) ∙ is-judged

    pub judge_entry : shape ≡ true → entry ≡ false → Err BadEntry ≡ judged k m t bits o z
    judge_entry a b = sym (ap₂ (λ (x y : Bool). by x y room) a b) ∙ is-judged

    by-room : {r : Bool} → shape ≡ true → entry ≡ true → room ≡ r → by true true r ≡ judged k m t bits o z
    by-room a b c = sym (ap₂ (λ (x y : Bool). by x y room) a b ∙ ap (by true true) c) ∙ is-judged

    pub judge_room : shape ≡ true → entry ≡ true → room ≡ false → Err NoRoom ≡ judged k m t bits o z
    judge_room a b c = by-room a b c

    pub judge_taken : shape ≡ true → entry ≡ true → room ≡ true → Ok (shape_in g h m) ≡ judged k m t bits o z
    judge_taken a b c = by-room a b c

-- octet rows as a flag and entries: those that are given, or none
pub record Flagged (o : Bool) (octets : List ℕ) (q : Octets) : Type 0 where
  pub count : (g : Sizes) → if_given o g.h ≡ rows_in q g
  pub entries : octets_in q ≡ octets

pub flagged_is : {R : Type 0} (now : R → List ℕ) (q : Option R) {o : Bool} {none r : R} → o ≡ is_some q → r ≡ unwrap_or q none → now none ≡ []
    → Flagged o (now r) (rows_of (option_map now q))
unfolding if_given rows_of
flagged_is now (Some x) e f n = rw (e, f) (record { count = λ g. refl; entries = refl })
flagged_is now None e f n = rw (e, f) (record { count = λ g. refl; entries = sym n })

pub record Ready (k m t : ℕ) (bits octets : List ℕ) (q : Octets) (b : Buffers) (z : Shape) : Type 0 where
  pub posed : Posed z bits octets
  pub roomed : Roomed z b.order b.vector b.rooms
  pub slabbed : Slabbed z t b.list b.slab
  pub is : ended t b (told (as_shape z) bits octets (length b.list)) ≡ call_of k m t bits q b

-- a verdict's parts; what else stands here is never asked
abbrev refusal : Verdict → Refusal
refusal (Err a) = a
refusal (Ok z) = BadCount

abbrev shaped_as : Shape → Verdict → Shape
shaped_as d (Err a) = d
shaped_as d (Ok z) = z

abbrev refuses : Verdict → ℕ
refuses (Err a) = 1
refuses (Ok z) = 0

apart : {a : Refusal} {z : Shape} {P : Type 0} → ◌≡◌ {A = Verdict} (Err a) (Ok z) → P
apart e = let f = ap refuses e in absurd (omega arith)

module _ (k m t : ℕ) (bits : List ℕ) {o : Bool} {octets : List ℕ} {q : Octets} (y : Flagged o octets q) (b : Buffers) where
  abbrev call : Outcome
  call = call_of k m t bits q b

  abbrev verdict_in : Parameters → Verdict
  verdict_in p = by_table p m t bits o (lengths_of octets b)

  -- sizes of the table, with h octet rows
  module _ {g : Sizes} (e : params_of k ≡ Ok g) where
    abbrev h : ℕ
    h = if_given o g.h

    abbrev shaped_in : Bool
    shaped_in = shaped g.l h m t (length b.list) (length bits) (length octets) (length b.slab)

    abbrev entered_in : Bool
    entered_in = entered g.l g.s h bits

    abbrev roomed_in : Bool
    roomed_in = roomy_for g.l m b

    -- the definition's tests
    abbrev by_tests : Bool → Bool → Bool → Outcome
    by_tests x y z =
        cond x (cond y (cond z (ended t b (told (shape_of g h m) bits octets (length b.list))) (outcome (Err NoRoom) b)) (outcome (Err BadEntry) b)) (outcome (Err BadShape) b)

    is_call : by_tests shaped_in entered_in roomed_in ≡ call
    unfolding checked
    is_call = ap₂ (λ (i : ℕ) (xs : List ℕ). checked g i m t bits xs b) (y.count g) (sym y.entries) ∙ at_table k m t bits q b g e

    refused-at : {a : Refusal} (x y z : Bool) → Err a ≡ verdict x y z (shape_in g h m) → outcome (Err a) b ≡ by_tests x y z
    refused-at false y z f = ap (λ (v : Verdict). outcome (Err (refusal v)) b) f
    refused-at true false z f = ap (λ (v : Verdict). outcome (Err (refusal v)) b) f
    refused-at true true false f = ap (λ (v : Verdict). outcome (Err (refusal v)) b) f
    refused-at true true true f = apart f

    ready_at : shaped_in ≡ true → entered_in ≡ true → roomed_in ≡ true → Ready k m t bits octets q b (shape_in g h m)
    ready_at x y z =
        let s = shaped_facts _ _ _ _ _ _ _ _ x in
        let p = tabled_is k g o e refl in
        record {
          posed = posed_is p bits _ s y;
          roomed = roomed_is (shape_in g h m) b.order b.vector b.rooms z;
          slabbed = slabbed_is g.s g.w b.list b.slab s;
          is = sym (ap₂ (λ (i j : Bool). by_tests i j roomed_in) x y ∙ ap (by_tests true true) z) ∙ is_call;
        }

    taken_at : {z : Shape} (x y r : Bool) → shaped_in ≡ x → entered_in ≡ y → roomed_in ≡ r → Ok z ≡ verdict x y r (shape_in g h m)
        → Ready k m t bits octets q b z
    taken_at false y r a c d f = apart (sym f)
    taken_at true false r a c d f = apart (sym f)
    taken_at true true false a c d f = apart (sym f)
    taken_at {z} true true true a c d f = rw (ap (shaped_as z) f) (ready_at a c d)

  pub refused-is : {a : Refusal} → Err a ≡ judged k m t bits o (lengths_of octets b) → outcome (Err a) b ≡ call
  unfolding judged
  refused-is {a} f = at (params_of k) refl f
    where
      at : (p : Parameters) → params_of k ≡ p → Err a ≡ verdict_in p → outcome (Err a) b ≡ call
      at (Err _) e f = ap (λ (v : Verdict). outcome (Err (refusal v)) b) f ∙ at_count k m t bits q b e
      at (Ok g) e f = refused-at e (shaped_in e) (entered_in e) (roomed_in e) f ∙ is_call e

  pub ready_is : {z : Shape} → Ok z ≡ judged k m t bits o (lengths_of octets b) → Ready k m t bits octets q b z
  unfolding judged
  ready_is {z} f = at (params_of k) refl f
    where
      at : (p : Parameters) → params_of k ≡ p → Ok z ≡ verdict_in p → Ready k m t bits octets q b z
      at (Err _) e f = apart (sym f)
      at (Ok g) e f = taken_at e (shaped_in e) (entered_in e) (roomed_in e) refl refl refl f

-- the rooms that were asked are those of the formula
pub rooms_tell : {x y : Bool} {r : Rooms} (l m : ℕ) (n : Lengths) → r ≡ rooms_of m l → x ≡ roomy_in r n → x ≡ y → roomy_in (rooms_of m l) n ≡ y
rooms_tell l m n e f g = rw (sym e, sym f, g)
