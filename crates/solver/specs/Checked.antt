-- The tests of a call, and what a call that passed them has.
--   Tabled                 sizes of the table, with h octet rows;  tabled_given, tabled_none   they are so with their octet rows and without
--   Shaped, shaped_facts   the bounds and the lengths, each by itself
--   few_octets, entering, posed_is, roomed_is, slabbed_is   what the parts of a call need
--   at-shape, at_entry, at_room, at-run   the definition, test by test
--   at_count, at_table     the definition, by the table
-- Assumes nothing.
use Rattle.std.specs.Prelude.{◌≡◌, Bool, true, false, List, [], ℕ, ◌+◌, ◌*◌, ◌≤◌, leb, eqb, length, Ok, Err}
use Rattle.std.proofs.Common.{arith, leb-true, eqb-true}
use Rattle.bounds.specs.Bounds.{most_rows, most_bytes, most_ops}
use Rattle.params.specs.Params.{params_of, bad_count}
use Rattle.params.specs.Answers.{sized}
use Rattle.params.specs.declared.Sizes.{Sizes}
use Rattle.oplist.specs.Facts.{and_left, and_right}
use Rattle.grid.specs.declared.shapes.Shape.{Shape}
use Rattle.answers.specs.declared.Refusal.TheVariants.{BadCount, BadShape, BadEntry, NoRoom}
use Rattle.call.specs.Call.{Octets, octets_in, rows_in, Working, Buffers, buffers, outcome, shaped, entered, roomy, roomy_for, shape_of, told, ended, checked, call_of}
use Rattle.ending.specs.Ran.{Posed}
use Rattle.running.specs.Lent.{Roomed}
use Rattle.tested.specs.Parts.{Slabbed}

pub record Tabled (g : Sizes) (h : ℕ) : Type 0 where
  pub some : 1 ≤ g.l
  pub most : g.l ≤ most_rows
  pub rows_fit : g.s + h + h ≤ g.l
  pub cols_fit : g.w ≤ g.l

pub record Shaped (l h m t list bits octets slab : ℕ) : Type 0 where
  pub narrow : l ≤ m
  pub few : m ≤ most_rows
  pub some_bytes : 1 ≤ t
  pub few_bytes : t ≤ most_bytes
  pub room : list ≤ most_ops
  pub bits_size : bits ≡ m * l
  pub octets_size : octets ≡ h * l
  pub slab_size : slab ≡ m * t

pub shaped_facts : (l h m t list bits octets slab : ℕ) → shaped l h m t list bits octets slab ≡ true → Shaped l h m t list bits octets slab
unfolding shaped
shaped_facts l h m t list bits octets slab e =
    let a = and_right (leb l m) _ e in
    let b = and_right (leb m most_rows) _ a in
    let c = and_right (leb 1 t) _ b in
    let d = and_right (leb t most_bytes) _ c in
    let f = and_right (leb list most_ops) _ d in
    let g = and_right (eqb bits (m * l)) _ f in
    record {
      narrow = leb-true l m (and_left (leb l m) _ e);
      few = leb-true m most_rows (and_left (leb m most_rows) _ a);
      some_bytes = leb-true 1 t (and_left (leb 1 t) _ b);
      few_bytes = leb-true t most_bytes (and_left (leb t most_bytes) _ c);
      room = leb-true list most_ops (and_left (leb list most_ops) _ d);
      bits_size = eqb-true bits (m * l) (and_left (eqb bits (m * l)) _ f);
      octets_size = eqb-true octets (h * l) (and_left (eqb octets (h * l)) _ g);
      slab_size = eqb-true slab (m * t) (and_right (eqb octets (h * l)) _ g);
    }

pub tabled_given : (k : ℕ) (g : Sizes) → params_of k ≡ Ok g → Tabled g g.h
tabled_given k g e =
    let s = sized k g e in
    record { some = s.some_l; most = s.most_l; rows_fit = s.shh_upto_l; cols_fit = omega (arith, s.w-below_l) }

pub tabled_none : (k : ℕ) (g : Sizes) → params_of k ≡ Ok g → Tabled g 0
tabled_none k g e =
    let s = sized k g e in
    record { some = s.some_l; most = s.most_l; rows_fit = omega (arith, s.shh_upto_l); cols_fit = omega (arith, s.w-below_l) }

module _ {g : Sizes} {h : ℕ} (q : Tabled g h) where
  pub few_octets : (g.l ≤ most_rows) × (h ≤ most_rows)
  few_octets = (q.most, omega (arith, q.most, q.rows_fit))

  module _ {m t list octets slab : ℕ} (bits : List ℕ) (s : Shaped g.l h m t list (length bits) octets slab) where
    pub entering : (length bits ≡ m * g.l) × (g.s + h ≤ m) × (m ≤ most_rows) × (g.l ≤ most_rows)
    entering = (s.bits_size, omega (arith, q.rows_fit, s.narrow), s.few, q.most)

  pub posed_is : {m t list slab : ℕ} (bits octets : List ℕ) → Shaped g.l h m t list (length bits) (length octets) slab → entered g.l g.s h bits ≡ true
      → Posed (record { m = m; l = g.l; s = g.s; h = h; w = g.w }) bits octets
  posed_is bits octets s e =
      record {
        some = q.some;
        narrow = s.narrow;
        few = s.few;
        rows_fit = omega (arith, q.rows_fit, s.narrow);
        cols_fit = q.cols_fit;
        bits_size = s.bits_size;
        octets_size = s.octets_size;
        entries = e;
      }

pub slabbed_is : {l h m t bits octets : ℕ} (s w : ℕ) (list slab : List ℕ) → Shaped l h m t (length list) bits octets (length slab)
    → Slabbed (record { m = m; l = l; s = s; h = h; w = w }) t list slab
slabbed_is s w list slab f = record { some_bytes = f.some_bytes; few_bytes = f.few_bytes; size = f.slab_size; room = f.room }

pub roomed_is : (z : Shape) (order vector : List ℕ) (w : Working) → roomy_for z.l z.m (buffers [] [] order vector w) ≡ true → Roomed z order vector w
unfolding roomy
roomed_is z order vector w e =
    let a = and_right (leb z.l (length order)) _ e in
    let b = and_right (leb z.l (length vector)) _ a in
    let c = and_right (leb (z.m * z.l) (length w.work)) _ b in
    let d = and_right (leb z.l (length w.scratch)) _ c in
    let f = and_right (leb z.l (length w.columns)) _ d in
    let g = and_right (leb z.m (length w.rows)) _ f in
    let h = and_right (leb z.m (length w.ones)) _ g in
    let i = and_right (leb z.m (length w.degrees)) _ h in
    let j = and_right (leb z.m (length w.singles)) _ i in
    record {
      order-room = leb-true _ _ (and_left (leb z.l (length order)) _ e);
      vector_room = leb-true _ _ (and_left (leb z.l (length vector)) _ a);
      work_room = leb-true _ _ (and_left (leb (z.m * z.l) (length w.work)) _ b);
      scratch_room = leb-true _ _ (and_left (leb z.l (length w.scratch)) _ c);
      columns_room = leb-true _ _ (and_left (leb z.l (length w.columns)) _ d);
      rows-room = leb-true _ _ (and_left (leb z.m (length w.rows)) _ f);
      ones-room = leb-true _ _ (and_left (leb z.m (length w.ones)) _ g);
      degrees_room = leb-true _ _ (and_left (leb z.m (length w.degrees)) _ h);
      singles_room = leb-true _ _ (and_left (leb z.m (length w.singles)) _ i);
      labels_room = leb-true _ _ (and_left (leb z.l (length w.labels)) _ j);
      sizes-room = leb-true _ _ (and_right (leb z.l (length w.labels)) _ j);
    }

module _ (g : Sizes) (h m t : ℕ) (bits octets : List ℕ) (b : Buffers) where
  abbrev shape : Bool
  shape = shaped g.l h m t (length b.list) (length bits) (length octets) (length b.slab)

  pub at-shape : shape ≡ false → outcome (Err BadShape) b ≡ checked g h m t bits octets b
  unfolding checked
  at-shape e = rw e

  pub at_entry : shape ≡ true → entered g.l g.s h bits ≡ false → outcome (Err BadEntry) b ≡ checked g h m t bits octets b
  unfolding checked
  at_entry e f = rw (e, f)

  pub at_room : shape ≡ true → entered g.l g.s h bits ≡ true → roomy_for g.l m b ≡ false → outcome (Err NoRoom) b ≡ checked g h m t bits octets b
  unfolding checked
  at_room e f i = rw (e, f, i)

  pub at-run : shape ≡ true → entered g.l g.s h bits ≡ true → roomy_for g.l m b ≡ true
      → ended t b (told (shape_of g h m) bits octets (length b.list)) ≡ checked g h m t bits octets b
  unfolding checked
  at-run e f i = rw (e, f, i)

module _ (k m t : ℕ) (bits : List ℕ) (o : Octets) (b : Buffers) where
  pub at_count : params_of k ≡ bad_count → outcome (Err BadCount) b ≡ call_of k m t bits o b
  unfolding call_of
  at_count e = rw e

  pub at_table : (g : Sizes) → params_of k ≡ Ok g → checked g (rows_in o g) m t bits (octets_in o) b ≡ call_of k m t bits o b
  unfolding call_of
  at_table g e = rw e
