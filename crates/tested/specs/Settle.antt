-- The last part of a call: the list applied to the slab, and what then stands in the buffers.
--   settled_slab     replay of a list that the slab takes
--   settling_is      what the run left is such a list
--   ended_is         the buffers after that are those of the definition
-- Assumes nothing.
use Rattle.std.specs.Prelude.{◌≡◌, false, List, map, ℕ, ◌-◌, ◌*◌, take, drop, Ok}
use Rattle.std.proofs.Common.{ap, ◌∙◌, arith}
use Rattle.std.proofs.Math.Bool.{true}
use borrow.Author.Tests.{le-leb, eq-eqb}
use Rattle.std.proofs.Math.ListN.{length}
use Rattle.std.proofs.Math.Seq.{length-take-le}
use Rattle.oplist.specs.Word.{packed}
use Rattle.oplist.specs.Listed.{ops_of}
use Rattle.oplist.specs.Check.{shape_fine, list_fine, order_fine}
use Rattle.oplist.specs.Facts.{shape-shape_fine}
use Rattle.symbol_slab.specs.declared.Place.TheVariants.{InPlace}
use Rattle.symbol_slab.specs.Replay.{Answer as Replayed, slab_shaped, checked, Outcome as Replay, outcome as replay, replayed}
use Rattle.algebra.specs.Flat.{Bytes, acts}
use Rattle.phases.specs.Run.{Answer as Told}
use Rattle.grid.specs.declared.shapes.Shape.{Shape}
use Rattle.answers.specs.Answers.{Answer}
use Rattle.call.specs.Over.{over, over_same}
use Rattle.call.specs.Call.{Working, buffers, outcome, ended, told}
use Rattle.ending.specs.Ran.{as_shape, Posed, ops_in}
use Rattle.running.specs.Lent.{Worked}
use Rattle.tested.specs.Parts.{Settling, Settled, Slabbed}
use Rattle.ending.specs.Told.{ops_in-told, told-says, told_words}

module _ {m l t n : ℕ} {list slab : List ℕ} (s : Settling m l t n list slab) where
  front : take (n - 0) (drop 0 list) ≡ take n list
  front = let e : n - 0 ≡ n = omega arith in ap (λ (k : ℕ). take k list) e

  replay_is : (xs : List ℕ) → replayed m l t (take n list) false xs slab ≡ replay (Ok InPlace) (acts t (ops_of (take n list)) slab)
  unfolding replayed checked slab_shaped order_fine
  replay_is xs =
      let k : length (take n list) ≡ n = length-take-le n list s.within in
      let f : shape_fine m l (length (take n list)) ≡ true =
      shape-shape_fine m l (length (take n list)) (record { some = s.some; narrow = s.narrow; rows = s.few; ops = omega (arith, s.room, s.within) }) in
      rw (f, le-leb 1 t s.some_bytes, le-leb t _ s.few_bytes, eq-eqb (length slab) (m * t) s.size, s.fine)

  pub settled_slab : {r : Replayed} {slab' : List ℕ} (xs : List ℕ) → replay r slab' ≡ replayed m l t (take (n - 0) (drop 0 list)) false xs slab
      → slab' ≡ acts t (ops_of (take n list)) slab
  settled_slab xs e =
      ap (λ (o : Replay). o.slab) (e ∙ ap (λ (ws : List ℕ). replayed m l t ws false xs slab) front ∙ replay_is xs)

module _ (z : Shape) (bits octets : List ℕ) (p : Posed z bits octets) (hb : Bytes bits) (ho : Bytes octets) (t : ℕ) (slab₀ list₀ : List ℕ)
    (s : Slabbed z t list₀ slab₀) (list₁ order₀ vector₀ order₁ vector₁ : List ℕ) (r : Answer) (w₀ w₁ : Working)
    (done : Worked (told (as_shape z) bits octets (length list₀)) r list₁ order₀ vector₀ order₁ vector₁ w₀ w₁) (same : length list₁ ≡ length list₀) where
  abbrev a : Told
  a = told (as_shape z) bits octets (length list₀)

  many : ops_in r ≡ length a.list
  many = ap ops_in done.ran.is ∙ ops_in-told z bits octets p hb ho (length list₀)

  words : take (ops_in r) list₁ ≡ map packed a.list
  words = ap (λ (k : ℕ). take k list₁) many ∙ done.ran.listed

  pub settling_is : Settling z.m z.l t (ops_in r) list₁ slab₀
  settling_is =
      record {
        some = p.some;
        narrow = p.narrow;
        few = p.few;
        some_bytes = s.some_bytes;
        few_bytes = s.few_bytes;
        size = s.size;
        room = omega (arith, s.room, same);
        within = omega (arith, done.ran.fits, many);
        fine = ap (list_fine z.m) words ∙ told_words z bits octets p hb ho (length list₀);
      }

  pub ended_is : (list₂ slab₂ : List ℕ) → Settled t (ops_in r) list₁ slab₀ list₂ slab₂
      → outcome r (buffers slab₂ list₂ order₁ vector₁ w₁) ≡ ended t (buffers slab₀ list₀ order₀ vector₀ w₀) a
  ended_is list₂ slab₂ e =
      let u : slab₂ ≡ acts t a.list slab₀ =
      e.applied ∙ ap (λ (ws : List ℕ). acts t (ops_of ws) slab₀) words ∙ ap (λ (os : List _). acts t os slab₀) (told-says z bits octets p hb ho (length list₀)) in
      let v : list₂ ≡ over (map packed a.list) list₀ =
      e.kept ∙ ap (λ (ws : List ℕ). over ws list₁) words ∙ over_same (map packed a.list) list₁ list₀ same in
      rw (u, v, done.ran.is, done.ran.ordered, done.ran.vectored, done.cleared)
