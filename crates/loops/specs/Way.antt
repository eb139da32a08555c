-- Loops of steps that may stop.
--   Way           `go` with what there is so far, or `halt` at a number, after which nothing happens
--   pick_way       one of two, by a test
--   map_way        a function of what there is so far, whether it goes or halts
--   bind_way       one step more where it goes, and nothing after a halt
--   after         a step after an outcome, its operations after those recorded so far
--   for_way        a counted loop of such steps, which record operations
--   lay           the state of an outcome, beside the journal in which its operations are noted
--   run_way, run_way_lem   the same beside a journal, which does what the loop of steps does
-- Assumes nothing.
use Prim.Native.Nat.{ℕ, zero, suc, ◌+◌, ◌-◌}
use Rattle.std.specs.Prelude.{◌≡◌, Bool, true, false, ◌++◌}
use Rattle.std.proofs.Math.Path.{refl}
use Rattle.loops.specs.Loop.{for_to, up}
use Rattle.loops.specs.Room.{notes, notes-append}
use Rattle.loops.specs.Out.{Out, Run, done, at}

pub data Way (A : Type 0) : Type 0 where
  go : A → Way A
  halt : ℕ → A → Way A

abbrev pub pick_way : {A : Type 0} → Bool → Way A → Way A → Way A
pick_way true a b = a
pick_way false a b = b

abbrev pub map_way : {A B : Type 0} → (A → B) → Way A → Way B
map_way f (go a) = go (f a)
map_way f (halt c a) = halt c (f a)

abbrev pub bind_way : {A : Type 0} → Way A → (A → Way A) → Way A
bind_way (go a) f = f a
bind_way (halt c a) f = halt c a

module _ {O S : Type 0} where
  -- o, then the step f, its operations after those of o
  abbrev pub after : (S → Way (Out O S)) → Out O S → Way (Out O S)
  after f o = map_way (λ (p : Out O S). record { st = p.st; ops = o.ops ++ p.ops }) (f o.st)

  unfoldable pub for_way : ℕ → ℕ → (ℕ → S → Way (Out O S)) → S → Way (Out O S)
  for_way lo hi f s = for_to lo hi (λ (k : ℕ) (w : Way (Out O S)). bind_way w (after (f k))) (go (done s))

module _ {O J S : Type 0} (note : J → O → J) where
  abbrev pub lay : J → Out O S → Run J S
  lay g o = record { st = o.st; log = notes note g o.ops }

  abbrev pub run_way : (S → Way (Out O S)) → Run J S → Way (Run J S)
  run_way f r = map_way (lay r.log) (f r.st)

  lay-after : (g : J) (o : Out O S) (w : Way (Out O S))
      → map_way (lay (notes note g o.ops)) w ≡ map_way (lay g) (map_way (λ (p : Out O S). record { st = p.st; ops = o.ops ++ p.ops }) w)
  lay-after g o (go p) = rw notes-append
  lay-after g o (halt c p) = rw notes-append

  run_bind : (f : S → Way (Out O S)) (g : J) (w : Way (Out O S)) → bind_way (map_way (lay g) w) (run_way f) ≡ map_way (lay g) (bind_way w (after f))
  run_bind f g (go o) = lay-after g o (f o.st)
  run_bind f g (halt c o) = refl

  run_way_up : (lo n : ℕ) (f : ℕ → S → Way (Out O S)) (s : S) (g : J)
      → up lo n (λ (k : ℕ) (w : Way (Run J S)). bind_way w (run_way (f k))) (go (at s g)) ≡ map_way (lay g) (up lo n (λ (k : ℕ) (w : Way (Out O S)). bind_way w (after (f k))) (go (done s)))
  unfolding up notes
  run_way_up lo zero f s g = refl
  run_way_up lo (suc n) f s g =
      rw (run_way_up lo n f s g) (run_bind (f (lo + n)) g (up lo n (λ (k : ℕ) (w : Way (Out O S)). bind_way w (after (f k))) (go (done s))))

  pub run_way_lem : (lo hi : ℕ) (f : ℕ → S → Way (Out O S)) (s : S) (g : J)
      → for_to lo hi (λ (k : ℕ) (w : Way (Run J S)). bind_way w (run_way (f k))) (go (at s g)) ≡ run_way (for_way lo hi f) (at s g)
  unfolding for_to for_way
  run_way_lem lo hi f s g = run_way_up lo (hi - lo) f s g
