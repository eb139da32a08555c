-- A matrix held as a list of rows is changed by operations as the matrix is.
--   Full m u X      m rows of u entries
--   Shows m X B cols   X's columns are B's columns `cols`, in the first m rows
--   runs_append     a joined list, one part after the other
--   acts-full, shows_acts   after operations it is full, and shows what they make of the matrix
--   working-full, shows_working   so it is at first
--   get_d_map, length-range   an entry of a mapped list, and the length of a range
--   get_or-range, in_range     an entry of a range; a member lies within its bounds
--   get_or-map-range           an entry of a mapped range
-- Assumes nothing.
use Rattle.std.specs.Prelude.{◌≡◌, refl, Bool, true, false, List, [], ◌∷◌, ◌++◌, map, ℕ, zero, suc, ◌+◌, ◌≤◌, ◌<◌, eqb, length, get_or}
use Rattle.std.proofs.Common.{sym, ap, ◌∙◌, subst, inl, inr, not-suc-le-zero, suc-ne-zero, add-zero, zero-add, arith, length-set, get_or-set_same, get_or-set_other, eqb-true}
use Rattle.std.proofs.Math.Path.{fun_ext}
use Rattle.std.proofs.Math.Nat.{suc_inj}
use Rattle.std.proofs.lemmas.List.{length-map}
use Rattle.std.proofs.lemmas.Bool.{eqb-false}
use Rattle.octet.specs.Field.{add-zero as sum-zero, mul-zero}
use Rattle.octet.specs.Octet.{add, mul}
use Rattle.oplist.specs.declared.Op.{Op}
use Rattle.oplist.specs.declared.Op.TheVariants.{AddAssign, MulAssign, FMA}
use Rattle.oplist.specs.Ops.{dest, Each}
use Rattle.rule.specs.Lists.{In}
use Rattle.algebra.specs.Rows.{value, step, runs, column, run-append, run_local, Within}
use Rattle.algebra.specs.Sums.{pick}
use Rattle.phases.specs.System.{range}
use Rattle.phases.specs.Two.{at, sums, made, act, acts, working}
use Rattle.phases.specs.Occ.{Same?, yes_same, not_same, same?}

pub runs_append : (os ps : List Op) (B : ℕ → ℕ → ℕ) → runs (os ++ ps) B ≡ runs ps (runs os B)
runs_append os ps B = fun_ext (λ r. fun_ext (λ q. ap (λ (w : ℕ → ℕ). w r) (run-append os ps (column B q))))

-- rows as lists
get_or-sums : (xs ys : List ℕ) → length xs ≡ length ys → (q : ℕ) → get_or (sums xs ys) q 0 ≡ add (get_or xs q 0) (get_or ys q 0)
get_or-sums [] [] e q = sym (sum-zero 0)
get_or-sums [] (y ∷ ys) e q = absurd (suc-ne-zero (length ys) (sym e))
get_or-sums (x ∷ xs) [] e q = absurd (suc-ne-zero (length xs) e)
get_or-sums (x ∷ xs) (y ∷ ys) e zero = refl
get_or-sums (x ∷ xs) (y ∷ ys) e (suc q) = get_or-sums xs ys (suc_inj e) q

length-sums : (xs ys : List ℕ) → length xs ≡ length ys → length (sums xs ys) ≡ length xs
length-sums [] ys e = refl
length-sums (x ∷ xs) [] e = sym e
length-sums (x ∷ xs) (y ∷ ys) e = ap suc (length-sums xs ys (suc_inj e))

get_or-times : (c : ℕ) (xs : List ℕ) (q : ℕ) → get_or (map (mul c) xs) q 0 ≡ mul c (get_or xs q 0)
get_or-times c [] q = sym (mul-zero c)
get_or-times c (x ∷ xs) zero = refl
get_or-times c (x ∷ xs) (suc q) = get_or-times c xs q

pub record Full (m u : ℕ) (X : List (List ℕ)) : Type 0 where
  pub rows : length X ≡ m
  pub wide : (r : ℕ) → r < m → length (get_or X r []) ≡ u

module _ (m u : ℕ) where
  made_at : (o : Op) (X : List (List ℕ)) → Full m u X → Within m o → (q : ℕ) → get_or (made o X) q 0 ≡ value o (column (at X) q)
  made_at (AddAssign d s) X f b q = get_or-sums (get_or X d []) (get_or X s []) (f.wide d b.0 ∙ sym (f.wide s b.1)) q
  made_at (MulAssign d c) X f b q = get_or-times c (get_or X d []) q
  made_at (FMA d s c) X f b q =
      get_or-sums (get_or X d []) (map (mul c) (get_or X s []))
      (f.wide d b.0 ∙ sym (length-map (get_or X s []) (mul c) ∙ f.wide s b.1)) q
      ∙ ap (λ (k : ℕ). add (get_or (get_or X d []) q 0) k) (get_or-times c (get_or X s []) q)

  made_wide : (o : Op) (X : List (List ℕ)) → Full m u X → Within m o → length (made o X) ≡ u
  made_wide (AddAssign d s) X f b = length-sums (get_or X d []) (get_or X s []) (f.wide d b.0 ∙ sym (f.wide s b.1)) ∙ f.wide d b.0
  made_wide (MulAssign d c) X f b = length-map (get_or X d []) (mul c) ∙ f.wide d b.0
  made_wide (FMA d s c) X f b =
      length-sums (get_or X d []) (map (mul c) (get_or X s []))
      (f.wide d b.0 ∙ sym (length-map (get_or X s []) (mul c) ∙ f.wide s b.1)) ∙ f.wide d b.0

  dest_low : (o : Op) → Within m o → dest o < m
  dest_low (AddAssign d s) b = b.0
  dest_low (MulAssign d c) b = b.0
  dest_low (FMA d s c) b = b.0

  act-at : (o : Op) (X : List (List ℕ)) → Full m u X → Within m o → (r q : ℕ) → at (act o X) r q ≡ step o (column (at X) q) r
  act-at o X f b r q = go (eqb r (dest o)) refl
    where
      go : (t : Bool) → eqb r (dest o) ≡ t → at (act o X) r q ≡ pick t (value o (column (at X) q)) (at X r q)
      go true e =
          ap (λ (l : List ℕ). get_or l q 0) (ap (λ (k : ℕ). get_or (act o X) k []) (eqb-true r (dest o) e)
          ∙ get_or-set_same X (dest o) (made o X) [] (subst (λ (k : ℕ). dest o < k) (sym f.rows) (dest_low o b)))
          ∙ made_at o X f b q
      go false e = ap (λ (l : List ℕ). get_or l q 0) (get_or-set_other X (dest o) r (made o X) [] (eqb-false r (dest o) e))

  act-full : (o : Op) (X : List (List ℕ)) → Full m u X → Within m o → Full m u (act o X)
  act-full o X f b = record {
    rows = length-set X (dest o) (made o X) ∙ f.rows;
    wide = λ r l. go r l (same? r (dest o));
  }
    where
      go : (r : ℕ) → r < m → Same? r (dest o) → length (get_or (act o X) r []) ≡ u
      go r l (yes_same e) =
          ap length (ap (λ (k : ℕ). get_or (act o X) k []) e
          ∙ get_or-set_same X (dest o) (made o X) [] (subst (λ (k : ℕ). dest o < k) (sym f.rows) (dest_low o b)))
          ∙ made_wide o X f b
      go r l (not_same e) = ap length (get_or-set_other X (dest o) r (made o X) [] e) ∙ f.wide r l

  pub acts-full : (os : List Op) (X : List (List ℕ)) → Full m u X → Each (Within m) os → Full m u (acts os X)
  acts-full [] X f b = f
  acts-full (o ∷ os) X f b = acts-full os (act o X) (act-full o X f b.0) b.1

  acts-at : (os : List Op) (X : List (List ℕ)) → Full m u X → Each (Within m) os → at (acts os X) ≡ runs os (at X)
  acts-at [] X f b = refl
  acts-at (o ∷ os) X f b =
      acts-at os (act o X) (act-full o X f b.0) b.1
      ∙ ap (λ (M : ℕ → ℕ → ℕ). runs os M) (fun_ext (λ r. fun_ext (λ q. act-at o X f b.0 r q)))

  abbrev pub Shows : List (List ℕ) → (ℕ → ℕ → ℕ) → List ℕ → Type 0
  Shows X B cols = (y k : ℕ) → y < m → k < length cols → at X y k ≡ B y (get_or cols k 0)

  pub shows_acts : (os : List Op) (X : List (List ℕ)) (B : ℕ → ℕ → ℕ) (cols : List ℕ) → Full m u X → Each (Within m) os → Shows X B cols
      → Shows (acts os X) (runs os B) cols
  shows_acts os X B cols f b h y k l i =
      ap (λ (M : ℕ → ℕ → ℕ). M y k) (acts-at os X f b)
      ∙ run_local m os (column (at X) k) (column B (get_or cols k 0)) b (λ r j. h r k j i) y l

-- at first
pub get_d_map : (f : ℕ → ℕ) (l : List ℕ) (k : ℕ) → k < length l → get_or (map f l) k 0 ≡ f (get_or l k 0)
get_d_map f [] k h = absurd (not-suc-le-zero h)
get_d_map f (x ∷ l) zero h = refl
get_d_map f (x ∷ l) (suc k) h = get_d_map f l k (omega arith)

pub length-range : (a k : ℕ) → length (range a k) ≡ k
length-range a zero = refl
length-range a (suc k) = ap suc (length-range (suc a) k)

pub get_or-range : (a k j : ℕ) → j < k → get_or (range a k) j 0 ≡ a + j
get_or-range a zero j h = absurd (omega arith)
get_or-range a (suc k) zero h = omega arith
get_or-range a (suc k) (suc j) h = get_or-range (suc a) k j (omega arith) ∙ omega arith

pub in_range : (a k y : ℕ) → In y (range a k) → (a ≤ y) × (y < a + k)
in_range a zero y h = absurd h
in_range a (suc k) y (inl e) = (omega arith, omega arith)
in_range a (suc k) y (inr h) = let r = in_range (suc a) k y h in (omega (arith, r.0), omega (arith, r.1))

pub get_or-map-range : {A : Type 0} (f : ℕ → A) (a k j : ℕ) (d : A) → j < k → get_or (map f (range a k)) j d ≡ f (a + j)
get_or-map-range f a zero j d h = absurd (not-suc-le-zero h)
get_or-map-range f a (suc k) zero d h = ap f (sym (add-zero a))
get_or-map-range f a (suc k) (suc j) d h = get_or-map-range f (suc a) k j d (omega arith) ∙ ap f (omega arith)

module _ (A : ℕ → ℕ → ℕ) (m : ℕ) (cols : List ℕ) where
  row_at : (y : ℕ) → y < m → get_or (working A m cols) y [] ≡ map (A y) cols
  row_at y l = get_or-map-range (λ x. map (A x) cols) 0 m y [] l ∙ ap (λ (x : ℕ). map (A x) cols) (zero-add y)

  length-rows : (a k : ℕ) → length (map (λ x. map (A x) cols) (range a k)) ≡ k
  length-rows a zero = refl
  length-rows a (suc k) = ap suc (length-rows (suc a) k)

  pub working-full : Full m (length cols) (working A m cols)
  working-full = record {
    rows = length-rows 0 m;
    wide = λ r l. ap length (row_at r l) ∙ length-map cols (A r);
  }

  pub shows_working : Shows m (length cols) (working A m cols) A cols
  shows_working y k l i = ap (λ (w : List ℕ). get_or w k 0) (row_at y l) ∙ get_d_map (A y) cols k i
