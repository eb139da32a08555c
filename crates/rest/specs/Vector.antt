-- The vector of a Singular answer, from the working store.
--   looked v cs        the entries of v at the columns cs
--   valued             the values by place: 1 at the column without pivot, the rest by substitution
--   valued-is          the definition's `by_substitution`
--   Singular           what is needed of the store, the columns and rows by place, and the place q of the column without pivot
--   last-column        the column without pivot is one of l
--   length-valued, valued-last, valued-before   how many there are; the last is 1; each other is what its row makes of later ones
--   looked-placed      values that are in the vector are found there
--   Valuing, Weighing, valuing_part, valuing_value   what one row needs, and its part beside its columns
--   Weighed            the products from a place on are summed, as a loop from the last place to the first does
--   Substituting, substituting_start, substituting_value, substituting_next, substituting_done   the values from a place on
--                      are in the vector
-- Assumes nothing.
use Rattle.std.specs.Prelude.{◌≡◌, refl, Bool, true, false, List, [], ◌∷◌, ◌++◌, map, ℕ, zero, suc, ◌+◌, ◌*◌, ◌-◌, ◌≤◌, ◌<◌, max, ltb, length, set, take}
use Rattle.std.proofs.Common.{sym, ap₂, subst, ◌∙◌, add-one, arith, length-set, length-drop, drop_of_length-le, get_or-take, get_or-drop, take-take, drop-drop, ext_get_or, ltb-true, ltb-false}
use Rattle.std.proofs.Math.Path.{ap}
use Rattle.std.proofs.Math.ListN.{get_or, drop, length-append, get_or-append}
use Rattle.std.proofs.lemmas.List.{length-map}
use Rattle.std.proofs.Math.Seq.{take-nil, length-take-le, drop-append-add, get_or-append-add}
use Rattle.loops.specs.Part.{part, length_part, get_d_part, drop-next, row_within}
use Rattle.octet.specs.Octet.{add, mul}
use Rattle.oplist.specs.Facts.{Rows}
use Rattle.phases.specs.Rest.{weigh, values, by_substitution}
use Rattle.second.specs.Store.{store_of, row-store_of}
use Rattle.grid.specs.Grid.{Under}
use Rattle.rest.specs.Columns.{Blank, placed, placed_nothing, placed-next, placed-room, get_or-placed, Placing, placing_next, placing_end}

abbrev pub looked : List ℕ → List ℕ → List ℕ
looked v cs = map (λ (q : ℕ). get_or v q 0) cs

-- chosen are the rows at the first i places; those of phase two's columns stand behind them, up to place q
unfoldable pub valued : List ℕ → ℕ → List ℕ → ℕ → ℕ → List ℕ
valued w l d i q = by_substitution (store_of (length d) l i w) (take i d) (take (q - i) (drop i d))

pub record Singular (w : List ℕ) (l : ℕ) (c d : List ℕ) (i q : ℕ) : Type 0 where
  pub size : length w ≡ length d * l
  pub rows : Under (length d) d
  pub columns : Rows l c
  pub wide : length c ≡ l
  pub from : i ≤ q
  pub upto : q < l
  pub tall : l ≤ length d

pub valued-is : (w : List ℕ) (l : ℕ) (d : List ℕ) (i q : ℕ) (X : List (List ℕ)) (chosen rows : List ℕ)
    → store_of (length d) l i w ≡ X → take i d ≡ chosen → take (q - i) (drop i d) ≡ rows → valued w l d i q ≡ by_substitution X chosen rows
unfolding valued
valued-is w l d i q X chosen rows e f g = rw (e, f, g)

-- only as much of a row counts as there are values
weigh-take : (r xs : List ℕ) → weigh (take (length xs) r) xs ≡ weigh r xs
weigh-take [] [] = refl
weigh-take [] (x ∷ xs) = refl
weigh-take (b ∷ r) [] = refl
weigh-take (b ∷ r) (x ∷ xs) = ap (λ (n : ℕ). add n (mul b x)) (weigh-take r xs)

length-values : (X : List (List ℕ)) (p : ℕ) (ys : List ℕ) → length (values X p ys) ≡ length ys + 1
length-values X p [] = refl
length-values X p (y ∷ ys) = omega (arith, length-values X (suc p) ys)

drop-values : (X : List (List ℕ)) (p k : ℕ) (ys : List ℕ) → k ≤ length ys → drop k (values X p ys) ≡ values X (p + k) (drop k ys)
drop-values X p zero ys h = ap (λ (n : ℕ). values X n ys) (omega arith)
drop-values X p (suc k) [] h = absurd (omega arith)
drop-values X p (suc k) (y ∷ ys) h =
    let e : suc p + k ≡ p + suc k = omega arith in
    drop-values X (suc p) k ys (omega arith) ∙ ap (λ (n : ℕ). values X n (drop k ys)) e

-- the value of the kth row is what the row makes of those behind it
get_or-values : (X : List (List ℕ)) (k : ℕ) (ys : List ℕ) → k < length ys
    → get_or (values X 0 ys) k 0 ≡ weigh (drop (k + 1) (get_or X (get_or ys k 0) [])) (drop (k + 1) (values X 0 ys))
get_or-values X k ys h =
    let z : 0 + k ≡ k = omega arith in
    let s : 0 + (k + 1) ≡ suc k = omega arith in
    let a : k + 0 ≡ k = omega arith in
    ap (λ (n : ℕ). get_or (values X 0 ys) n 0) (sym a) ∙ sym (get_or-drop k (values X 0 ys) 0 0)
    ∙ ap (λ (l : List ℕ). get_or l 0 0) (drop-values X 0 k ys (omega arith) ∙ ap₂ (λ (n : ℕ) (l : List ℕ). values X n l) z (drop-next ys k h))
    ∙ ap₂ (λ (n : ℕ) (l : List ℕ). weigh (drop n (get_or X (get_or ys k 0) [])) l) (sym (add-one k))
    (sym (drop-values X 0 (k + 1) ys (omega arith) ∙ ap (λ (n : ℕ). values X n (drop (k + 1) ys)) s))

last-value : (X : List (List ℕ)) (p : ℕ) (ys : List ℕ) → get_or (values X p ys) (length ys) 0 ≡ 1
last-value X p [] = refl
last-value X p (y ∷ ys) = last-value X (suc p) ys

drop-part : (a n k : ℕ) (w : List ℕ) → drop k (part a n w) ≡ part (a + k) (n - k) w
unfolding part
drop-part a n k w = drop-take k n (drop a w) ∙ ap (take (n - k)) (drop-drop k a w)
  where
    drop-take : (k n : ℕ) (l : List ℕ) → drop k (take n l) ≡ take (n - k) (drop k l)
    drop-take zero n l = let e : n - 0 ≡ n = omega arith in rw e
    drop-take (suc k) zero l = let e : 0 - suc k ≡ 0 = omega arith in rw e
    drop-take (suc k) (suc n) [] = sym (take-nil (suc n - suc k))
    drop-take (suc k) (suc n) (x ∷ l) = let e : n - k ≡ suc n - suc k = omega arith in drop-take k n l ∙ ap (λ (m : ℕ). take m (drop k l)) e

take_part : (a n k : ℕ) (w : List ℕ) → k ≤ n → take k (part a n w) ≡ part a k w
unfolding part
take_part a n k w h = take-take k n (drop a w) h

module _ {w : List ℕ} {l : ℕ} {c d : List ℕ} {i q : ℕ} (S : Singular w l c d i q) where
  abbrev X : List (List ℕ)
  X = store_of (length d) l i w

  abbrev ys : List ℕ
  ys = take (q - i) (drop i d)

  abbrev vs : List ℕ
  vs = values X 0 ys

  abbrev firsts : List ℕ
  firsts = map (λ (x : ℕ). weigh (get_or X x []) vs) (take i d)

  length-rows : length ys ≡ q - i
  length-rows = length-take-le (q - i) (drop i d) (omega (arith, length-drop i d, S.upto, S.tall))

  length-vs : length vs ≡ q - i + 1
  length-vs = length-values X 0 ys ∙ ap (λ (n : ℕ). n + 1) length-rows

  length-firsts : length firsts ≡ i
  length-firsts = length-map (take i d) (λ (x : ℕ). weigh (get_or X x []) vs) ∙ length-take-le i d (omega (arith, S.from, S.upto, S.tall))

  pub last-column : get_or c q 0 < l
  last-column = S.columns.below q (omega (arith, S.wide, S.upto))

  pub length-valued : length (valued w l d i q) ≡ q + 1
  unfolding valued
  length-valued = length-append firsts vs ∙ omega (arith, length-firsts, length-vs, S.from)

  -- from place i + k on
  drop-valued : (k : ℕ) → drop (i + k) (valued w l d i q) ≡ drop k vs
  unfolding valued
  drop-valued k = ap (λ (n : ℕ). drop (n + k) (firsts ++ vs)) (sym length-firsts) ∙ drop-append-add firsts vs k

  get_or-valued : (k : ℕ) → get_or (valued w l d i q) (i + k) 0 ≡ get_or vs k 0
  unfolding valued
  get_or-valued k = ap (λ (n : ℕ). get_or (firsts ++ vs) (n + k) 0) (sym length-firsts) ∙ get_or-append-add firsts vs k 0

  pub valued-last : get_or (valued w l d i q) q 0 ≡ 1
  valued-last =
      let e : i + (q - i) ≡ q = omega (arith, S.from) in
      ap (λ (n : ℕ). get_or (valued w l d i q) n 0) (sym e) ∙ get_or-valued (q - i) ∙ ap (λ (n : ℕ). get_or vs n 0) (sym length-rows) ∙ last-value X 0 ys

  -- the part of a row from place i + k on makes of the values there what the whole rest of the row does
  weigh-part : (x k : ℕ) → x < length d → i + k ≤ q + 1
      → weigh (drop k (get_or X x [])) (drop (i + k) (valued w l d i q)) ≡ weigh (part (x * l + (i + k)) (q + 1 - (i + k)) w) (drop (i + k) (valued w l d i q))
  weigh-part x k h m =
      let e : length (drop (i + k) (valued w l d i q)) ≡ q + 1 - (i + k) = length-drop (i + k) (valued w l d i q) ∙ ap (λ (n : ℕ). n - (i + k)) length-valued in
      let a : x * l + i + k ≡ x * l + (i + k) = omega arith in
      ap (λ (r : List ℕ). weigh (drop k r) (drop (i + k) (valued w l d i q))) (row-store_of (length d) l i w x h)
      ∙ ap (λ (r : List ℕ). weigh r (drop (i + k) (valued w l d i q))) (drop-part (x * l + i) (l - i) k w ∙ ap (λ (n : ℕ). part n (l - i - k) w) a)
      ∙ sym (weigh-take (part (x * l + (i + k)) (l - i - k) w) (drop (i + k) (valued w l d i q)))
      ∙ ap (λ (r : List ℕ). weigh r (drop (i + k) (valued w l d i q)))
      (ap (λ (n : ℕ). take n (part (x * l + (i + k)) (l - i - k) w)) e ∙ take_part (x * l + (i + k)) (l - i - k) (q + 1 - (i + k)) w (omega (arith, S.upto)))

  get_or-firsts : (xs : List ℕ) (k : ℕ) → k < length xs → get_or (map (λ (x : ℕ). weigh (get_or X x []) vs) xs) k 0 ≡ weigh (get_or X (get_or xs k 0) []) vs
  get_or-firsts [] k m = absurd (omega arith)
  get_or-firsts (y ∷ xs) zero m = refl
  get_or-firsts (y ∷ xs) (suc k) m = get_or-firsts xs k (omega arith)

  valued-first : (p : ℕ) → p < i → get_or (valued w l d i q) p 0 ≡ weigh (get_or X (get_or d p 0) []) vs
  unfolding valued
  valued-first p j =
      get_or-append firsts vs 0 p (omega (arith, length-firsts))
      ∙ get_or-firsts (take i d) p (omega (arith, length-take-le i d (omega (arith, S.from, S.upto, S.tall))))
      ∙ ap (λ (y : ℕ). weigh (get_or X y []) vs) (get_or-take i d p 0 j)

  -- what row x makes of the values from place b on
  abbrev makes : ℕ → ℕ → ℕ
  makes x b = weigh (part (x * l + b) (q + 1 - b) w) (drop b (valued w l d i q))

  pub valued-before : (p : ℕ) → p < q → get_or (valued w l d i q) p 0 ≡ makes (get_or d p 0) (max i (p + 1))
  valued-before p h = at (ltb p i) refl
    where
      x : ℕ
      x = get_or d p 0

      low : x < length d
      low = S.rows.at p (omega (arith, S.upto, S.tall))

      at : (b : Bool) → ltb p i ≡ b → get_or (valued w l d i q) p 0 ≡ makes x (max i (p + 1))
      at true e =
          let j : p < i = ltb-true p i e in
          let z : i + 0 ≡ max i (p + 1) = omega arith in
          valued-first p j ∙ ap (λ (v : List ℕ). weigh (get_or X x []) v) (sym (drop-valued 0)) ∙ weigh-part x 0 low (omega (arith, S.from))
          ∙ ap (makes x) z
      at false e =
          let j : i ≤ p = ltb-false p i e in
          let z : i + (p - i) ≡ p = omega arith in
          let y : i + (p - i + 1) ≡ max i (p + 1) = omega arith in
          let k : p - i < length ys = omega (arith, length-rows) in
          let r : get_or ys (p - i) 0 ≡ x = get_or-take (q - i) (drop i d) (p - i) 0 (omega arith) ∙ get_or-drop i d (p - i) 0 ∙ ap (λ (n : ℕ). get_or d n 0) z in
          ap (λ (n : ℕ). get_or (valued w l d i q) n 0) (sym z) ∙ get_or-valued (p - i) ∙ get_or-values X (p - i) ys k
          ∙ ap₂ (λ (n : ℕ) (v : List ℕ). weigh (drop (p - i + 1) (get_or X n [])) v) r (sym (drop-valued (p - i + 1)))
          ∙ weigh-part x (p - i + 1) low (omega arith)
          ∙ ap (makes x) y

  -- the values from place p on are in the vector v: they are found from a place b on, up to q
  pub looked-placed : {v₀ v : List ℕ} {p : ℕ} → Placing l c (valued w l d i q) v₀ p v → (b : ℕ) → p ≤ b → b ≤ q + 1
      → looked v (part b (q + 1 - b) c) ≡ drop b (valued w l d i q)
  looked-placed {v₀} {v} {p} P b h j =
      let n : length (part b (q + 1 - b) c) ≡ q + 1 - b = length_part c b (q + 1 - b) (omega (arith, S.wide, S.upto)) in
      let m : length (looked v (part b (q + 1 - b) c)) ≡ q + 1 - b = length-map (part b (q + 1 - b) c) (λ (a : ℕ). get_or v a 0) ∙ n in
      ext_get_or 0 (looked v (part b (q + 1 - b) c)) (drop b (valued w l d i q))
      (m ∙ sym (length-drop b (valued w l d i q) ∙ ap (λ (a : ℕ). a - b) length-valued))
      (λ k e. let f : k < q + 1 - b = omega (arith, e, m) in
      at_map (part b (q + 1 - b) c) k (omega (arith, f, n))
      ∙ ap₂ (λ (s : List ℕ) (a : ℕ). get_or s a 0) P.is (get_d_part c b (q + 1 - b) k f)
      ∙ get_or-placed l p (b + k) c (valued w l d i q) v₀ S.columns (omega arith) (omega (arith, S.wide, S.upto)) (omega (arith, length-valued))
      ∙ sym (get_or-drop b (valued w l d i q) k 0))
    where
      at_map : (cs : List ℕ) (k : ℕ) → k < length cs → get_or (looked v cs) k 0 ≡ get_or v (get_or cs k 0) 0
      at_map [] k e = absurd (omega arith)
      at_map (y ∷ cs) zero e = refl
      at_map (y ∷ cs) (suc k) e = at_map cs k (omega arith)

-- what one row needs
pub record Valuing (w : List ℕ) (l x b g : ℕ) (c v : List ℕ) : Type 0 where
  pub inside : x * l + l ≤ length w
  pub from : b ≤ g
  pub upto : g ≤ l
  pub wide : g ≤ length c
  pub under : Under (length v) c

-- and its part, beside its columns
pub record Weighing (r cs v : List ℕ) : Type 0 where
  pub same : length r ≡ length cs
  pub under : Under (length v) cs

module _ {w : List ℕ} {l x b g : ℕ} {c v : List ℕ} (N : Valuing w l x b g c v) (n : ℕ) (e : n ≡ g - b) where
  pub valuing_part : Weighing (take n (drop (x * l + b) w)) (take (g - b) (drop b c)) v
  valuing_part =
      let m : length (take (g - b) (drop b c)) ≡ g - b = length-take-le (g - b) (drop b c) (omega (arith, length-drop b c, N.wide)) in
      record {
        same = length-take-le n (drop (x * l + b) w) (omega (arith, length-drop (x * l + b) w, N.inside, N.upto, N.from)) ∙ e ∙ sym m;
        under = record {
          at = λ k h. subst (λ (q : ℕ). q < length v) (sym (get_or-take (g - b) (drop b c) k 0 (omega arith) ∙ get_or-drop b c k 0))
              (N.under.at (b + k) (omega (arith, N.wide)));
        };
      }

  pub valuing_value : {r : ℕ} → r ≡ weigh (take n (drop (x * l + b) w)) (looked v (take (g - b) (drop b c)))
      → r ≡ weigh (part (x * l + b) (g - b) w) (looked v (part b (g - b) c))
  unfolding part
  valuing_value f = f ∙ ap (λ (k : ℕ). weigh (take k (drop (x * l + b) w)) (looked v (take (g - b) (drop b c)))) e

-- the products from place k on are summed
pub record Weighed (r cs v : List ℕ) (k sum : ℕ) : Type 0 where
  pub within : k ≤ length cs
  pub needs : Weighing r cs v
  pub is : sum ≡ weigh (drop k r) (looked v (drop k cs))

-- the values from place p on are in the vector
pub record Substituting (w : List ℕ) (l : ℕ) (c d : List ℕ) (i q : ℕ) (v₀ : List ℕ) (p : ℕ) (v : List ℕ) : Type 0 where
  pub needs : Singular w l c d i q
  pub upto : p ≤ q
  pub room : l ≤ length v
  pub placing : Placing l c (valued w l d i q) v₀ p v

pub substituting_start : {w : List ℕ} {l : ℕ} {c d : List ℕ} {i q : ℕ} {v : List ℕ} → Singular w l c d i q → Blank l v
    → Substituting w l c d i q (set v (get_or c q 0) 1) q (set v (get_or c q 0) 1)
substituting_start {w} {l} {c} {d} {i} {q} {v} S b =
    let s : List ℕ = valued w l d i q in
    let n : length s ≡ q + 1 = length-valued S in
    let y : get_or c q 0 < l = last-column S in
    let m : length (set v (get_or c q 0) 1) ≡ length v = length-set v (get_or c q 0) 1 in
    record {
      needs = S;
      upto = omega arith;
      room = omega (arith, b.room);
      placing = record {
        within = omega (arith, S.wide, S.upto);
        known = omega arith;
        is = sym (placed-room l (drop q c) (drop q s) v (get_or c q 0) 1 y
            ∙ ap₂ (λ (a x : List ℕ). placed l a x v) (drop-next c q (omega (arith, S.wide, S.upto))) (drop-next s q (omega arith))
            ∙ placed-next l (get_or c q 0) (get_or s q 0) (drop (q + 1) c) (drop (q + 1) s) y v
            ∙ ap₂ (λ (a : List ℕ) (x : ℕ). set (placed l (drop (q + 1) c) a v) (get_or c q 0) x) (drop_of_length-le s {i = q + 1} (omega arith)) (valued-last S)
            ∙ ap (λ (a : List ℕ). set a (get_or c q 0) 1) (placed_nothing l (drop (q + 1) c) v b));
        long = refl;
      };
    }

module _ {w : List ℕ} {l : ℕ} {c d : List ℕ} {i q : ℕ} {v₀ : List ℕ} {p : ℕ} {v : List ℕ} (U : Substituting w l c d i q v₀ p v) where
  pub substituting_value : {b : ℕ} → 0 < p → b ≡ max i (p - 1 + 1) → Valuing w l (get_or d (p - 1) 0) b (q + 1) c v
  substituting_value {b} z e =
      let S = U.needs in
      let x : get_or d (p - 1) 0 < length d = S.rows.at (p - 1) (omega (arith, U.upto, S.upto, S.tall)) in
      record {
        inside = omega (arith, row_within l (length d) (get_or d (p - 1) 0) x, S.size);
        from = omega (arith, e, S.from, U.upto);
        upto = omega (arith, S.upto);
        wide = omega (arith, S.upto, S.wide);
        under = record { at = λ k h. omega (arith, S.columns.below k h, U.room) };
      }

  pub substituting_next : {b r : ℕ} → 0 < p → b ≡ max i (p - 1 + 1)
      → r ≡ weigh (part (get_or d (p - 1) 0 * l + b) (q + 1 - b) w) (looked v (part b (q + 1 - b) c)) → Substituting w l c d i q v₀ (p - 1) (set v (get_or c (p - 1) 0) r)
  substituting_next {b} {r} z e f =
      let S = U.needs in
      let y : get_or c (p - 1) 0 < l = S.columns.below (p - 1) (omega (arith, U.upto, S.wide, S.upto)) in
      let g : r ≡ get_or (valued w l d i q) (p - 1) 0 =
      f ∙ ap (λ (vs : List ℕ). weigh (part (get_or d (p - 1) 0 * l + b) (q + 1 - b) w) vs) (looked-placed S U.placing b (omega arith) (omega (arith, S.from, U.upto)))
      ∙ ap (makes S (get_or d (p - 1) 0)) e ∙ sym (valued-before S (p - 1) (omega (arith, U.upto))) in
      record {
        needs = S;
        upto = omega (arith, U.upto);
        room = omega (arith, length-set v (get_or c (p - 1) 0) r, U.room);
        placing = placing_next U.placing z y g;
      }

-- the vector, which was v₀ before its last place was set
pub substituting_done : {w : List ℕ} {l : ℕ} {c d : List ℕ} {i q : ℕ} (v₀ : List ℕ) (y : ℕ) {p : ℕ} {v : List ℕ} → Substituting w l c d i q (set v₀ y 1) p v → y < l → p ≤ 0
    → v ≡ placed l c (valued w l d i q) v₀
substituting_done {w} {l} {c} {d} {i} {q} v₀ y U h z = placing_end U.placing z ∙ placed-room l c (valued w l d i q) v₀ y 1 h
