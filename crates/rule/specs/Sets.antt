-- Lists of numbers as finite sets: the laws of specs/Lists.
--   bool_or, tf                  a truth value is one of two, and not both
--   in?, in_cast                 membership is decided, and passes along an equation
--   in_at, each_in               an entry is a member; what holds of every entry holds of every member
--   in_filter, filter_in, nodup_filter, length-filter, length-filter_less   a filtered list
--   sub_length                   a list without repeats is no longer than one that has its members
--   only_one, only_two           lists of one and of two members
--   head_in, head-some           the first
--   Lightest, head_least-is, head_least-some   the first of least key
--   least_pos_le, least_pos-at     the least positive value
-- Assumes nothing.
use Rattle.std.specs.Prelude.{◌≡◌, refl, ◌⊎◌, List, [], ◌∷◌, Bool, true, false, cond, not, ℕ, zero, suc, ◌≤◌, ◌<◌, length, get_or, eqb, ltb}
use Rattle.std.proofs.Common.{sym, ap, subst, ◌∙◌, inl, inr, ⊎_elim, arith, eqb-true, eq-eqb, ne_eqb, ltb-true, ltb-false}
use Rattle.std.proofs.Math.Option.{some}
use Rattle.std.proofs.lemmas.Bool.{eqb-false}
use Rattle.rule.specs.Lists.{In, Nodup, keep, filter, head, least_from, head_least, lesser, least_pos}

pub bool_or : (b : Bool) → (b ≡ true) ⊎ (b ≡ false)
bool_or true = inl refl
bool_or false = inr refl

pub tf : {b : Bool} → b ≡ true → b ≡ false → ⊥
tf e f = let z : ◌≡◌ {A = ℕ} 0 1 = cc in omega arith

pub in_cast : (x y : ℕ) (l : List ℕ) → x ≡ y → In y l → In x l
in_cast x y l e h = subst (λ (z : ℕ). In z l) (sym e) h

-- membership is decided
pub in? : (x : ℕ) (l : List ℕ) → In x l ⊎ (In x l → ⊥)
in? x [] = inr (λ h. h)
in? x (y ∷ l) = go (bool_or (eqb x y)) (in? x l)
  where
    go : (eqb x y ≡ true) ⊎ (eqb x y ≡ false) → In x l ⊎ (In x l → ⊥) → In x (y ∷ l) ⊎ (In x (y ∷ l) → ⊥)
    go (inl e) r = inl (inl (eqb-true x y e))
    go (inr e) (inl m) = inl (inr m)
    go (inr e) (inr n) = inr (⊎_elim (eqb-false x y e) n)

in_keep : (p : ℕ → Bool) (x y : ℕ) (l k : List ℕ) (b : Bool) → p y ≡ b → (In x k → In x l × (p x ≡ true)) → In x (keep b y k) → In x (y ∷ l) × (p x ≡ true)
in_keep p x y l k true e f (inl q) = (inl q, ap p q ∙ e)
in_keep p x y l k true e f (inr m) = (inr (f m).0, (f m).1)
in_keep p x y l k false e f m = (inr (f m).0, (f m).1)

pub in_filter : (p : ℕ → Bool) (l : List ℕ) (x : ℕ) → In x (filter p l) → In x l × (p x ≡ true)
in_filter p [] x h = absurd h
in_filter p (y ∷ l) x h = in_keep p x y l (filter p l) (p y) refl (in_filter p l x) h

keep_in : (x y : ℕ) (l : List ℕ) (b : Bool) → In x l → In x (keep b y l)
keep_in x y l true m = inr m
keep_in x y l false m = m

pub filter_in : (p : ℕ → Bool) (l : List ℕ) (x : ℕ) → In x l → p x ≡ true → In x (filter p l)
filter_in p [] x h e = absurd h
filter_in p (y ∷ l) x (inl q) e = let f : p y ≡ true = sym (ap p q) ∙ e in rw f (inl q)
filter_in p (y ∷ l) x (inr m) e = keep_in x y (filter p l) (p y) (filter_in p l x m e)

nodup_keep : (y : ℕ) (l : List ℕ) (b : Bool) → (In y l → ⊥) → Nodup l → Nodup (keep b y l)
nodup_keep y l true n h = (n, h)
nodup_keep y l false n h = h

pub nodup_filter : (p : ℕ → Bool) (l : List ℕ) → Nodup l → Nodup (filter p l)
nodup_filter p [] h = tt
nodup_filter p (y ∷ l) h = nodup_keep y (filter p l) (p y) (λ m. h.0 (in_filter p l y m).0) (nodup_filter p l h.1)

length-keep : (y : ℕ) (l : List ℕ) (b : Bool) → length (keep b y l) ≤ suc (length l)
length-keep y l true = omega arith
length-keep y l false = omega arith

pub length-filter : (p : ℕ → Bool) (l : List ℕ) → length (filter p l) ≤ length l
length-filter p [] = omega arith
length-filter p (y ∷ l) = omega (arith, length-filter p l, length-keep y (filter p l) (p y))

pub length-filter_less : (p : ℕ → Bool) (l : List ℕ) (x : ℕ) → In x l → p x ≡ false → length (filter p l) < length l
length-filter_less p [] x h e = absurd h
length-filter_less p (y ∷ l) x (inl q) e = let f : p y ≡ false = sym (ap p q) ∙ e in rw f (omega (arith, length-filter p l))
length-filter_less p (y ∷ l) x (inr m) e = omega (arith, length-filter_less p l x m e, length-keep y (filter p l) (p y))

abbrev other : ℕ → ℕ → Bool
other x y = not (eqb y x)

other_self : (x : ℕ) → other x x ≡ false
other_self x = ap not (eq-eqb x x refl)

other-true : (x y : ℕ) → (y ≡ x → ⊥) → other x y ≡ true
other-true x y n = ap not (ne_eqb y x n)

-- a list without repeats whose members are all in t is no longer than t
pub sub_length : (s t : List ℕ) → Nodup s → ((x : ℕ) → In x s → In x t) → length s ≤ length t
sub_length [] t n h = omega arith
sub_length (x ∷ s) t n h =
    let a : length s ≤ length (filter (other x) t) =
    sub_length s (filter (other x) t) n.1
    (λ y m. filter_in (other x) t y (h y (inr m)) (other-true x y (λ e. n.0 (in_cast x y s (sym e) m)))) in
    omega (arith, a, length-filter_less (other x) t x (h x (inl refl)) (other_self x))

-- lists of one and of two members
pub only_one : (l : List ℕ) (p : ℕ) → Nodup l → In p l → ((c : ℕ) → In c l → c ≡ p) → length l ≡ 1
only_one l p n m h = let a : length l ≤ 1 = sub_length l (p ∷ []) n (λ x k. inl (h x k)) in
    let b : 1 ≤ length l = sub_length (p ∷ []) l ((λ k. k), tt) (λ x k. ⊎_elim (λ e. in_cast x p l e m) absurd k) in
    omega arith

pub only_two : (l : List ℕ) (p q : ℕ) → Nodup l → In p l → In q l → (p ≡ q → ⊥) → ((c : ℕ) → In c l → (c ≡ p) ⊎ (c ≡ q))
    → (l ≡ p ∷ q ∷ []) ⊎ (l ≡ q ∷ p ∷ [])
only_two [] p q n mp mq d h = absurd mp
only_two (a ∷ []) p q n (inl e) (inl f) d h = absurd (d (e ∙ sym f))
only_two (a ∷ []) p q n (inl e) (inr m) d h = absurd m
only_two (a ∷ []) p q n (inr m) mq d h = absurd m
only_two (a ∷ b ∷ []) p q n mp mq d h = go (h a (inl refl)) (h b (inr (inl refl)))
  where
    go : (a ≡ p) ⊎ (a ≡ q) → (b ≡ p) ⊎ (b ≡ q) → (a ∷ b ∷ [] ≡ p ∷ q ∷ []) ⊎ (a ∷ b ∷ [] ≡ q ∷ p ∷ [])
    go (inl e) (inl f) = absurd (n.0 (inl (e ∙ sym f)))
    go (inl e) (inr f) = inl (cc)
    go (inr e) (inl f) = inr (cc)
    go (inr e) (inr f) = absurd (n.0 (inl (e ∙ sym f)))
only_two (a ∷ b ∷ c ∷ l) p q n mp mq d h =
    let k : length (a ∷ b ∷ c ∷ l) ≤ 2 =
    sub_length (a ∷ b ∷ c ∷ l) (p ∷ q ∷ []) n (λ x m. ⊎_elim (λ e. inl e) (λ e. inr (inl e)) (h x m)) in
    absurd (omega (arith, k))

pub head_in : (l : List ℕ) (x : ℕ) → head l ≡ some x → In x l
head_in [] x e = let z : ◌≡◌ {A = ℕ} 0 1 = cc in absurd (omega arith)
head_in (y ∷ l) x e = inl (cc)

pub head-some : (l : List ℕ) (x : ℕ) → In x l → (y : ℕ) × (head l ≡ some y)
head-some [] x m = absurd m
head-some (y ∷ l) x m = (y, refl)

abbrev pub Lightest : (ℕ → ℕ) → List ℕ → ℕ → Type 0
Lightest key l x = In x l × ((y : ℕ) → In y l → key x ≤ key y)

lighter : (key : ℕ → ℕ) (l : List ℕ) (b x : ℕ) (t : Bool) → ltb (key x) (key b) ≡ t → (z : ℕ) → Lightest key (cond t x b ∷ l) z → Lightest key (b ∷ x ∷ l) z
lighter key l b x true e z h = (⊎_elim (λ q. inr (inl q)) (λ m. inr (inr m)) h.0, λ y m. below y m)
  where
    below : (y : ℕ) → In y (b ∷ x ∷ l) → key z ≤ key y
    below y (inl q) = omega (arith, ap key q, h.1 x (inl refl), ltb-true (key x) (key b) e)
    below y (inr m) = h.1 y m
lighter key l b x false e z h = (⊎_elim (λ q. inl q) (λ m. inr (inr m)) h.0, λ y m. below y m)
  where
    below : (y : ℕ) → In y (b ∷ x ∷ l) → key z ≤ key y
    below y (inl q) = h.1 y (inl q)
    below y (inr (inl q)) = omega (arith, ap key q, h.1 b (inl refl), ltb-false (key x) (key b) e)
    below y (inr (inr m)) = h.1 y (inr m)

least_from-is : (key : ℕ → ℕ) (l : List ℕ) (b : ℕ) → Lightest key (b ∷ l) (least_from key b l)
least_from-is key [] b = (inl refl, λ y m. ⊎_elim (λ e. omega (arith, ap key e)) absurd m)
least_from-is key (x ∷ l) b =
    lighter key l b x (ltb (key x) (key b)) refl (least_from key (cond (ltb (key x) (key b)) x b) l)
    (least_from-is key l (cond (ltb (key x) (key b)) x b))

some_inj : {x y : ℕ} → some x ≡ some y → x ≡ y
some_inj e = cc

pub head_least-is : (key : ℕ → ℕ) (l : List ℕ) (x : ℕ) → head_least key l ≡ some x → Lightest key l x
head_least-is key [] x e = let z : ◌≡◌ {A = ℕ} 0 1 = cc in absurd (omega arith)
head_least-is key (y ∷ l) x e = subst (λ (z : ℕ). Lightest key (y ∷ l) z) (some_inj e) (least_from-is key l y)

pub head_least-some : (key : ℕ → ℕ) (l : List ℕ) (x : ℕ) → In x l → (y : ℕ) × (head_least key l ≡ some y)
head_least-some key [] x m = absurd m
head_least-some key (y ∷ l) x m = (least_from key y l, refl)

lesser_l : (a b : ℕ) → 0 < a → (0 < lesser a b) × (lesser a b ≤ a)
lesser_l zero b h = absurd (omega arith)
lesser_l (suc a) zero h = omega arith
lesser_l (suc a) (suc b) h = ⊎_elim (λ e. rw e (omega (arith, ltb-true b a e))) (λ e. rw e (omega arith)) (bool_or (ltb b a))

lesser-r : (a b : ℕ) → 0 < b → (0 < lesser a b) × (lesser a b ≤ b)
lesser-r zero b h = omega arith
lesser-r (suc a) zero h = absurd (omega arith)
lesser-r (suc a) (suc b) h = ⊎_elim (λ e. rw e (omega arith)) (λ e. rw e (omega (arith, ltb-false b a e))) (bool_or (ltb b a))

lesser-is : (a b : ℕ) → (lesser a b ≡ a) ⊎ (lesser a b ≡ b)
lesser-is zero b = inr refl
lesser-is (suc a) zero = inl refl
lesser-is (suc a) (suc b) = ⊎_elim (λ e. rw e (inr refl)) (λ e. rw e (inl refl)) (bool_or (ltb b a))

pub least_pos_le : (f : ℕ → ℕ) (l : List ℕ) (x : ℕ) → In x l → 0 < f x → (0 < least_pos f l) × (least_pos f l ≤ f x)
least_pos_le f [] x m h = absurd m
least_pos_le f (y ∷ l) x (inl q) h =
    let e : f x ≡ f y = ap f q in
    let k : 0 < f y = omega arith in
    let r : (0 < least_pos f (y ∷ l)) × (least_pos f (y ∷ l) ≤ f y) = lesser_l (f y) (least_pos f l) k in
    omega arith
least_pos_le f (y ∷ l) x (inr m) h =
    let i : (0 < least_pos f l) × (least_pos f l ≤ f x) = least_pos_le f l x m h in
    let r : (0 < least_pos f (y ∷ l)) × (least_pos f (y ∷ l) ≤ least_pos f l) = lesser-r (f y) (least_pos f l) i.0 in
    omega arith

pub least_pos-at : (f : ℕ → ℕ) (l : List ℕ) → 0 < least_pos f l → (x : ℕ) × In x l × (f x ≡ least_pos f l)
least_pos-at f [] h = absurd (omega arith)
least_pos-at f (y ∷ l) h = go (lesser-is (f y) (least_pos f l)) (least_pos-at f l)
  where
    go : (least_pos f (y ∷ l) ≡ f y) ⊎ (least_pos f (y ∷ l) ≡ least_pos f l)
        → (0 < least_pos f l → (x : ℕ) × In x l × (f x ≡ least_pos f l)) → (x : ℕ) × In x (y ∷ l) × (f x ≡ least_pos f (y ∷ l))
    go (inl e) i = (y, inl refl, sym e)
    go (inr e) i = let t : (x : ℕ) × In x l × (f x ≡ least_pos f l) = i (omega arith) in (t.0, inr t.1, t.2 ∙ sym e)

pub in_at : (l : List ℕ) (k : ℕ) → k < length l → In (get_or l k 0) l
in_at [] k h = absurd (omega arith)
in_at (a ∷ l) zero h = inl refl
in_at (a ∷ l) (suc k) h = inr (in_at l k (omega arith))

pub each_in : (P : ℕ → Type 0) (l : List ℕ) → ((k : ℕ) → k < length l → P (get_or l k 0)) → (x : ℕ) → In x l → P x
each_in P [] h x m = absurd m
each_in P (a ∷ l) h x (inl e) = subst P (sym e) (h 0 (omega arith))
each_in P (a ∷ l) h x (inr m) = each_in P l (λ k i. h (suc k) (omega arith)) x m
