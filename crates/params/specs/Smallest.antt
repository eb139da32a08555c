-- The first row for k is the one with the smallest K' that is not below k.
--   Smallest k t r   r is that row of t
--   within           one of two numbers is not above the other
--   first_smallest, smallest_first   the first row for k is that row, and no other is
--   first-none, none_first           there is none exactly where each K' is below k
-- Assumes nothing.
use Rattle.std.proofs.Math.Path.{◌≡◌, refl, subst}
use Rattle.std.proofs.Common.{sym, ap, ◌∙◌, inl, inr, le_refl, le_of_lt, not-le_of_lt, arith, le-leb, leb-true, leb-false}
use Rattle.std.specs.Prelude.{◌⊎◌, Bool, true, false, ℕ, ◌≤◌, ◌<◌, T, leb}
use Rattle.std.proofs.Math.Logic.{⊎_elim}
use mathlib.Core.List.Memᴰ
use mathlib.Core.List.{List, [], ◌∷◌, Memᴰ}
use Rattle.std.proofs.lemmas.Bool.{lt-leb}
use Rattle.params.specs.Table.{Row}
use Rattle.params.specs.Params.{entry, none, first}
use Rattle.params.specs.Rule.{ruled, ruled-above, ruled-rest}

pub record Smallest (k : ℕ) (t : List Row) (r : Row) : Type 0 where
  pub inside : Memᴰ r t
  pub reaches : k ≤ r.k
  pub least : {q : Row} → Memᴰ q t → k ≤ q.k → r.k ≤ q.k

pub within : (a b : ℕ) → (a ≤ b) ⊎ (b < a)
within a b = go (leb a b) refl
  where
    go : (c : Bool) → leb a b ≡ c → (a ≤ b) ⊎ (b < a)
    go true e = inl (leb-true a b e)
    go false e = inr (leb-false a b e)

module _ (k : ℕ) where
  first_here : (x : Row) (xs : List Row) → k ≤ x.k → first k (x ∷ xs) ≡ entry x
  unfolding first
  first_here x xs h = rw (le-leb k x.k h)

  first_there : (x : Row) (xs : List Row) → x.k < k → first k (x ∷ xs) ≡ first k xs
  unfolding first
  first_there x xs h = rw (lt-leb k x.k h)

  smallest_here : (b : ℕ) (x : Row) (xs : List Row) → T (ruled b (x ∷ xs)) → k ≤ x.k → Smallest k (x ∷ xs) x
  smallest_here b x xs h p =
      record {
        inside = Memᴰ.head refl;
        reaches = p;
        least = λ {q} m l. ⊎_elim (λ e. subst (λ (y : Row). x.k ≤ y.k) (sym e) (le_refl x.k))
            (λ n. le_of_lt (ruled-above x.k xs (ruled-rest b x xs h) n)) (Memᴰ.cases_cons m);
      }

  smallest_there : (x : Row) (xs : List Row) (r : Row) → x.k < k → Smallest k xs r → Smallest k (x ∷ xs) r
  smallest_there x xs r p s =
      record {
        inside = Memᴰ.tail s.inside;
        reaches = s.reaches;
        least = λ {q} m l. ⊎_elim (λ e. absurd (not-le_of_lt p (subst (λ (y : Row). k ≤ y.k) e l))) (λ n. s.least n l) (Memᴰ.cases_cons m);
      }

  -- the first row that is not below k is the smallest
  pub first_smallest : (b : ℕ) (t : List Row) → T (ruled b t) → (r : Row) → first k t ≡ entry r → Smallest k t r
  unfolding first
  first_smallest b [] h r e = absurd (let z : ◌≡◌ {A = ℕ} 0 1 = cc in omega arith)
  first_smallest b (x ∷ xs) h r e =
      ⊎_elim
      (λ (p : k ≤ x.k).
      let s = first_here x xs p in
      let d : x ≡ r = cc in
      subst (Smallest k (x ∷ xs)) d (smallest_here b x xs h p))
      (λ (p : x.k < k). smallest_there x xs r p (first_smallest x.k xs (ruled-rest b x xs h) r (sym (first_there x xs p) ∙ e)))
      (within k x.k)

  pub first-none : (t : List Row) → first k t ≡ none → (q : Row) → Memᴰ q t → q.k < k
  first-none [] e q m = absurd (Memᴰ.not-nil m)
  first-none (x ∷ xs) e q m =
      ⊎_elim
      (λ (p : k ≤ x.k). let s = first_here x xs p in absurd (let z : ◌≡◌ {A = ℕ} 0 1 = cc in omega arith))
      (λ (p : x.k < k).
      ⊎_elim (λ d. subst (λ (y : Row). y.k < k) (sym d) p) (λ n. first-none xs (sym (first_there x xs p) ∙ e) q n) (Memᴰ.cases_cons m))
      (within k x.k)

  -- there is one smallest row, and it is the first
  pub smallest_first : (b : ℕ) (t : List Row) → T (ruled b t) → (r : Row) → Smallest k t r → first k t ≡ entry r
  smallest_first b [] h r s = absurd (Memᴰ.not-nil s.inside)
  smallest_first b (x ∷ xs) h r s =
      ⊎_elim
      (λ (p : k ≤ x.k). first_here x xs p
      ∙ ⊎_elim (λ e. ap entry (sym e))
      (λ n. absurd (not-le_of_lt (ruled-above x.k xs (ruled-rest b x xs h) n) (s.least (Memᴰ.head refl) p))) (Memᴰ.cases_cons s.inside))
      (λ (p : x.k < k). first_there x xs p
      ∙ ⊎_elim (λ e. absurd (not-le_of_lt p (subst (λ (y : Row). k ≤ y.k) e s.reaches)))
      (λ n. smallest_first x.k xs (ruled-rest b x xs h) r (record { inside = n; reaches = s.reaches; least = λ m l. s.least (Memᴰ.tail m) l }))
      (Memᴰ.cases_cons s.inside))
      (within k x.k)

  pub none_first : (t : List Row) → ((q : Row) → Memᴰ q t → q.k < k) → first k t ≡ none
  unfolding first
  none_first [] h = refl
  none_first (x ∷ xs) h = first_there x xs (h x (Memᴰ.head refl)) ∙ none_first xs (λ q m. h q (Memᴰ.tail m))
