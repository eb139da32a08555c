-- What is permitted depends only on the eligible rows' entries in V.
--   Alike              two matrices have the same ones in the rows of E and the columns of C
--   filter_alike       tests that agree on the members of a list keep the same ones
--   least_alike        and figures that agree there have the same least positive one
--   ones_alike, count_alike   then a row of E has the same ones
--   permitted_alike    and the same choices are permitted
-- Assumes nothing.
use Rattle.std.specs.Prelude.{◌≡◌, refl, List, [], ◌∷◌, Bool, ℕ, ◌≤◌, ◌<◌, length}
use Rattle.std.proofs.Common.{sym, ap, ap₂, subst, ◌∙◌, inl, inr, ⊎_elim}
use Rattle.rule.specs.Lists.{In, keep, filter, lesser, least_pos}
use Rattle.rule.specs.Permitted.{ones, count, Joined, Reach, here, along, IsComponent, InLargest, Permitted}

abbrev pub Alike : (ℕ → ℕ → Bool) → (ℕ → ℕ → Bool) → List ℕ → List ℕ → Type 0
Alike row row' C E = (x q : ℕ) → In x E → In q C → row x q ≡ row' x q

pub filter_alike : (p q : ℕ → Bool) (l : List ℕ) → ((x : ℕ) → In x l → p x ≡ q x) → filter p l ≡ filter q l
filter_alike p q [] h = refl
filter_alike p q (x ∷ l) h = ap₂ (λ (b : Bool) (t : List ℕ). keep b x t) (h x (inl refl)) (filter_alike p q l (λ y m. h y (inr m)))

pub least_alike : (f g : ℕ → ℕ) (l : List ℕ) → ((y : ℕ) → In y l → f y ≡ g y) → least_pos f l ≡ least_pos g l
least_alike f g [] h = refl
least_alike f g (x ∷ l) h = ap₂ lesser (h x (inl refl)) (least_alike f g l (λ y m. h y (inr m)))

module _ (row row' : ℕ → ℕ → Bool) (C E : List ℕ) (a : Alike row row' C E) where
  pub ones_alike : (x : ℕ) → In x E → ones row C x ≡ ones row' C x
  ones_alike x i = filter_alike (row x) (row' x) C (λ q m. a x q i m)

  pub count_alike : (x : ℕ) → In x E → count row C x ≡ count row' C x
  count_alike x i = ap length (ones_alike x i)

  joined_alike : (p q : ℕ) → Joined row C E p q → Joined row' C E p q
  joined_alike p q j =
      (j.0, j.1, ⊎_elim (λ e. inl (sym (ones_alike j.0 j.1) ∙ e)) (λ e. inr (sym (ones_alike j.0 j.1) ∙ e)) j.2)

  reach_alike : {p q : ℕ} → Reach row C E p q → Reach row' C E p q
  reach_alike here = here
  reach_alike (along {p} {q} j r) = along (joined_alike p q j) (reach_alike r)

alike_back : (row row' : ℕ → ℕ → Bool) (C E : List ℕ) → Alike row row' C E → Alike row' row C E
alike_back row row' C E a x q i m = sym (a x q i m)

component_alike : (row row' : ℕ → ℕ → Bool) (C E : List ℕ) → Alike row row' C E → (p : ℕ) (S : List ℕ) → IsComponent row C E p S → IsComponent row' C E p S
component_alike row row' C E a p S c = record {
  once = c.once;
  within = λ q m. ((c.within q m).0, reach_alike row row' C E a (c.within q m).1);
  whole = λ q i r. c.whole q i (reach_alike row' row C E (alike_back row row' C E a) r);
}

pub permitted_alike : (row row' : ℕ → ℕ → Bool) (deg : ℕ → ℕ) (C E : List ℕ) (x : ℕ) → Alike row row' C E → Permitted row deg C E x → Permitted row' deg C E x
permitted_alike row row' deg C E x a p = record {
  r = p.r;
  least = record {
    positive = p.least.positive;
    reached = (p.least.reached.0, p.least.reached.1, sym (same p.least.reached.0 p.least.reached.1) ∙ p.least.reached.2);
    least = λ y i h. subst (λ (k : ℕ). p.r ≤ k) (same y i) (p.least.least y i (subst (λ (k : ℕ). 0 < k) (sym (same y i)) h));
  };
  eligible = p.eligible;
  exactly = sym (same x p.eligible) ∙ p.exactly;
  lightest = λ n y i e. p.lightest n y i (same y i ∙ e);
  joined = λ e. largest (p.joined e);
}
  where
    same : (y : ℕ) → In y E → count row C y ≡ count row' C y
    same = count_alike row row' C E a

    largest : InLargest row C E x → InLargest row' C E x
    largest l = record {
      p = l.p;
      S = l.S;
      end = subst (λ (o : List ℕ). In l.p o) (ones_alike row row' C E a x p.eligible) l.end;
      component = component_alike row row' C E a l.p l.S l.component;
      largest = λ p' S' c. l.largest p' S' (component_alike row' row C E (alike_back row row' C E a) p' S' c);
    }
