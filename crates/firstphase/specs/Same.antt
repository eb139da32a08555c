-- Phase one reads only the rows that may be chosen: two matrices that agree there make the same choices.
--   SameOn              two matrices have the same rows, of those in a list
--   phase_same          phase one over the combined matrix is phase one over the binary one
--   whole               what phase one's answer says of the binary matrix, it says of the combined one
-- Assumes nothing.
use Rattle.std.specs.Prelude.{◌≡◌, refl, Result, List, [], ◌∷◌, ◌++◌, Bool, true, false, cond, ◌&&◌, ℕ, zero, suc, ◌-◌, ◌<◌, length, take, drop, eqb, ltb}
use Rattle.std.proofs.Common.{sym, ap, ap₂, subst, ◌∙◌, inl, inr, ⊎_elim, add-one, arith}
use Rattle.std.proofs.Math.Path.{fun_ext}
use Rattle.std.proofs.Math.Option.{Option, some, none}
use Rattle.loops.specs.Loop.{for_none, for_next}
use Rattle.loops.specs.Entry.{entry_at}
use Rattle.rule.specs.Lists.{In, filter, head, head_least, least_from, least_pos}
use Rattle.rule.specs.Sets.{in_filter}
use Rattle.rule.specs.Alike.{filter_alike, least_alike}
use Rattle.rule.specs.Permitted.{ones, count}
use Rattle.rule.specs.Rule.{Marks, add_pair, add_pairs, lose, lose_first, refresh, lose_col, lose_cols, refresh_all, finish, next_singles, noted, without, Cut, cut, arrange, node, at_node, choose_at, choose, State, start, chosen, after, raw_marks, by_least}
use Rattle.rule.specs.Singles.{Removed, exchanged, in_either}
use Rattle.rule.specs.Chosen.{Good}
use Rattle.rule.proofs.Reached.{reached_good}
use Rattle.phases.specs.System.{Shape, range, combined, first_rows, octet_rows}
use Rattle.phases.specs.One.{Phase, one, degree, begin, taken, taking, step, phase_after, phase_one}
use Rattle.phases.proofs.Combined.{combined_binary}
use Rattle.phases.specs.Occ.{in_member, member_in, occ-append, occ-range, once_nodup}
use Rattle.phases.specs.Fit.{cols_once, less?}
use Rattle.phases.proofs.Fit.{rows_once}
use Rattle.phases.specs.Walk.{Walked}
use Rattle.phases.proofs.Walk.{walked, permitted}
use Rattle.clearing.specs.Clear.{outside}
use Rattle.stepping.specs.Stands.{Given}
use Rattle.tally.specs.Book.{Book}
use Rattle.firstphase.specs.declared.Done.{Done}
use Rattle.firstphase.specs.declared.NoPivot.{NoPivot}
use Rattle.firstphase.specs.Ended.{Outcome}

least_from_lem : (k k' : ℕ → ℕ) (l : List ℕ) (b : ℕ) → k b ≡ k' b → ((x : ℕ) → In x l → k x ≡ k' x) → least_from k b l ≡ least_from k' b l
least_from_lem k k' [] b hb hl = refl
least_from_lem k k' (x ∷ l) b hb hl =
    go (ltb (k x) (k b)) refl (least_from_lem k k' l x (hl x (inl refl)) (λ y m. hl y (inr m))) (least_from_lem k k' l b hb (λ y m. hl y (inr m)))
  where
    same : ltb (k x) (k b) ≡ ltb (k' x) (k' b)
    same = ap₂ ltb (hl x (inl refl)) hb

    go : (t : Bool) → ltb (k x) (k b) ≡ t → least_from k x l ≡ least_from k' x l → least_from k b l ≡ least_from k' b l
        → least_from k (cond (ltb (k x) (k b)) x b) l ≡ least_from k' (cond (ltb (k' x) (k' b)) x b) l
    go true e a c = ap (λ (t : Bool). least_from k (cond t x b) l) e ∙ a ∙ sym (ap (λ (t : Bool). least_from k' (cond t x b) l) (sym same ∙ e))
    go false e a c = ap (λ (t : Bool). least_from k (cond t x b) l) e ∙ c ∙ sym (ap (λ (t : Bool). least_from k' (cond t x b) l) (sym same ∙ e))

head_least_lem : (k k' : ℕ → ℕ) (l : List ℕ) → ((x : ℕ) → In x l → k x ≡ k' x) → head_least k l ≡ head_least k' l
head_least_lem k k' [] h = refl
head_least_lem k k' (x ∷ l) h = ap some (least_from_lem k k' l x (h x (inl refl)) (λ y m. h y (inr m)))

module _ (row row' : ℕ → ℕ → Bool) where
  abbrev pub SameOn : List ℕ → Type 0
  SameOn E = (x : ℕ) → In x E → row x ≡ row' x

  count_same : (C : List ℕ) (x : ℕ) → row x ≡ row' x → count row C x ≡ count row' C x
  count_same C x e = ap (λ (f : ℕ → Bool). length (filter f C)) e

  arrange_same : (C : List ℕ) (x : ℕ) → row x ≡ row' x → arrange row C x ≡ arrange row' C x
  arrange_same [] x e = refl
  arrange_same (a ∷ C) x e =
      ap (λ (f : ℕ → Bool). cut f a (take (length C - (length (filter f (a ∷ C)) - 1)) C) (drop (length C - (length (filter f (a ∷ C)) - 1)) C)) e

  at_same : (C E : List ℕ) → SameOn E → (o : Option ℕ) → at_node row C E o ≡ at_node row' C E o
  at_same C E h none = refl
  at_same C E h (some q) = ap head (filter_alike (λ x. row x q && eqb (count row C x) 2) (λ x. row' x q && eqb (count row' C x) 2) E
      (λ x m. ap (λ (f : ℕ → Bool). f q && eqb (length (filter f C)) 2) (h x m)))

  module _ (deg deg' : ℕ → ℕ) (C E s : List ℕ) (h : SameOn E) (d : (x : ℕ) → In x E → deg x ≡ deg' x) (i : (x : ℕ) → In x s → In x E) (lab : ℕ → ℕ) (n : ℕ) where
    choose-at : (r : ℕ) → choose_at row deg C E s lab n r ≡ choose_at row' deg' C E s lab n r
    choose-at zero = refl
    choose-at (suc zero) = head_least_lem deg deg' s (λ x m. d x (i x m))
    choose-at (suc (suc zero)) = at_same C E h (node lab n C)
    choose-at (suc (suc (suc r))) =
        head_least_lem deg deg' (filter (λ x. eqb (count row C x) (suc (suc (suc r)))) E) (λ x m. d x (in_filter (λ x. eqb (count row C x) (suc (suc (suc r)))) E x m).0)
        ∙ ap (head_least deg') (filter_alike (λ x. eqb (count row C x) (suc (suc (suc r)))) (λ x. eqb (count row' C x) (suc (suc (suc r)))) E
        (λ x m. ap (λ (k : ℕ). eqb k (suc (suc (suc r)))) (count_same C x (h x m))))

    choose_same : choose row deg C E s lab n ≡ choose row' deg' C E s lab n
    choose_same = ap (choose_at row deg C E s lab n) (least_alike (count row C) (count row' C) E (λ x m. count_same C x (h x m))) ∙ choose-at (least_pos (count row' C) E)

  lose_col_lem : (rest : List ℕ) (c : ℕ) (ys s : List ℕ) → SameOn ys → lose_col row rest c ys s ≡ lose_col row' rest c ys s
  lose_col_lem rest c [] s h = refl
  lose_col_lem rest c (y ∷ ys) s h =
      ap (lose_col row rest c ys) (ap (λ (f : ℕ → Bool). cond (f c) (lose s y (length (filter f rest))) s) (h y (inl refl)))
      ∙ lose_col_lem rest c ys (cond (row' y c) (lose s y (count row' rest y)) s) (λ x m. h x (inr m))

  lose-cols : (C' ys cs s : List ℕ) → SameOn ys → lose_cols row C' ys cs s ≡ lose_cols row' C' ys cs s
  lose-cols C' ys [] s h = refl
  lose-cols C' ys (c ∷ cs) s h = ap (lose_cols row C' ys cs) (lose_col_lem (cs ++ C') c ys s h) ∙ lose-cols C' ys cs (lose_col row' (cs ++ C') c ys s) h

  refresh-all : (C' : List ℕ) (c : ℕ) (ys s : List ℕ) → SameOn ys → refresh_all row C' c ys s ≡ refresh_all row' C' c ys s
  refresh-all C' c [] s h = refl
  refresh-all C' c (y ∷ ys) s h =
      ap (refresh_all row C' c ys) (ap (λ (f : ℕ → Bool). cond (f c) (refresh s y (length (filter f C'))) s) (h y (inl refl)))
      ∙ refresh-all C' c ys (cond (row' y c) (refresh s y (count row' C' y)) s) (λ x m. h x (inr m))

  finish_same : (C' ys : List ℕ) (c : ℕ) (gone s : List ℕ) → SameOn ys → finish row C' ys c gone s ≡ finish row' C' ys c gone s
  finish_same C' ys c [] s h = refl
  finish_same C' ys c (q ∷ gone) s h = refresh-all C' c ys s h

  singles_same : (C' : List ℕ) (x : ℕ) (ys : List ℕ) (p : ℕ) (gone s : List ℕ) → SameOn (x ∷ ys) → next_singles row C' x ys p gone s ≡ next_singles row' C' x ys p gone s
  singles_same C' x ys p gone s h =
      let below : SameOn ys = λ y m. h y (inr m) in
      ap (λ (k : ℕ). finish row C' ys p gone (lose_cols row C' (x ∷ ys) gone (lose_col row (gone ++ C') p ys (lose_first s x k)))) (count_same (gone ++ C') x (h x (inl refl)))
      ∙ ap (λ (t : List ℕ). finish row C' ys p gone (lose_cols row C' (x ∷ ys) gone t)) (lose_col_lem (gone ++ C') p ys (lose_first s x (count row' (gone ++ C') x)) below)
      ∙ ap (finish row C' ys p gone) (lose-cols C' (x ∷ ys) gone (lose_col row' (gone ++ C') p ys (lose_first s x (count row' (gone ++ C') x))) h)
      ∙ finish_same C' ys p gone (lose_cols row' C' (x ∷ ys) gone (lose_col row' (gone ++ C') p ys (lose_first s x (count row' (gone ++ C') x)))) below

  noted_same : (C' ys cs : List ℕ) → SameOn ys → noted row C' ys cs ≡ noted row' C' ys cs
  noted_same C' ys [] h = refl
  noted_same C' ys (c ∷ cs) h =
      ap₂ (λ (a b : List ℕ). a ++ b)
      (filter_alike (λ y. row y c && (eqb (count row (cs ++ C') y) 2 && eqb (count row C' y) 2)) (λ y. row' y c && (eqb (count row' (cs ++ C') y) 2 && eqb (count row' C' y) 2)) ys
      (λ y m. ap (λ (f : ℕ → Bool). f c && (eqb (length (filter f (cs ++ C'))) 2 && eqb (length (filter f C')) 2)) (h y m)))
      (noted_same C' ys cs h)

  pairs_same : (C : List ℕ) (m : Marks) (xs : List ℕ) → SameOn xs → add_pairs row C m xs ≡ add_pairs row' C m xs
  pairs_same C m [] h = refl
  pairs_same C m (x ∷ xs) h = ap (λ (f : ℕ → Bool). add_pairs row C (add_pair m (filter f C)) xs) (h x (inl refl)) ∙ pairs_same C (add_pair m (ones row' C x)) xs (λ y k. h y (inr k))

  noted_in : (C' ys cs : List ℕ) (x : ℕ) → In x (noted row' C' ys cs) → In x ys
  noted_in C' ys [] x m = absurd m
  noted_in C' ys (c ∷ cs) x m = ⊎_elim
      (λ k. (in_filter (λ y. row' y c && (eqb (count row' (cs ++ C') y) 2 && eqb (count row' C' y) 2)) ys x k).0)
      (λ k. noted_in C' ys cs x k)
      (in_either x (filter (λ y. row' y c && (eqb (count row' (cs ++ C') y) 2 && eqb (count row' C' y) 2)) ys) (noted row' C' ys cs) m)

  after_same : (s : State) (x p : ℕ) (gone C' : List ℕ) → SameOn (x ∷ without x s.elig) → after row s x p gone C' ≡ after row' s x p gone C'
  after_same s x p gone C' h =
      let ys : List ℕ = without x s.elig in
      let below : SameOn (without x s.elig) = λ y m. h y (inr m) in
      ap₂ (λ (a : List ℕ) (b : Marks). record { cols = C'; elig = without x s.elig; singles = a; marks = b })
      (singles_same C' x (without x s.elig) p gone s.singles h)
      (ap (add_pairs row C' s.marks) (noted_same C' (without x s.elig) (p ∷ gone) below)
      ∙ pairs_same C' s.marks (noted row' C' (without x s.elig) (p ∷ gone)) (λ y m. below y (noted_in C' (without x s.elig) (p ∷ gone) y m)))

  start_same : (C E : List ℕ) (w : ℕ) → SameOn E → start row C E w ≡ start row' C E w
  start_same C E w h =
      let f : filter (λ x. eqb (count row C x) 1) E ≡ filter (λ x. eqb (count row' C x) 1) E =
      filter_alike (λ x. eqb (count row C x) 1) (λ x. eqb (count row' C x) 1) E (λ x m. ap (λ (k : ℕ). eqb k 1) (count_same C x (h x m))) in
      let g : filter (λ x. eqb (count row C x) 2) E ≡ filter (λ x. eqb (count row' C x) 2) E =
      filter_alike (λ x. eqb (count row C x) 2) (λ x. eqb (count row' C x) 2) E (λ x m. ap (λ (k : ℕ). eqb k 2) (count_same C x (h x m))) in
      let m₀ : Marks = record { lab = λ _. 0; next = 1 } in
      let r : raw_marks row C E ≡ raw_marks row' C E =
      ap (add_pairs row C (record { lab = λ _. 0; next = 1 })) g
      ∙ pairs_same C (record { lab = λ _. 0; next = 1 }) (filter (λ x. eqb (count row' C x) 2) E) (λ x m. h x (in_filter (λ x. eqb (count row' C x) 2) E x m).0) in
      ap₂ (λ (a : List ℕ) (b : Marks). record { cols = C; elig = E; singles = a; marks = record { lab = by_least C b.lab; next = suc w } }) f r

module _ (z : Shape) (bits octs : List ℕ) (g : Given z bits) where
  abbrev A : ℕ → ℕ → ℕ
  A = combined z bits octs

  abbrev B : ℕ → ℕ → ℕ
  B = entry_at z.n bits

  rows_same : (x : ℕ) → In x (first_rows z) → one A x ≡ one B x
  rows_same x m = fun_ext (λ q. ap (λ (k : ℕ). eqb k 1) (combined_binary z bits octs x q (outside z g.fit.rows_fit x m)))

  degree_same : (x : ℕ) → In x (first_rows z) → degree A z x ≡ degree B z x
  degree_same x m = count_same (one A) (one B) (range 0 z.w) x (rows_same x m)

  begin_same : begin A z ≡ begin B z
  begin_same = ap (λ (s : State). record { steps = []; now = s; out = range z.w (z.n - z.w) }) (start_same (one A) (one B) (range 0 z.w) (first_rows z) z.w rows_same)

  module _ (p : Phase) (W : Walked z B p) where
    elig_in : (x : ℕ) → In x p.now.elig → In x (first_rows z)
    elig_in x m = member_in x (first_rows z) (W.rest_in x (in_member x p.now.elig m))

    good : Good (one B) p.now.cols p.now.elig p.now.singles p.now.marks
    good =
        reached_good (one B) (degree B z) (range 0 z.w) (first_rows z)
        (once_nodup (range 0 z.w) (λ q. omega (arith, cols_once z g.fit.cols_fit q)))
        (once_nodup (first_rows z) (λ y. omega (arith, occ-append y (first_rows z) (octet_rows z), rows_once z g.fit.rows_fit y)))
        z.w low W.reached
      where
        low : (q : ℕ) → In q (range 0 z.w) → q < z.w
        low q m = ⊎_elim (λ l. l) (λ l. absurd (omega (arith, in_member q (range 0 z.w) m, (occ-range 0 z.w q).after (omega arith)))) (less? q z.w)

    chosen_same : chosen (one A) (degree A z) p.now ≡ chosen (one B) (degree B z) p.now
    chosen_same = choose_same (one A) (one B) (degree A z) (degree B z) p.now.cols p.now.elig p.now.singles (λ x m. rows_same x (elig_in x m))
        (λ x m. degree_same x (elig_in x m)) (λ x m. (good.single.right x m).0) p.now.marks.lab p.now.marks.next

    taken_same : (x : ℕ) → In x p.now.elig → taken A z p x ≡ taken B z p x
    taken_same x m =
        let r : Removed x p.now.elig (without x p.now.elig) = exchanged x p.now.elig good.rows m in
        let h : SameOn (one A) (one B) (x ∷ without x p.now.elig) = λ y k. ⊎_elim (λ (e : y ≡ x). subst (λ (w : ℕ). one A w ≡ one B w) (sym e) (rows_same x (elig_in x m)))
        (λ w. rows_same y (elig_in y (r.from y w).0)) k in
        ap (λ (k : Cut). record {
          steps = p.steps ++ (record { row = x; pivot = k.pivot; under = without x p.now.elig ++ octet_rows z; left = k.rest } ∷ []);
          now = after (one A) p.now x k.pivot k.gone k.rest;
          out = k.gone ++ p.out;
        }) (arrange_same (one A) (one B) p.now.cols x (rows_same x (elig_in x m)))
        ∙ ap (λ (s : State). record {
          steps = p.steps ++ (record { row = x; pivot = (arrange (one B) p.now.cols x).pivot; under = without x p.now.elig ++ octet_rows z; left = (arrange (one B) p.now.cols x).rest } ∷ []);
          now = s;
          out = (arrange (one B) p.now.cols x).gone ++ p.out;
        }) (after_same (one A) (one B) p.now x (arrange (one B) p.now.cols x).pivot (arrange (one B) p.now.cols x).gone (arrange (one B) p.now.cols x).rest h)

    step_same : step A z p ≡ step B z p
    step_same = ap (taking A z p) chosen_same ∙ go (chosen (one B) (degree B z) p.now) refl
      where
        go : (o : Option ℕ) → chosen (one B) (degree B z) p.now ≡ o → taking A z p o ≡ taking B z p o
        go none e = refl
        go (some x) e = taken_same x (permitted z B g.fit p W x e).eligible

  phase_after_same : (k : ℕ) → phase_after A z k ≡ phase_after B z k
  phase_after_same zero = for_none 0 (λ _. step A z) (begin A z) ∙ begin_same ∙ sym (for_none 0 (λ _. step B z) (begin B z))
  phase_after_same (suc k) =
      ap (phase_after A z) (sym (add-one k)) ∙ for_next 0 k (λ _. step A z) (begin A z) (omega arith)
      ∙ ap (step A z) (phase_after_same k) ∙ step_same (phase_after B z k) (walked z B g.fit k)
      ∙ sym (for_next 0 k (λ _. step B z) (begin B z) (omega arith)) ∙ ap (phase_after B z) (add-one k)

  pub phase_same : phase_one A z ≡ phase_one B z
  phase_same = phase_after_same z.n

-- so phase one's answer says the same of both
pub whole : (z : Shape) (bits octs : List ℕ) (g₀ : Book) (c d : List ℕ) (g : Book) (r : Result Done NoPivot) → Given z bits → Outcome z bits octs (phase_one (entry_at z.n bits) z) g₀ c d g r
    → Outcome z bits octs (phase_one (combined z bits octs) z) g₀ c d g r
whole z bits octs g₀ c d g r v o = subst (λ (p : Phase). Outcome z bits octs p g₀ c d g r) (sym (phase_same z bits octs v)) o
