-- What a solved call means. m rows, n columns; D is one column of received symbols, x one column of intermediate symbols.
--   recovered          then the column D after the list, read through the order, is the x that makes D
--   unique, injective  no other x makes D; only zeros make zeros
--   agrees, makes, agrees_iff   rows that the order does not name become zeros exactly if some x makes D, and then what is read makes D
--   same_set           two lists that reduce one matrix give the same x
--   kernel_back        what a list sends to zeros was sent to zeros before
-- Assumes nothing.
use Rattle.std.specs.Prelude.{◌≡◌, refl, ◌≢◌, ◌↔◌, ◌⊎◌, Bool, true, false, List, ℕ, zero, suc, ◌<◌, eqb}
use Rattle.std.proofs.Common.{sym, ap, ◌∙◌, inl, inr, not-suc-le-zero, arith, eqb-true}
use Rattle.std.proofs.lemmas.Bool.{eqb-false}
use Rattle.octet.specs.Field.{Octets}
use Rattle.oplist.specs.declared.Op.{Op}
use Rattle.oplist.specs.Ops.{Each}
use Rattle.algebra.specs.Sums.{dot_octet}
use Rattle.algebra.specs.Rows.{Good, Within, run, runs, times, undo, run-times, run_local, run-zero, run_octet}
use Rattle.algebra.proofs.Rows.{undo-run, within_undo}
use Rattle.algebra.specs.Solve.{Makes, Reduces, Unnamed, dot-none, dot-unit}

-- whether the order names row r
abbrev named : ℕ → (ℕ → ℕ) → ℕ → Type 0
named n order r = ((j : ℕ) × (j < n) × (order j ≡ r)) ⊎ Unnamed n order r

search_order : (n : ℕ) (order : ℕ → ℕ) (r : ℕ) → named n order r
search_order zero order r = inr (λ j l. absurd (not-suc-le-zero l))
search_order (suc n) order r = next (search_order n order r) (eqb (order n) r) refl
  where
    next : named n order r → (b : Bool) → eqb (order n) r ≡ b → named (suc n) order r
    next w true e = inl (n, omega arith, eqb-true (order n) r e)
    next (inl w) false e = inl (w.0, omega arith, w.2)
    next (inr u) false e = inr (λ j l. last j l (eqb j n) refl)
      where
        last : (j : ℕ) → j < suc n → (b : Bool) → eqb j n ≡ b → order j ≢ r
        last j l true q = λ z. eqb-false (order n) r e (ap order (sym (eqb-true j n q)) ∙ z)
        last j l false q = let k : j ≢ n = eqb-false j n q in u j (omega arith)

module _ (m n : ℕ) (os : List Op) (A : ℕ → ℕ → ℕ) (order : ℕ → ℕ) (R : Reduces m n os A order) where
  -- the finished column is the reduced matrix times x
  finished : (x D : ℕ → ℕ) → Makes m n A x D → (r : ℕ) → r < m → run os D r ≡ times n (runs os A) x r
  finished x D h r l =
      run_local m os D (times n A x) R.within (λ i q. sym (h i q)) r l
      ∙ ap (λ (u : ℕ → ℕ). u r) (run-times n os A x)

  pub recovered : (x D : ℕ → ℕ) → Octets x → Makes m n A x D → (j : ℕ) → j < n → run os D (order j) ≡ x j
  recovered x D hx h j l =
      finished x D h (order j) (R.place j l)
      ∙ dot-unit n (runs os A (order j)) x j l hx (λ k q. R.unit j k l q)

  pub unique : (x y D : ℕ → ℕ) → Octets x → Octets y → Makes m n A x D → Makes m n A y D → (j : ℕ) → j < n → x j ≡ y j
  unique x y D hx hy p q j l = sym (recovered x D hx p j l) ∙ recovered y D hy q j l

  pub injective : (x : ℕ → ℕ) → Octets x → Makes m n A x (λ _. 0) → (j : ℕ) → j < n → x j ≡ 0
  injective x hx h j l =
      sym (recovered x (λ _. 0) hx h j l) ∙ ap (λ (u : ℕ → ℕ). u (order j)) (run-zero os)

  pub agrees : (x D : ℕ → ℕ) → Makes m n A x D → (r : ℕ) → r < m → Unnamed n order r → run os D r ≡ 0
  agrees x D h r l un = finished x D h r l ∙ dot-none n (runs os A r) x (R.clear r l un)

  pub makes : (D : ℕ → ℕ) → Octets D → ((r : ℕ) → r < m → Unnamed n order r → run os D r ≡ 0)
      → Makes m n A (λ j. run os D (order j)) D
  makes D hD z r l =
      ap (λ (u : ℕ → ℕ). u r) (sym (undo-run os (times n A x) R.good (λ i. dot_octet n (A i) x)))
      ∙ run_local m (undo os) (run os (times n A x)) (run os D) (within_undo m os R.within) same r l
      ∙ ap (λ (u : ℕ → ℕ). u r) (undo-run os D R.good hD)
    where
      x : ℕ → ℕ
      x j = run os D (order j)

      hx : Octets x
      hx j = run_octet os D hD (order j)

      row : (i : ℕ) → i < m → named n order i → times n (runs os A) x i ≡ run os D i
      row i q (inl w) =
          dot-unit n (runs os A i) x w.0 w.1 hx
          (λ k b. ap (λ (t : ℕ). runs os A t k) (sym w.2) ∙ R.unit w.0 k w.1 b)
          ∙ ap (run os D) w.2
      row i q (inr u) = dot-none n (runs os A i) x (R.clear i q u) ∙ sym (z i q u)

      same : (i : ℕ) → i < m → run os (times n A x) i ≡ run os D i
      same i q = ap (λ (u : ℕ → ℕ). u i) (run-times n os A x) ∙ row i q (search_order n order i)

  pub agrees_iff : (D : ℕ → ℕ) → Octets D
      → ((x : ℕ → ℕ) × Octets x × Makes m n A x D) ↔ ((r : ℕ) → r < m → Unnamed n order r → run os D r ≡ 0)
  agrees_iff D hD =
      (λ w. agrees w.0 D w.2, λ z. (λ j. run os D (order j), λ j. run_octet os D hD (order j), makes D hD z))

pub same_set : (m n : ℕ) (os ps : List Op) (A : ℕ → ℕ → ℕ) (o p : ℕ → ℕ) → Reduces m n os A o → Reduces m n ps A p
    → (x D : ℕ → ℕ) → Octets x → Makes m n A x D → (j : ℕ) → j < n → run os D (o j) ≡ run ps D (p j)
same_set m n os ps A o p R S x D hx h j l =
    recovered m n os A o R x D hx h j l ∙ sym (recovered m n ps A p S x D hx h j l)

module _ (m n : ℕ) (os : List Op) (A : ℕ → ℕ → ℕ) (g : Each Good os) (b : Each (Within m) os) where
  pub kernel_back : (x : ℕ → ℕ) → Makes m n (runs os A) x (λ _. 0) → Makes m n A x (λ _. 0)
  kernel_back x h r l =
      ap (λ (u : ℕ → ℕ). u r) (sym (undo-run os (times n A x) g (λ i. dot_octet n (A i) x)))
      ∙ run_local m (undo os) (run os (times n A x)) (λ _. 0) (within_undo m os b)
      (λ i q. ap (λ (u : ℕ → ℕ). u i) (run-times n os A x) ∙ h i q) r l
      ∙ ap (λ (u : ℕ → ℕ). u r) (run-zero (undo os))
