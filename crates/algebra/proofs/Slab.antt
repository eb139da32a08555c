-- What a solved call means for lists of bytes: the slab is one list of m rows of w bytes, a set of intermediate symbols one list of n rows of w bytes.
--   solved             after a list that reduces the matrix, the slab read through the order is the set that makes it
--   only               no other set makes it
--   agrees_if, agrees_only_if, report   rows that the order does not name are zeros exactly if some set makes the slab
-- Assumes nothing.
use Rattle.std.specs.Prelude.{◌≡◌, ◌↔◌, List, length}
use Rattle.std.proofs.Common.{sym, ◌∙◌}
use Rattle.std.proofs.Math.Path.{ap}
use Prim.Native.Nat.{ℕ, ◌+◌, ◌*◌, ◌/◌, ◌%◌, ◌<◌}
use Rattle.std.proofs.Math.ListN.{get_or}
use Rattle.octet.specs.Octet.{mul}
use Rattle.oplist.specs.declared.Op.{Op}
use Rattle.algebra.specs.Sums.{sum_ext}
use Rattle.algebra.specs.Rows.{run}
use Rattle.algebra.specs.Solve.{Reduces}
use Rattle.algebra.proofs.Solve.{recovered, agrees, makes}
use Rattle.algebra.specs.Flat.{Bytes, view, acts}
use Rattle.algebra.proofs.Flat.{view-acts, acts-bytes, by_columns}
use Rattle.algebra.specs.Slab.{Agrees, Source, length-tab, tab-bytes, through, view-through}

module _ (m n w : ℕ) (os : List Op) (A : ℕ → ℕ → ℕ) (order : ℕ → ℕ) (R : Reduces m n os A order) (hw : 0 < w)
    (D : List ℕ) (zD : length D ≡ m * w) (bD : Bytes D) where
  pub solved : (C : List ℕ) → Source m n w A C D → through n w order (acts w os D) ≡ C
  unfolding through
  solved C S =
      by_columns n w hw (through n w order (acts w os D)) C (length-tab (n * w) (λ k. get_or (acts w os D) (order (k / w) * w + k % w) 0)) S.size
      (λ t j ht hj. view-through n w order (acts w os D) t j ht hj
      ∙ ap (λ (u : ℕ → ℕ). u (order j)) (view-acts m w os D zD R.within t ht)
      ∙ recovered m n os A order R (view w t C) (view w t D) (λ i. S.bytes (i * w + t)) (S.makes t ht) j hj)

  pub only : (C E : List ℕ) → Source m n w A C D → Source m n w A E D → C ≡ E
  only C E S U = sym (solved C S) ∙ solved E U

  pub agrees_if : (C : List ℕ) → Source m n w A C D → Agrees m n w os A order R hw D zD bD
  agrees_if C S r hr un t ht =
      ap (λ (u : ℕ → ℕ). u r) (view-acts m w os D zD R.within t ht)
      ∙ agrees m n os A order R (view w t C) (view w t D) (S.makes t ht) r hr un

  pub agrees_only_if : Agrees m n w os A order R hw D zD bD → Source m n w A (through n w order (acts w os D)) D
  unfolding through
  agrees_only_if G = record {
    size = length-tab (n * w) (λ k. get_or (acts w os D) (order (k / w) * w + k % w) 0);
    bytes = tab-bytes (n * w) (λ k. get_or (acts w os D) (order (k / w) * w + k % w) 0)
        (λ k. acts-bytes m w hw os D zD bD R.within (order (k / w) * w + k % w));
    makes = λ t ht r hr.
        sum_ext n (λ j. mul (A r j) (view w t (through n w order (acts w os D)) j)) (λ j. mul (A r j) (run os (view w t D) (order j)))
        (λ j hj. ap (λ (z : ℕ). mul (A r j) z)
        (view-through n w order (acts w os D) t j ht hj ∙ ap (λ (u : ℕ → ℕ). u (order j)) (view-acts m w os D zD R.within t ht)))
        ∙ makes m n os A order R (view w t D) (λ i. bD (i * w + t))
        (λ i hi un. ap (λ (u : ℕ → ℕ). u i) (sym (view-acts m w os D zD R.within t ht)) ∙ G i hi un t ht) r hr;
  }

  pub report : ((C : List ℕ) × Source m n w A C D) ↔ Agrees m n w os A order R hw D zD bD
  report = (λ c. agrees_if c.0 c.1, λ g. (through n w order (acts w os D), agrees_only_if g))
