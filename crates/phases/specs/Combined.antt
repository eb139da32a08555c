-- The combined matrix of a call is a system that the definition takes.
--   combined_ignores   what the binary matrix holds in the octet rows is ignored: two that are equal before and after these rows give one combined matrix
--   combined_octet   an octet row
-- Assumes nothing.
use Rattle.std.specs.Prelude.{◌≡◌, ◌⊎◌, List, ℕ, ◌+◌, ◌-◌, ◌*◌, ◌<◌, ◌≤◌, take, drop}
use Rattle.std.proofs.Common.{sym, ap, ◌∙◌, inl, inr, lt-ltb, le-ltb, le-leb}
use Rattle.std.proofs.Math.Path.{fun_ext}
use Rattle.std.proofs.lemmas.Bool.{lt-leb}
use Rattle.loops.specs.Entry.{entry_at, entry-take, entry-drop}
use Rattle.phases.specs.System.{Shape, combined}
use Rattle.phases.specs.Fit.{less?}

module _ (z : Shape) (binary binary' octets : List ℕ) where
  pub combined_ignores : take (z.s * z.n) binary ≡ take (z.s * z.n) binary'
      → drop ((z.s + z.h) * z.n) binary ≡ drop ((z.s + z.h) * z.n) binary' → combined z binary octets ≡ combined z binary' octets
  combined_ignores before after = fun_ext (λ x. fun_ext (λ q. at x q (less? x z.s) (less? x (z.s + z.h))))
    where
      at : (x q : ℕ) → (x < z.s) ⊎ (z.s ≤ x) → (x < z.s + z.h) ⊎ (z.s + z.h ≤ x) → combined z binary octets x q ≡ combined z binary' octets x q
      at x q (inl a) b =
          rw (lt-leb z.s x a)
          (sym (entry-take z.n binary x q z.s a) ∙ ap (λ (m : List ℕ). entry_at z.n m x q) before ∙ entry-take z.n binary' x q z.s a)
      at x q (inr a) (inl b) = rw (le-leb z.s x a, lt-ltb x (z.s + z.h) b)
      at x q (inr a) (inr b) =
          rw (le-leb z.s x a, le-ltb x (z.s + z.h) b)
          (sym (entry-drop z.n binary x q (z.s + z.h) b) ∙ ap (λ (m : List ℕ). entry_at z.n m (x - (z.s + z.h)) q) after
          ∙ entry-drop z.n binary' x q (z.s + z.h) b)

module _ (z : Shape) (binary octets : List ℕ) where
  pub combined_octet : (x q : ℕ) → z.s ≤ x → x < z.s + z.h → combined z binary octets x q ≡ entry_at z.n octets (x - z.s) q
  combined_octet x q a b = rw (le-leb z.s x a, lt-ltb x (z.s + z.h) b)
