-- What it says that a form is well made.
--   Formed                            length, version, flag and unused bytes are right
--   form_fine_formed, formed_form_fine  the test is just that
--   not_formed, formed_rest           it fails where one of these does; it is the last of them where the others hold
--   flag_at, size-at                  the flag and the size, by numbers that were read
-- Assumes nothing.
use Rattle.std.specs.Prelude.{ℕ, ◌+◌, ◌*◌, ◌≤◌, ◌≡◌, refl, Bool, true, false, List, leb, eqb, length, get_or}
use Rattle.std.proofs.Common.{ap, ap₂, ◌∙◌, arith, leb-true, eqb-true, le-leb, eq-eqb}
use Rattle.oplist.specs.Facts.{and_left, and_right}
use Rattle.stored.specs.Bytes.{number4}
use Rattle.stored.specs.Form.{order_size, form_size, columns_in, ops_in, flag_in, ordered_in, unused_fine, form_fine}

pub record Formed (b : List ℕ) : Type 0 where
  pub long : 14 ≤ length b
  pub follows : number4 b 0 + 4 ≡ length b
  pub version : get_or b 4 0 ≡ 1
  pub flag : flag_in b ≤ 1
  pub size : length b ≡ form_size (ops_in b) (columns_in b) (ordered_in b)
  pub unused : unused_fine b 13 (ops_in b) ≡ true

pub form_fine_formed : (b : List ℕ) → form_fine b ≡ true → Formed b
unfolding form_fine
form_fine_formed b e =
    let f = and_right (leb 14 (length b)) _ e in
    let g = and_right (eqb (number4 b 0 + 4) (length b)) _ f in
    let h = and_right (eqb (get_or b 4 0) 1) _ g in
    let i = and_right (leb (flag_in b) 1) _ h in
    record {
      long = leb-true _ _ (and_left (leb 14 (length b)) _ e);
      follows = eqb-true _ _ (and_left (eqb (number4 b 0 + 4) (length b)) _ f);
      version = eqb-true _ _ (and_left (eqb (get_or b 4 0) 1) _ g);
      flag = leb-true _ _ (and_left (leb (flag_in b) 1) _ h);
      size = eqb-true _ _ (and_left (eqb (length b) (form_size (ops_in b) (columns_in b) (ordered_in b))) _ i);
      unused = and_right (eqb (length b) (form_size (ops_in b) (columns_in b) (ordered_in b))) _ i;
    }

pub formed_rest : (b : List ℕ) → 14 ≤ length b → number4 b 0 + 4 ≡ length b → get_or b 4 0 ≡ 1 → flag_in b ≤ 1
    → length b ≡ form_size (ops_in b) (columns_in b) (ordered_in b) → form_fine b ≡ unused_fine b 13 (ops_in b)
unfolding form_fine
formed_rest b long follows version flag size =
    rw (
      le-leb 14 (length b) long,
      eq-eqb (number4 b 0 + 4) (length b) follows,
      eq-eqb (get_or b 4 0) 1 version,
      le-leb (flag_in b) 1 flag,
      eq-eqb (length b) (form_size (ops_in b) (columns_in b) (ordered_in b)) size,
    )

pub formed_form_fine : (b : List ℕ) → Formed b → form_fine b ≡ true
formed_form_fine b F = formed_rest b F.long F.follows F.version F.flag F.size ∙ F.unused

pub not_formed : (b : List ℕ) → (Formed b → ⊥) → form_fine b ≡ false
not_formed b h = at (form_fine b) refl
  where
    at : (x : Bool) → form_fine b ≡ x → x ≡ false
    at true e = absurd (h (form_fine_formed b e))
    at false e = refl

pub flag_at : (b : List ℕ) (n : ℕ) → n ≡ ops_in b → get_or b (13 + 4 * n) 0 ≡ flag_in b
flag_at b n e = ap (λ (k : ℕ). get_or b (13 + 4 * k) 0) e

pub size-at : (b : List ℕ) (n l s : ℕ) → n ≡ ops_in b → l ≡ columns_in b → s ≡ order_size (eqb (get_or b (13 + 4 * n) 0) 1) l
    → 13 + 4 * n + 1 + s ≡ form_size (ops_in b) (columns_in b) (ordered_in b)
size-at b n l s e f g =
    let h : s ≡ order_size (ordered_in b) (columns_in b) = g ∙ ap₂ (λ (x y : ℕ). order_size (eqb x 1) y) (flag_at b n e) f in
    rw (← h, ← e) (omega arith)
