-- What it says that a form is kept, or that a list is written.
--   Accepted                            the form is well made, and passes each test
--   IsKept                              the same, and some numbers and a flag are those that it says
--   judged_accepted, accepted_judged    a form is kept just then, with what it says
--   Placed, kept-placed, judged-placed  numbers of a form that is kept keep to their bounds
--   kept_read, done_write               what is in the rooms then
--   length-order_in                      how many entries the order of a form has
--   Accepts                             the list passes each test
--   judged_accepts, accepts_judged      a list is written just then
--   done-size                           as many bytes as its form has
--   Sized                               they and the numbers of the list fit their places in a form
-- Assumes nothing.
use Rattle.std.specs.Prelude.{ℕ, ◌+◌, ◌*◌, ◌<◌, ◌≤◌, Bool, ◌&&◌, List, length, drop, Result, Ok, Err, IfOk}
use Rattle.std.proofs.Math.Path.{◌≡◌, refl}
use Rattle.std.proofs.Common.{sym, ap, ◌∙◌, arith, length-drop}
use Rattle.std.proofs.Math.Bool.{true, false, cond}
use borrow.Author.Tests.{leb-true, le-leb}
use Rattle.std.proofs.Math.Dec.{leb}
use Rattle.bounds.specs.Bounds.{most_ops}
use Rattle.oplist.specs.Check.{shape_fine, list_fine, order_fine}
use Rattle.oplist.specs.Facts.{and_left, and_right, shape_fine-shape}
use Rattle.stored.specs.declared.Kept.{Kept}
use Rattle.stored.specs.declared.Refusal.{Refusal}
use Rattle.stored.specs.declared.Refusal.TheVariants.{BadShape, NoRoom, BadList, BadForm}
use Rattle.oplist.specs.Listed.{ops_of}
use Rattle.stored.specs.Bytes.{padded}
use Rattle.stored.specs.Form.{form_of, order_size, form_size, form_fine, rows_in, columns_in, ops_in, ordered_in, words_at, words_in, order_in}
use Rattle.stored.specs.Answers.{said, same_kept, judged_by, judged, got, read_of, judged_list, put_in, write_of}
use Rattle.stored.specs.Formed.{Formed, form_fine_formed, formed_form_fine}

pub length-order_in : (b : List ℕ) → Formed b → length (order_in b) ≡ order_size (ordered_in b) (columns_in b)
length-order_in b F = let s = F.size in length-drop (14 + 4 * ops_in b) b ∙ omega arith

pub record Accepted (b : List ℕ) (listRoom orderRoom : ℕ) : Type 0 where
  pub formed : Formed b
  pub shape : shape_fine (rows_in b) (columns_in b) (ops_in b) ≡ true
  pub list_fits : ops_in b ≤ listRoom
  pub order_fits : order_size (ordered_in b) (columns_in b) ≤ orderRoom
  pub list : list_fine (rows_in b) (words_in b) ≡ true
  pub order : order_fine (rows_in b) (columns_in b) (ordered_in b) (order_in b) ≡ true

-- a form is kept, with what it says
pub record IsKept (b : List ℕ) (listRoom orderRoom : ℕ) (k : Kept) : Type 0 where
  pub accepted : Accepted b listRoom orderRoom
  pub rows : k.rows ≡ rows_in b
  pub columns : k.columns ≡ columns_in b
  pub ops : k.operations ≡ ops_in b
  pub flag : k.ordered ≡ ordered_in b

module _ (b : List ℕ) (listRoom orderRoom : ℕ) where
  pub accepted_judged : Accepted b listRoom orderRoom → judged b listRoom orderRoom ≡ Ok (said b)
  unfolding judged judged_by
  accepted_judged A =
      rw (formed_form_fine b A.formed, A.shape, le-leb _ _ A.list_fits, le-leb _ _ A.order_fits, A.list, A.order)

  pub judged_accepted : (k : Kept) → judged b listRoom orderRoom ≡ Ok k → IsKept b listRoom orderRoom k
  unfolding judged judged_by
  judged_accepted k q =
      go (form_fine b) (shape_fine (rows_in b) (columns_in b) (ops_in b)) (leb (ops_in b) listRoom && leb (order_size (ordered_in b) (columns_in b)) orderRoom)
      (list_fine (rows_in b) (words_in b) && order_fine (rows_in b) (columns_in b) (ordered_in b) (order_in b)) refl refl refl refl q
    where
      go : (x s r t : Bool) → form_fine b ≡ x → shape_fine (rows_in b) (columns_in b) (ops_in b) ≡ s
          → (leb (ops_in b) listRoom && leb (order_size (ordered_in b) (columns_in b)) orderRoom) ≡ r
          → (list_fine (rows_in b) (words_in b) && order_fine (rows_in b) (columns_in b) (ordered_in b) (order_in b)) ≡ t
          → cond x (cond s (cond r (cond t (Ok (said b)) (Err BadList)) (Err NoRoom)) (Err BadShape)) (Err BadForm) ≡ Ok k
          → IsKept b listRoom orderRoom k
      go true true true true e1 e2 e3 e4 h =
          let i : said b ≡ k = cc in
          record {
            accepted = record {
              formed = form_fine_formed b e1;
              shape = e2;
              list_fits = leb-true _ _ (and_left (leb (ops_in b) listRoom) _ e3);
              order_fits = leb-true _ _ (and_right (leb (ops_in b) listRoom) _ e3);
              list = and_left (list_fine (rows_in b) (words_in b)) _ e4;
              order = and_right (list_fine (rows_in b) (words_in b)) _ e4;
            };
            rows = ap (λ (x : Kept). x.rows) (sym i);
            columns = ap (λ (x : Kept). x.columns) (sym i);
            ops = ap (λ (x : Kept). x.operations) (sym i);
            flag = ap (λ (x : Kept). x.ordered) (sym i);
          }
      go true true true false e1 e2 e3 e4 h = cc
      go true true false t e1 e2 e3 e4 h = cc
      go true false r t e1 e2 e3 e4 h = cc
      go false s r t e1 e2 e3 e4 h = cc

pub record Placed (b : List ℕ) (listRoom orderRoom n : ℕ) : Type 0 where
  pub few : n ≤ most_ops
  pub whole : 14 + 4 * n ≤ length b
  pub list : n ≤ listRoom
  pub order : length (drop (14 + 4 * n) b) ≤ orderRoom

pub kept-placed : (b : List ℕ) (listRoom orderRoom : ℕ) (k : Kept) → IsKept b listRoom orderRoom k → Placed b listRoom orderRoom k.operations
kept-placed b listRoom orderRoom k K =
    let A = K.accepted in
    let s = A.formed.size in
    let o = length-order_in b A.formed in
    let e = K.ops in
    let few = (shape_fine-shape _ _ _ A.shape).ops in
    record {
      few = omega arith;
      whole = omega arith;
      list = omega (arith, A.list_fits);
      order = rw e (omega (arith, A.order_fits));
    }

pub judged-placed : (b : List ℕ) (listRoom orderRoom : ℕ) (r : Result Kept Refusal) → r ≡ judged b listRoom orderRoom → IfOk r (λ k. Placed b listRoom orderRoom k.operations)
judged-placed b listRoom orderRoom (Ok k) e = kept-placed b listRoom orderRoom k (judged_accepted b listRoom orderRoom k (sym e))
judged-placed b listRoom orderRoom (Err x) e = tt

pub kept_read : (b list order : List ℕ) (k : Kept) (ws os : List ℕ) → IsKept b (length list) (length order) k
    → ws ≡ padded (words_at b 13 k.operations) (length list) → os ≡ padded (drop (14 + 4 * k.operations) b) (length order) → got (Ok k) ws os ≡ read_of b list order
unfolding read_of
kept_read b list order k ws os K p q =
    let e : k ≡ said b = same_kept K.rows K.columns K.ops K.flag in
    rw (accepted_judged b (length list) (length order) K.accepted, p, q, e)

pub record Accepts (m l : ℕ) (ws : List ℕ) (ordered : Bool) (order : List ℕ) (room : ℕ) : Type 0 where
  pub shape : shape_fine m l (length ws) ≡ true
  pub fits : form_size (length ws) l ordered ≤ room
  pub list : list_fine m ws ≡ true
  pub orderly : order_fine m l ordered order ≡ true

-- the numbers of a list and of the n bytes of its form fit their places
pub record Sized (m l ops n : ℕ) : Type 0 where
  pub long : 14 ≤ n
  pub small : n < 4294967296
  pub rows : m < 65536
  pub columns : l < 65536
  pub few : ops < 4294967296

module _ (m l : ℕ) (ws : List ℕ) (ordered : Bool) (order : List ℕ) (room : ℕ) where
  pub accepts_judged : Accepts m l ws ordered order room → judged_list m l ws ordered order room ≡ Ok (form_size (length ws) l ordered)
  unfolding judged_list
  accepts_judged A = rw (A.shape, le-leb _ _ A.fits, A.list, A.orderly)

  pub judged_accepts : (n : ℕ) → judged_list m l ws ordered order room ≡ Ok n → Accepts m l ws ordered order room
  unfolding judged_list
  judged_accepts n q =
      go (shape_fine m l (length ws)) (leb (form_size (length ws) l ordered) room) (list_fine m ws && order_fine m l ordered order) refl refl refl q
    where
      go : (s r t : Bool) → shape_fine m l (length ws) ≡ s → leb (form_size (length ws) l ordered) room ≡ r → (list_fine m ws && order_fine m l ordered order) ≡ t
          → cond s (cond r (cond t (Ok (form_size (length ws) l ordered)) (Err BadList)) (Err NoRoom)) (Err BadShape) ≡ Ok n
          → Accepts m l ws ordered order room
      go true true true e1 e2 e3 k =
          record {
            shape = e1;
            fits = leb-true _ _ e2;
            list = and_left (list_fine m ws) _ e3;
            orderly = and_right (list_fine m ws) _ e3;
          }
      go true true false e1 e2 e3 k = cc
      go true false t e1 e2 e3 k = cc
      go false r t e1 e2 e3 k = cc

  pub done-size : (n : ℕ) → judged_list m l ws ordered order room ≡ Ok n → n ≡ form_size (length ws) l ordered
  done-size n q =
      let e : ◌≡◌ {A = Result ℕ Refusal} (Ok n) (Ok (form_size (length ws) l ordered)) = sym q ∙ accepts_judged (judged_accepts n q) in
      cc

  pub done_write : (out x : List ℕ) (n : ℕ) → judged_list m l ws ordered order (length out) ≡ Ok n
      → x ≡ padded (form_of m l (ops_of ws) ordered order) (length out) → put_in (Ok n) x ≡ write_of m l ws ordered order out
  unfolding write_of
  done_write out x n q p = rw (q, p)
