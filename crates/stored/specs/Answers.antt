-- What reading and writing a stored list answer, for every input.
--   refusal_number   the number of a refusal
--   read_number, written_number   the number of an answer: 0, or that of the refusal
--   said             what a form says of its list
--   same_kept        what is said of two lists is the same, field by field
--   same_order       an order that stands where the flag says so passes the checks just then
--   judged, judged_by   what reading a form answers, rooms being for that many operations and order entries
--   Got, read_of     the answer of reading, and both rooms afterwards
--   got, settled    an answer beside two rooms; beside the rooms that it leaves, which are filled, or as they were at a refusal
--   read_as, write_as   an answer that was judged is what reading, or writing, gives
--   judged_list      what writing a list answers, into a room of that many bytes
--   Put, write_of    the answer of writing, and the room afterwards
--   put_in, settled_list   an answer beside a room; beside the room that it leaves, which is filled, or as it was at a refusal
--   read_number_of, write_number_of   the number of the answer, by what is refused first
--   Read, Wrote     what `read` and `write` promise of their answer r and the rooms that they leave
--   read_met, write_met     the answer and the rooms keep the promise
--   read_once, write_once   two outcomes that keep a promise are the same
-- Assumes nothing.
use Rattle.std.specs.Prelude.{ℕ, ◌+◌, ◌*◌, ◌≡◌, Bool, ◌&&◌, List, [], length, drop, Option, Some, None, is_some, unwrap_or, if◌then◌else◌, Result, Ok, Err}
use Rattle.std.proofs.Math.Path.{refl, ap}
use Rattle.std.proofs.Common.{sym, ◌∙◌}
use Rattle.std.proofs.Math.Bool.{true, false, cond}
use Rattle.std.proofs.Math.Dec.{leb}
use Rattle.oplist.specs.Listed.{ops_of}
use Rattle.oplist.specs.Check.{shape_fine, list_fine, order_fine}
use Rattle.stored.specs.declared.Kept.{Kept}
use Rattle.stored.specs.declared.Refusal.{Refusal}
use Rattle.stored.specs.declared.Refusal.TheVariants.{BadShape, NoRoom, BadList, BadForm}
use Rattle.stored.specs.Bytes.{padded}
use Rattle.stored.specs.Form.{form_of, form_size, form_fine, order_size, rows_in, columns_in, ops_in, ordered_in, words_at, words_in, order_in}

abbrev pub refusal_number : Refusal → ℕ
refusal_number BadShape = 2
refusal_number NoRoom = 4
refusal_number BadList = 8
refusal_number BadForm = 10

abbrev pub read_number : Result Kept Refusal → ℕ
read_number (Ok k) = 0
read_number (Err e) = refusal_number e

abbrev pub said : List ℕ → Kept
said b = record { rows = rows_in b; columns = columns_in b; operations = ops_in b; ordered = ordered_in b }

pub same_kept : {m l n m' l' n' : ℕ} {f f' : Bool} → m ≡ m' → l ≡ l' → n ≡ n' → f ≡ f'
    → ◌≡◌ {A = Kept} (record { rows = m; columns = l; operations = n; ordered = f }) (record { rows = m'; columns = l'; operations = n'; ordered = f' })
same_kept p q r s = rw (p, q, r, s)

pub same_order : (m l : ℕ) (f : Bool) (xs : List ℕ) (o : Option (List ℕ)) → o ≡ (if f then Some xs else None) → order_fine m l (is_some o) (unwrap_or o []) ≡ order_fine m l f xs
unfolding order_fine
same_order m l true xs o e = rw e
same_order m l false xs o e = rw e

-- of a form that is well made: refusal 2 comes first, then 4 and 8
unfoldable pub judged_by : Kept → List ℕ → ℕ → ℕ → Result Kept Refusal
judged_by k b listRoom orderRoom =
    cond (shape_fine k.rows k.columns k.operations)
    (cond (leb k.operations listRoom && leb (order_size k.ordered k.columns) orderRoom)
    (cond (list_fine k.rows (words_at b 13 k.operations) && order_fine k.rows k.columns k.ordered (drop (14 + 4 * k.operations) b)) (Ok k) (Err BadList)) (Err NoRoom)) (Err BadShape)

-- refusal 10 comes before all
unfoldable pub judged : List ℕ → ℕ → ℕ → Result Kept Refusal
judged b listRoom orderRoom = cond (form_fine b) (judged_by (said b) b listRoom orderRoom) (Err BadForm)

pub record Got : Type 0 where
  pub answer : Result Kept Refusal
  pub list : List ℕ
  pub order : List ℕ

abbrev pub got : Result Kept Refusal → List ℕ → List ℕ → Got
got r list order = record { answer = r; list = list; order = order }

-- a list that is kept is put into the rooms, with zeros after it; a refusal changes nothing
abbrev pub settled : Result Kept Refusal → List ℕ → List ℕ → List ℕ → Got
settled (Ok k) b list order = got (Ok k) (padded (words_in b) (length list)) (padded (order_in b) (length order))
settled (Err e) b list order = got (Err e) list order

unfoldable pub read_of : List ℕ → List ℕ → List ℕ → Got
read_of b list order = settled (judged b (length list) (length order)) b list order

pub read_as : (b list order : List ℕ) {r s : Result Kept Refusal} → r ≡ judged b (length list) (length order) → r ≡ s → settled s b list order ≡ read_of b list order
unfolding read_of
read_as b list order e f = ap (λ (a : Result Kept Refusal). settled a b list order) (sym f ∙ e)

abbrev pub written_number : Result ℕ Refusal → ℕ
written_number (Ok n) = 0
written_number (Err e) = refusal_number e

-- refusal 2 comes first, then 4 and 8
unfoldable pub judged_list : ℕ → ℕ → List ℕ → Bool → List ℕ → ℕ → Result ℕ Refusal
judged_list m l ws ordered order room =
    cond (shape_fine m l (length ws))
    (cond (leb (form_size (length ws) l ordered) room)
    (cond (list_fine m ws && order_fine m l ordered order) (Ok (form_size (length ws) l ordered)) (Err BadList)) (Err NoRoom)) (Err BadShape)

pub record Put : Type 0 where
  pub answer : Result ℕ Refusal
  pub out : List ℕ

abbrev pub put_in : Result ℕ Refusal → List ℕ → Put
put_in r out = record { answer = r; out = out }

-- the form is put into the room, with zeros after it; a refusal changes nothing
abbrev pub settled_list : Result ℕ Refusal → ℕ → ℕ → List ℕ → Bool → List ℕ → List ℕ → Put
settled_list (Ok n) m l ws ordered order out = put_in (Ok n) (padded (form_of m l (ops_of ws) ordered order) (length out))
settled_list (Err e) m l ws ordered order out = put_in (Err e) out

unfoldable pub write_of : ℕ → ℕ → List ℕ → Bool → List ℕ → List ℕ → Put
write_of m l ws ordered order out = settled_list (judged_list m l ws ordered order (length out)) m l ws ordered order out

pub write_as : (m l : ℕ) (ws : List ℕ) (ordered : Bool) (order out : List ℕ) {r s : Result ℕ Refusal}
    → r ≡ judged_list m l ws ordered order (length out) → r ≡ s → settled_list s m l ws ordered order out ≡ write_of m l ws ordered order out
unfolding write_of
write_as m l ws ordered order out e f = ap (λ (a : Result ℕ Refusal). settled_list a m l ws ordered order out) (sym f ∙ e)

-- 10 before 2 before 4 before 8
unfoldable pub read_number_of : List ℕ → ℕ → ℕ → ℕ
read_number_of b listRoom orderRoom =
    cond (form_fine b)
    (cond (shape_fine (rows_in b) (columns_in b) (ops_in b))
    (cond (leb (ops_in b) listRoom && leb (order_size (ordered_in b) (columns_in b)) orderRoom)
    (cond (list_fine (rows_in b) (words_in b) && order_fine (rows_in b) (columns_in b) (ordered_in b) (order_in b)) 0 8) 4) 2) 10

-- 2 before 4 before 8
unfoldable pub write_number_of : ℕ → ℕ → List ℕ → Bool → List ℕ → ℕ → ℕ
write_number_of m l ws ordered order room =
    cond (shape_fine m l (length ws))
    (cond (leb (form_size (length ws) l ordered) room) (cond (list_fine m ws && order_fine m l ordered order) 0 8) 4) 2

pub record Read (b list order : List ℕ) (r : Result Kept Refusal) (ws os : List ℕ) : Type 0 where
  pub is : got r ws os ≡ read_of b list order
  pub number_is : read_number r ≡ read_number_of b (length list) (length order)

pub record Wrote (m l : ℕ) (ws : List ℕ) (order : Option (List ℕ)) (out : List ℕ) (r : Result ℕ Refusal) (x : List ℕ) : Type 0 where
  pub is : put_in r x ≡ write_of m l ws (is_some order) (unwrap_or order []) out
  pub number_is : written_number r ≡ write_number_of m l ws (is_some order) (unwrap_or order []) (length out)

module _ {b list order : List ℕ} {r : Result Kept Refusal} {ws os : List ℕ} where
  pub read_met : got r ws os ≡ read_of b list order → Read b list order r ws os
  unfolding read_of read_number_of judged judged_by
  read_met e =
      record {
        is = e;
        number_is = ap (λ (g : Got). read_number g.answer) e
            ∙ at (form_fine b) (shape_fine (rows_in b) (columns_in b) (ops_in b)) (leb (ops_in b) (length list) && leb (order_size (ordered_in b) (columns_in b)) (length order))
            (list_fine (rows_in b) (words_in b) && order_fine (rows_in b) (columns_in b) (ordered_in b) (order_in b));
      }
    where
      at : (f s p q : Bool)
          → read_number (settled (cond f (cond s (cond p (cond q (Ok (said b)) (Err BadList)) (Err NoRoom)) (Err BadShape)) (Err BadForm)) b list order).answer
          ≡ cond f (cond s (cond p (cond q 0 8) 4) 2) 10
      at true true true true = refl
      at true true true false = refl
      at true true false q = refl
      at true false p q = refl
      at false s p q = refl

module _ {m l : ℕ} {ws : List ℕ} {order : Option (List ℕ)} {out : List ℕ} {r : Result ℕ Refusal} {x : List ℕ} where
  pub write_met : put_in r x ≡ write_of m l ws (is_some order) (unwrap_or order []) out → Wrote m l ws order out r x
  unfolding write_of write_number_of judged_list
  write_met e =
      record {
        is = e;
        number_is = ap (λ (g : Put). written_number g.answer) e
            ∙ at (is_some order) (unwrap_or order []) (shape_fine m l (length ws)) (leb (form_size (length ws) l (is_some order)) (length out)) (list_fine m ws && order_fine m l (is_some order) (unwrap_or order []));
      }
    where
      at : (ordered : Bool) (entries : List ℕ) (s p q : Bool)
          → written_number (settled_list (cond s (cond p (cond q (Ok (form_size (length ws) l ordered)) (Err BadList)) (Err NoRoom)) (Err BadShape)) m l ws ordered entries out).answer
          ≡ cond s (cond p (cond q 0 8) 4) 2
      at f os true true true = refl
      at f os true true false = refl
      at f os true false q = refl
      at f os false p q = refl

pub read_once : {b list order : List ℕ} {r r' : Result Kept Refusal} {l o l' o' : List ℕ} → Read b list order r l o → Read b list order r' l' o' → got r l o ≡ got r' l' o'
read_once e f = e.is ∙ sym f.is

pub write_once : {m l : ℕ} {ws : List ℕ} {order : Option (List ℕ)} {out : List ℕ} {r r' : Result ℕ Refusal} {x x' : List ℕ}
    → Wrote m l ws order out r x → Wrote m l ws order out r' x' → put_in r x ≡ put_in r' x'
write_once e f = e.is ∙ sym f.is
