-- The text of an answer, from the rooms that reading filled.
--   Holds         as many words as are kept, each of them an operation's, and the order, where there is one, are in the rooms
--   Filled        the rooms hold as much as the answer says
--   room_text      the text of what they hold, or of the refusal
--   Shown, read_shown   after reading, that is the text of the form
--   Screen, showing     the text room and both other rooms after showing a form
--   screen, same_screen   an outcome from its three rooms; rooms that are equal make equal outcomes
--   show_once           two outcomes that meet the statement are the same
-- Assumes nothing.
use Rattle.std.specs.Prelude.{ℕ, ◌≤◌, ◌≡◌, leb, length, take, cond, Result, Ok, Err}
use Rattle.std.proofs.Math.Path.{refl, subst}
use Rattle.std.proofs.Common.{sym, ap, ap₂, ◌∙◌, arith, take_at}
use mathlib.Core.List.{List}
use Rattle.loops.specs.Room.{Log, log, puts}
use Rattle.oplist.specs.Listed.{ops_of, length-ops_of}
use Rattle.oplist.specs.Facts.{list_fine-known}
use Rattle.stored.specs.declared.Kept.{Kept}
use Rattle.stored.specs.declared.Refusal.{Refusal}
use Rattle.stored.specs.declared.Refusal.TheVariants.{NoRoom}
use Rattle.stored.specs.Bytes.{padded, length-padded}
use Rattle.stored.specs.Form.{order_size, rows_in, columns_in, ops_in, ordered_in, words_in, order_in}
use Rattle.stored.specs.Scan.{length-words_at}
use Rattle.stored.specs.Answers.{refusal_number, judged, Got, got, settled, read_of}
use Rattle.stored.specs.Accepted.{length-order_in, judged_accepted}
use Rattle.shown.specs.Text.{list_text, refused_text, answer_text, most_shown}
use Rattle.shown.specs.Put.{byte}

-- the operations and the order, where there is one, are in the rooms
pub record Holds (k : Kept) (ws os : List ℕ) : Type 0 where
  pub list : k.operations ≤ length ws
  pub order : order_size k.ordered k.columns ≤ length os
  pub known : length (ops_of (take k.operations ws)) ≡ length (take k.operations ws)

abbrev pub Filled : Result Kept Refusal → List ℕ → List ℕ → Type 0
Filled (Ok k) ws os = Holds k ws os
Filled (Err e) ws os = Unit {0}

abbrev pub room_text : Result Kept Refusal → List ℕ → List ℕ → List ℕ
room_text (Ok k) ws os = list_text k.rows k.columns (ops_of (take k.operations ws)) k.ordered (take (order_size k.ordered k.columns) os)
room_text (Err e) ws os = refused_text (refusal_number e)

pub record Shown (r : Result Kept Refusal) (ws os t : List ℕ) : Type 0 where
  pub filled : Filled r ws os
  pub is : room_text r ws os ≡ t

front : (xs : List ℕ) (n k : ℕ) → length xs ≡ n → take n (padded xs k) ≡ xs
unfolding padded
front xs n k e = take_at xs _ n e

module _ (b list order : List ℕ) where
  kept_shown : (k : Kept) → judged b (length list) (length order) ≡ Ok k
      → Shown (Ok k) (padded (words_in b) (length list)) (padded (order_in b) (length order)) (answer_text (Ok k) b)
  kept_shown k q =
      let K = judged_accepted b (length list) (length order) k q in
      let A = K.accepted in
      let w : length (words_in b) ≡ k.operations = length-words_at b 13 (ops_in b) ∙ sym K.ops in
      let o : length (order_in b) ≡ order_size k.ordered k.columns = length-order_in b A.formed ∙ ap₂ order_size (sym K.flag) (sym K.columns) in
      let s : order_size (ordered_in b) (columns_in b) ≡ order_size k.ordered k.columns = ap₂ order_size (sym K.flag) (sym K.columns) in
      let p = length-padded (words_in b) (length list) (omega (arith, A.list_fits, K.ops)) in
      let v = length-padded (order_in b) (length order) (omega (arith, A.order_fits)) in
      let tw = front (words_in b) k.operations (length list) w in
      let to = front (order_in b) (order_size k.ordered k.columns) (length order) o in
      record {
        filled = record {
          list = omega (arith, A.list_fits, K.ops);
          order = omega (arith, A.order_fits);
          known = rw tw (length-ops_of (words_in b) (list_fine-known (rows_in b) (words_in b) A.list));
        };
        is = rw (tw, to);
      }

  pub read_shown : (r : Result Kept Refusal) (ws os : List ℕ) → got r ws os ≡ read_of b list order → Shown r ws os (answer_text (judged b (length list) (length order)) b)
  unfolding read_of
  read_shown r ws os e = of (judged b (length list) (length order)) refl e
    where
      made : (g : Got) (t : List ℕ) → got r ws os ≡ g → Shown g.answer g.list g.order t → Shown r ws os t
      made g t q s = subst (λ (x : Got). Shown x.answer x.list x.order t) (sym q) s

      of : (j : Result Kept Refusal) → judged b (length list) (length order) ≡ j → got r ws os ≡ settled j b list order → Shown r ws os (answer_text j b)
      of (Ok k) q h = made _ _ h (kept_shown k q)
      of (Err x) q h = made _ _ h (record { filled = tt; is = refl })

pub record Screen : Type 0 where
  pub text : Log
  pub list : List ℕ
  pub order : List ℕ

abbrev pub screen : Log → List ℕ → List ℕ → Screen
screen g list order = record { text = g; list = list; order = order }

-- the text is put from the front of its room; the other rooms are as reading leaves them, and a form of too many bytes is refused before it is read
unfoldable pub showing : List ℕ → List ℕ → List ℕ → List ℕ → Screen
showing b list order out =
    cond (leb (length b) most_shown)
    (screen (puts byte (log out 0) (answer_text (judged b (length list) (length order)) b)) (read_of b list order).list (read_of b list order).order)
    (screen (puts byte (log out 0) (refused_text (refusal_number NoRoom))) list order)

pub same_screen : {g h : Log} {a b c d : List ℕ} → g ≡ h → a ≡ b → c ≡ d → screen g a c ≡ screen h b d
same_screen {g} {h} {a} {b} {c} {d} e f k = ap₂ (λ (x : Log) (y : List ℕ). screen x y c) e f ∙ ap (screen h b) k

pub show_once : (b list order out : List ℕ) (s t : Screen) → s ≡ showing b list order out → t ≡ showing b list order out → s ≡ t
show_once b list order out s t e f = e ∙ sym f
