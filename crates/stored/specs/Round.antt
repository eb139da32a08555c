-- One list has one form.
--   entries         the order that a form has, which is empty where there is none
--   words_form, unused_form   the bytes of operations say their words; those of them that are not used are 0
--   Says, form_says   the form of a list says that list
--   form_accepted   it is accepted
--   read_written    what is written reads back to the same list and order
--   words_back      the bytes of operations that were read are the bytes that they were read from
--   accepted_form   an accepted form is the form of what it says
--   one_form        two accepted forms that say the same are the same
--   written_read    writing what was read gives the same bytes
-- Assumes nothing.
use Rattle.std.specs.Prelude.{ℕ, zero, suc, ◌+◌, ◌*◌, ◌<◌, ◌≤◌, ◌≡◌, Bool, true, false, ◌&&◌, eqb, Option, Some, None, is_some, unwrap_or, Ok}
use Rattle.std.proofs.Math.Path.{refl, sym, ap, ap₂}
use Rattle.std.proofs.Common.{◌∙◌, eqb-true, get_or-drop, drop-drop}
use mathlib.Core.List.{List, [], ◌∷◌, map}
use native.Mathlib.Omega.{arith}
use Rattle.std.proofs.lemmas.Bool.{eqb-false}
use Rattle.std.proofs.Math.ListN.{length, get_or, drop}
use Rattle.loops.specs.Part.{drop-next}
use Rattle.oplist.specs.declared.Op.{Op}
use Rattle.oplist.specs.declared.Op.TheVariants.{AddAssign, MulAssign, FMA}
use Rattle.oplist.specs.Word.{word, kind_of, scalar_of, dest_of, src_of, packed, meaning, Small, Fields, fields, packed-meaning}
use Rattle.oplist.specs.Listed.{is_known, with_op, known, ops_of, packed-ops_of, length-ops_of}
use Rattle.oplist.specs.Check.{shape_fine, list_fine, order_fine}
use Rattle.oplist.specs.Facts.{never, list_fine-known, shape_fine-shape}
use Rattle.stored.specs.declared.Kept.{Kept}
use Rattle.stored.specs.Bytes.{number4, digits2, digits4, Bytes, padded, number2-digits2, number4-digits4, digits2-number2, digits4-number4}
use Rattle.stored.specs.Form.{op_bytes, ops_bytes, order_bytes, order_size, form_size, form_of, rows_in, columns_in, ops_in, flag_in, ordered_in, word_at, words_at, words_in, order_in, unused_at, unused_fine}
use Rattle.stored.specs.Answers.{same_kept, judged, got, read_of, put_in, write_of}
use Rattle.stored.specs.Scan.{length-words_at}
use Rattle.stored.specs.Formed.{Formed}
use Rattle.stored.specs.Accepted.{Accepted, Accepts, length-order_in, accepted_judged, accepts_judged}
use Rattle.stored.specs.Laid.{head_of, length-laid, laid_form}

abbrev pub entries : Bool → List ℕ → List ℕ
entries true order = order
entries false order = []

-- from a list to its form

-- what stands j places on from a place
on : (b t : List ℕ) (at j : ℕ) → drop at b ≡ t → get_or b (at + j) 0 ≡ get_or t j 0
on b t at j e = sym (get_or-drop at b j 0) ∙ ap (λ (x : List ℕ). get_or x j 0) e

here : (b t : List ℕ) (at : ℕ) → drop at b ≡ t → get_or b at 0 ≡ get_or t 0 0
here b t at e = let z : at + 0 ≡ at = omega arith in ap (λ (k : ℕ). get_or b k 0) (sym z) ∙ on b t at 0 e

next : (b r : List ℕ) (at k d s x : ℕ) → drop at b ≡ k ∷ d ∷ s ∷ x ∷ r → drop (at + 4) b ≡ r
next b r at k d s x e = sym (drop-drop 4 at b) ∙ ap (drop 4) e

four : (b r : List ℕ) (at k d s x : ℕ) → drop at b ≡ k ∷ d ∷ s ∷ x ∷ r → word_at b at ≡ word k x d s
four b r at k d s x e = rw (here b _ at e, on b _ at 1 e, on b _ at 2 e, on b _ at 3 e)

pub words_form : (os : List Op) (r b : List ℕ) (at : ℕ) → drop at b ≡ ops_bytes os r → words_at b at (length os) ≡ map packed os
unfolding words_at ops_bytes packed
words_form [] r b at e = refl
words_form (AddAssign d s ∷ os) r b at e =
    ap₂ (λ (w : ℕ) (l : List ℕ). w ∷ l) (four b _ at 1 d s 0 e) (words_form os r b (at + 4) (next b _ at 1 d s 0 e))
words_form (MulAssign d x ∷ os) r b at e =
    ap₂ (λ (w : ℕ) (l : List ℕ). w ∷ l) (four b _ at 2 d 0 x e) (words_form os r b (at + 4) (next b _ at 2 d 0 x e))
words_form (FMA d s x ∷ os) r b at e =
    ap₂ (λ (w : ℕ) (l : List ℕ). w ∷ l) (four b _ at 3 d s x e) (words_form os r b (at + 4) (next b _ at 3 d s x e))

pub unused_form : (os : List Op) (r b : List ℕ) (at : ℕ) → drop at b ≡ ops_bytes os r → unused_fine b at (length os) ≡ true
unfolding unused_fine unused_at ops_bytes
unused_form [] r b at e = refl
unused_form (AddAssign d s ∷ os) r b at e = rw (here b _ at e, on b _ at 3 e) (unused_form os r b (at + 4) (next b _ at 1 d s 0 e))
unused_form (MulAssign d x ∷ os) r b at e = rw (here b _ at e, on b _ at 2 e) (unused_form os r b (at + 4) (next b _ at 2 d 0 x e))
unused_form (FMA d s x ∷ os) r b at e = rw (here b _ at e) (unused_form os r b (at + 4) (next b _ at 3 d s x e))

after : (os : List Op) (r b : List ℕ) (at : ℕ) → drop at b ≡ ops_bytes os r → drop (at + 4 * length os) b ≡ r
unfolding ops_bytes
after [] r b at e = let z : at + 4 * 0 ≡ at = omega arith in rw z e
after (o ∷ os) r b at e = step o (ops_bytes os r) e (after os r b (at + 4))
  where
    step : (p : Op) (t : List ℕ) → drop at b ≡ op_bytes p t → (drop (at + 4) b ≡ t → drop (at + 4 + 4 * length os) b ≡ r) → drop (at + 4 * suc (length os)) b ≡ r
    step (AddAssign d s) t q ih = let z : at + 4 * suc (length os) ≡ at + 4 + 4 * length os = omega arith in rw z (ih (next b t at 1 d s 0 q))
    step (MulAssign d x) t q ih = let z : at + 4 * suc (length os) ≡ at + 4 + 4 * length os = omega arith in rw z (ih (next b t at 2 d 0 x q))
    step (FMA d s x) t q ih = let z : at + 4 * suc (length os) ≡ at + 4 + 4 * length os = omega arith in rw z (ih (next b t at 3 d s x q))

-- what a form says of a list of words and an order
pub record Says (b : List ℕ) (m l : ℕ) (ws : List ℕ) (f : Bool) (order : List ℕ) : Type 0 where
  pub formed : Formed b
  pub rows : rows_in b ≡ m
  pub columns : columns_in b ≡ l
  pub ops : ops_in b ≡ length ws
  pub ordered : ordered_in b ≡ f
  pub words : words_in b ≡ ws
  pub entries_in : order_in b ≡ entries f order

module _ (m l : ℕ) (ws : List ℕ) (f : Bool) (order : List ℕ) (shape : shape_fine m l (length ws) ≡ true) (list : list_fine m ws ≡ true) (orderly : order_fine m l f order ≡ true) where
  form : List ℕ
  form = form_of m l (ops_of ws) f order

  count : length (ops_of ws) ≡ length ws
  count = length-ops_of ws (list_fine-known m ws list)

  order_lem : (o : Option (List ℕ)) → order_fine m l (is_some o) (unwrap_or o []) ≡ true → length (form_of m l (ops_of ws) (is_some o) (unwrap_or o [])) ≡ form_size (length ws) l (is_some o)
  order_lem o h =
      let e = length-laid (head_of (10 + 4 * length ws + order_size (is_some o) l) m l (length ws) []) ws m l o h in
      ap length (sym (laid_form m l ws o shape list h)) ∙ e ∙ omega arith

  size : length form ≡ form_size (length ws) l f
  unfolding form form_of order_fine
  size = of f orderly
    where
      of : (g : Bool) → order_fine m l g order ≡ true → length (form_of m l (ops_of ws) g order) ≡ form_size (length ws) l g
      of true h = order_lem (Some order) h
      of false h = order_lem None refl

  ops_in_lem : ops_in form ≡ length ws
  unfolding form form_of
  ops_in_lem = let s = shape_fine-shape m l (length ws) shape in rw count (number4-digits4 (length ws) (omega (arith, s.ops)))

  rows_in_lem : rows_in form ≡ m
  unfolding form form_of
  rows_in_lem = let s = shape_fine-shape m l (length ws) shape in number2-digits2 m (omega (arith, s.rows))

  columns_in_lem : columns_in form ≡ l
  unfolding form form_of
  columns_in_lem = let s = shape_fine-shape m l (length ws) shape in number2-digits2 l (omega (arith, s.rows, s.narrow))

  few_order : (g : Bool) → order_size g l ≤ l
  few_order true = omega arith
  few_order false = omega arith

  follows_in : number4 form 0 ≡ 10 + 4 * length ws + order_size f l
  unfolding form form_of
  follows_in =
      let s = shape_fine-shape m l (length ws) shape in
      let o = few_order f in
      rw count (number4-digits4 (10 + 4 * length ws + order_size f l) (omega (arith, s.rows, s.narrow, s.ops)))

  version_in : get_or form 4 0 ≡ 1
  unfolding form form_of
  version_in = refl

  body : drop 13 form ≡ ops_bytes (ops_of ws) (order_bytes f order)
  unfolding form form_of
  body = refl

  tail : drop (13 + 4 * length ws) form ≡ order_bytes f order
  tail = rw (← count) (after (ops_of ws) (order_bytes f order) form 13 body)

  flag_in_lem : flag_in form ≡ get_or (order_bytes f order) 0 0
  flag_in_lem = ap (λ (n : ℕ). get_or form (13 + 4 * n) 0) ops_in_lem ∙ here form (order_bytes f order) (13 + 4 * length ws) tail

  flags : (g : Bool) → get_or (order_bytes g order) 0 0 ≤ 1
  flags true = omega arith
  flags false = omega arith

  ordered_in_lem : ordered_in form ≡ f
  ordered_in_lem = ap (λ (x : ℕ). eqb x 1) flag_in_lem ∙ of f
    where
      of : (g : Bool) → eqb (get_or (order_bytes g order) 0 0) 1 ≡ g
      of true = refl
      of false = refl

  entries_in_lem : order_in form ≡ entries f order
  entries_in_lem =
      let z : 14 + 4 * length ws ≡ 13 + 4 * length ws + 1 = omega arith in
      ap (λ (n : ℕ). drop (14 + 4 * n) form) ops_in_lem ∙ ap (λ (n : ℕ). drop n form) z ∙ sym (drop-drop 1 (13 + 4 * length ws) form) ∙ ap (drop 1) tail ∙ of f
    where
      of : (g : Bool) → drop 1 (order_bytes g order) ≡ entries g order
      of true = refl
      of false = refl

  words_in_lem : words_in form ≡ ws
  words_in_lem =
      ap (words_at form 13) (ops_in_lem ∙ sym count) ∙ words_form (ops_of ws) (order_bytes f order) form 13 body ∙ packed-ops_of ws (list_fine-known m ws list)

  size_in : length form ≡ form_size (ops_in form) (columns_in form) (ordered_in form)
  size_in =
      size
      ∙ sym
      (ap (λ (n : ℕ). form_size n (columns_in form) (ordered_in form)) ops_in_lem
      ∙ ap₂ (λ (x : ℕ) (g : Bool). form_size (length ws) x g) columns_in_lem ordered_in_lem)

  pub form_says : Says (form_of m l (ops_of ws) f order) m l ws f order
  unfolding form
  form_says =
      record {
        formed = record {
          long = omega (arith, size);
          follows = omega (arith, follows_in, size);
          version = version_in;
          flag = rw flag_in_lem (flags f);
          size = size_in;
          unused = rw (ops_in_lem, ← count) (unused_form (ops_of ws) (order_bytes f order) form 13 body);
        };
        rows = rows_in_lem;
        columns = columns_in_lem;
        ops = ops_in_lem;
        ordered = ordered_in_lem;
        words = words_in_lem;
        entries_in = entries_in_lem;
      }

  pub form_accepted : (listRoom orderRoom : ℕ) → length ws ≤ listRoom → order_size f l ≤ orderRoom → Accepted (form_of m l (ops_of ws) f order) listRoom orderRoom
  unfolding form order_fine
  form_accepted listRoom orderRoom h k =
      let S = form_says in
      record {
        formed = S.formed;
        shape = ap (λ (n : ℕ). shape_fine (rows_in form) (columns_in form) n) S.ops ∙ ap₂ (λ (x y : ℕ). shape_fine x y (length ws)) S.rows S.columns ∙ shape;
        list_fits = omega (arith, S.ops);
        order_fits = orders_fit k;
        list = ap₂ list_fine S.rows S.words ∙ list;
        order = orders;
      }
    where
      sizes : order_size (ordered_in form) (columns_in form) ≡ order_size f l
      sizes = ap₂ order_size ordered_in_lem columns_in_lem

      orders_fit : order_size f l ≤ orderRoom → order_size (ordered_in form) (columns_in form) ≤ orderRoom
      orders_fit q = omega (arith, sizes)

      same : (g : Bool) → order_fine m l g order ≡ true → order_fine m l g (entries g order) ≡ true
      same true e = e
      same false e = e

      orders : order_fine (rows_in form) (columns_in form) (ordered_in form) (order_in form) ≡ true
      orders =
          ap₂ (λ (x y : ℕ). order_fine x y (ordered_in form) (order_in form)) rows_in_lem columns_in_lem
          ∙ ap₂ (λ (g : Bool) (o : List ℕ). order_fine m l g o) ordered_in_lem entries_in_lem ∙ same f orderly

  -- what is written reads back to the same list and order
  pub read_written : (list' order' : List ℕ) → length ws ≤ length list' → order_size f l ≤ length order'
      → read_of (form_of m l (ops_of ws) f order) list' order' ≡ got (Ok (record { rows = m; columns = l; operations = length ws; ordered = f })) (padded ws (length list')) (padded (entries f order) (length order'))
  unfolding form read_of
  read_written list' order' h k =
      let S = form_says in
      let e = accepted_judged form (length list') (length order') (form_accepted (length list') (length order') h k) in
      let r : judged form (length list') (length order') ≡ Ok (record { rows = m; columns = l; operations = length ws; ordered = f }) = e ∙ ap (λ (x : Kept). Ok x) (same_kept S.rows S.columns S.ops S.ordered) in
      rw (r, S.words, S.entries_in)

-- from a form to its list

grow : (b t : List ℕ) (k : ℕ) → k < length b → drop (k + 1) b ≡ t → drop k b ≡ get_or b k 0 ∷ t
grow b t k h e = drop-next b k h ∙ ap (λ (x : List ℕ). get_or b k 0 ∷ x) e

-- an operation's bytes are those of its word
op_bytes-known : (k x d s : ℕ) (o : Op) (r : List ℕ) → k < 256 → x < 256 → d < 256 → s < 256 → meaning (word k x d s) ≡ Some o → op_bytes o r ≡ k ∷ d ∷ s ∷ x ∷ r
unfolding packed
op_bytes-known k x d s o r hk hx hd hs e = of o (packed-meaning (word k x d s) o e).is (packed-meaning (word k x d s) o e).small
  where
    F : Fields (word k x d s) k x d s
    F = fields k x d s hx (omega arith) (omega arith)

    same : {k' x' d' s' : ℕ} {w : ℕ} → word k x d s ≡ w → Fields w k' x' d' s' → k' ∷ d' ∷ s' ∷ x' ∷ r ≡ k ∷ d ∷ s ∷ x ∷ r
    same {k'} {x'} {d'} {s'} q G =
        let a : k' ≡ k = sym G.kind ∙ ap kind_of (sym q) ∙ F.kind in
        let b : d' ≡ d = sym G.dest ∙ ap dest_of (sym q) ∙ F.dest in
        let c : s' ≡ s = sym G.src ∙ ap src_of (sym q) ∙ F.src in
        let f : x' ≡ x = sym G.scalar ∙ ap scalar_of (sym q) ∙ F.scalar in
        cc

    of : (p : Op) → word k x d s ≡ packed p → Small p → op_bytes p r ≡ k ∷ d ∷ s ∷ x ∷ r
    of (AddAssign a b) q h = same q (fields 1 0 a b (omega arith) h.0 h.1)
    of (MulAssign a c) q h = same q (fields 2 c a 0 h.1 h.0 (omega arith))
    of (FMA a b c) q h = same q (fields 3 c a b h.2 h.0 h.1)

pub words_back : (n : ℕ) (b : List ℕ) (at : ℕ) → at + 4 * n ≤ length b → Bytes b → known (words_at b at n) ≡ true
    → ops_bytes (ops_of (words_at b at n)) (drop (at + 4 * n) b) ≡ drop at b
unfolding words_at known ops_of ops_bytes
words_back zero b at h B k = let z : at + 4 * 0 ≡ at = omega arith in rw z
words_back (suc n) b at h B k = of (meaning (word_at b at)) refl k (words_back n b (at + 4) (omega arith) B)
  where
    rest : drop at b ≡ get_or b at 0 ∷ get_or b (at + 1) 0 ∷ get_or b (at + 2) 0 ∷ get_or b (at + 3) 0 ∷ drop (at + 4) b
    rest =
        let a : at + 1 + 1 ≡ at + 2 = omega arith in
        let c : at + 2 + 1 ≡ at + 3 = omega arith in
        let d : at + 3 + 1 ≡ at + 4 = omega arith in
        grow b _ at (omega arith) (grow b _ (at + 1) (omega arith) (rw a (grow b _ (at + 2) (omega arith) (rw c (grow b _ (at + 3) (omega arith) (rw d))))))

    of : (v : Option Op) → meaning (word_at b at) ≡ v → (is_known v && known (words_at b (at + 4) n)) ≡ true
        → (known (words_at b (at + 4) n) ≡ true → ops_bytes (ops_of (words_at b (at + 4) n)) (drop (at + 4 + 4 * n) b) ≡ drop (at + 4) b)
        → ops_bytes (with_op v (ops_of (words_at b (at + 4) n))) (drop (at + 4 * suc n) b) ≡ drop at b
    of (Some o) e q ih =
        let z : at + 4 * suc n ≡ at + 4 + 4 * n = omega arith in
        let i : ops_bytes (ops_of (words_at b (at + 4) n)) (drop (at + 4 * suc n) b) ≡ drop (at + 4) b = rw z (ih q) in
        ap (op_bytes o) i ∙ op_bytes-known (get_or b at 0) (get_or b (at + 3) 0) (get_or b (at + 1) 0) (get_or b (at + 2) 0) o (drop (at + 4) b) (B at) (B (at + 3)) (B (at + 1)) (B (at + 2)) e
        ∙ sym rest
    of None e q ih = never q

zero_flag : (x : ℕ) → x ≤ 1 → (x ≡ 1 → ⊥) → x ≡ 0
zero_flag zero h d = refl
zero_flag (suc x) h d = absurd (d (omega arith))

none : (l : List ℕ) → length l ≡ 0 → l ≡ []
none [] h = refl
none (x ∷ l) h = absurd (omega arith)

module _ (b : List ℕ) (B : Bytes b) (listRoom orderRoom : ℕ) (A : Accepted b listRoom orderRoom) where
  front : b ≡ get_or b 0 0 ∷ get_or b 1 0 ∷ get_or b 2 0 ∷ get_or b 3 0 ∷ get_or b 4 0 ∷ get_or b 5 0 ∷ get_or b 6 0 ∷ get_or b 7 0 ∷ get_or b 8 0 ∷ get_or b 9 0 ∷ get_or b 10 0 ∷ get_or b 11 0 ∷ get_or b 12 0 ∷ drop 13 b
  front =
      let long = A.formed.long in
      grow b _ 0 (omega arith)
      (grow b _ 1 (omega arith)
      (grow b _ 2 (omega arith)
      (grow b _ 3 (omega arith)
      (grow b _ 4 (omega arith)
      (grow b _ 5 (omega arith)
      (grow b _ 6 (omega arith)
      (grow b _ 7 (omega arith) (grow b _ 8 (omega arith) (grow b _ 9 (omega arith) (grow b _ 10 (omega arith) (grow b _ 11 (omega arith) (grow b _ 12 (omega arith) refl))))))))))))

  known_in : known (words_in b) ≡ true
  known_in = list_fine-known (rows_in b) (words_in b) A.list

  counted : length (ops_of (words_in b)) ≡ ops_in b
  counted = length-ops_of (words_in b) known_in ∙ length-words_at b 13 (ops_in b)

  -- the flag and the order
  ending : drop (13 + 4 * ops_in b) b ≡ order_bytes (ordered_in b) (order_in b)
  ending =
      let s = A.formed.size in
      let z : 13 + 4 * ops_in b + 1 ≡ 14 + 4 * ops_in b = omega arith in
      grow b (order_in b) (13 + 4 * ops_in b) (omega arith) (rw z) ∙ of (eqb (flag_in b) 1) refl (length-order_in b A.formed)
    where
      of : (g : Bool) → eqb (flag_in b) 1 ≡ g → length (order_in b) ≡ order_size (eqb (flag_in b) 1) (columns_in b) → flag_in b ∷ order_in b ≡ order_bytes g (order_in b)
      of true e n = ap (λ (x : ℕ). x ∷ order_in b) (eqb-true (flag_in b) 1 e)
      of false e n =
          let f = A.formed.flag in
          let d = eqb-false (flag_in b) 1 e in
          let z : flag_in b ≡ 0 = zero_flag (flag_in b) f d in
          let t : length (order_in b) ≡ 0 = n ∙ ap (λ (g : Bool). order_size g (columns_in b)) e in
          ap₂ (λ (x : ℕ) (l : List ℕ). x ∷ l) z (none (order_in b) t)

  -- an accepted form is the form of what it says
  pub accepted_form : form_of (rows_in b) (columns_in b) (ops_of (words_in b)) (ordered_in b) (order_in b) ≡ b
  unfolding form_of
  accepted_form =
      let s = A.formed.size in
      let f = A.formed.follows in
      let v = A.formed.version in
      let follow : 10 + 4 * ops_in b + order_size (ordered_in b) (columns_in b) ≡ number4 b 0 = omega arith in
      let body : ops_bytes (ops_of (words_in b)) (order_bytes (ordered_in b) (order_in b)) ≡ drop 13 b = ap (ops_bytes (ops_of (words_in b))) (sym ending) ∙ words_back (ops_in b) b 13 (omega arith) B known_in in
      ap (λ (n : ℕ). digits4 (10 + 4 * n + order_size (ordered_in b) (columns_in b)) (1 ∷ digits2 (rows_in b) (digits2 (columns_in b) (digits4 n (ops_bytes (ops_of (words_in b)) (order_bytes (ordered_in b) (order_in b))))))) counted
      ∙ ap₂ (λ (n : ℕ) (t : List ℕ). digits4 n (1 ∷ digits2 (rows_in b) (digits2 (columns_in b) (digits4 (ops_in b) t)))) follow body
      ∙ digits4-number4 (get_or b 0 0) (get_or b 1 0) (get_or b 2 0) (get_or b 3 0) _ (B 0) (B 1) (B 2) (B 3)
      ∙ ap (λ (t : List ℕ). get_or b 0 0 ∷ get_or b 1 0 ∷ get_or b 2 0 ∷ get_or b 3 0 ∷ t)
      (ap₂ (λ (x : ℕ) (t : List ℕ). x ∷ t) (sym v)
      (digits2-number2 (get_or b 5 0) (get_or b 6 0) _ (B 5) (B 6)
      ∙ ap (λ (t : List ℕ). get_or b 5 0 ∷ get_or b 6 0 ∷ t)
      (digits2-number2 (get_or b 7 0) (get_or b 8 0) _ (B 7) (B 8)
      ∙ ap (λ (t : List ℕ). get_or b 7 0 ∷ get_or b 8 0 ∷ t) (digits4-number4 (get_or b 9 0) (get_or b 10 0) (get_or b 11 0) (get_or b 12 0) (drop 13 b) (B 9) (B 10) (B 11) (B 12)))))
      ∙ sym front

  -- writing what was read gives the same bytes
  pub written_read : (out : List ℕ) → length b ≤ length out
      → write_of (rows_in b) (columns_in b) (words_in b) (ordered_in b) (order_in b) out ≡ put_in (Ok (length b)) (padded b (length out))
  unfolding write_of
  written_read out h =
      let n = length-words_at b 13 (ops_in b) in
      let size : form_size (length (words_in b)) (columns_in b) (ordered_in b) ≡ length b = ap (λ (k : ℕ). form_size k (columns_in b) (ordered_in b)) n ∙ sym A.formed.size in
      let acc : Accepts (rows_in b) (columns_in b) (words_in b) (ordered_in b) (order_in b) (length out) = record {
        shape = ap (shape_fine (rows_in b) (columns_in b)) n ∙ A.shape;
        fits = omega arith;
        list = A.list;
        orderly = A.order;
      } in
      rw (accepts_judged (rows_in b) (columns_in b) (words_in b) (ordered_in b) (order_in b) (length out) acc, accepted_form, size)

-- two accepted forms that say the same are the same
pub one_form : (b c : List ℕ) (r s r' s' : ℕ) → Bytes b → Bytes c → Accepted b r s → Accepted c r' s' → rows_in b ≡ rows_in c → columns_in b ≡ columns_in c
    → words_in b ≡ words_in c → ordered_in b ≡ ordered_in c → order_in b ≡ order_in c → b ≡ c
one_form b c r s r' s' B C A D m l w f o =
    sym (accepted_form b B r s A)
    ∙ ap₂ (λ (x y : ℕ). form_of x y (ops_of (words_in b)) (ordered_in b) (order_in b)) m l
    ∙ ap (λ (x : List ℕ). form_of (rows_in c) (columns_in c) (ops_of x) (ordered_in b) (order_in b)) w
    ∙ ap₂ (λ (g : Bool) (x : List ℕ). form_of (rows_in c) (columns_in c) (ops_of (words_in c)) g x) f o
    ∙ accepted_form c C r' s' D
