-- A stored list, byte by byte: 27 rows, 27 columns, MulAssign of row 7 by 142, no order.
--   bytes          the form
--   example_form   it is the form of that list
--   example_kept   it is kept, with room for one operation and no order
--   example_list   what it says
-- Assumes nothing.
use Rattle.std.specs.Prelude.{ℕ, ◌≡◌, refl, false, List, [], ◌∷◌, Ok}
use Rattle.oplist.specs.declared.Op.TheVariants.{MulAssign}
use Rattle.oplist.specs.Word.{meaning}
use Rattle.oplist.specs.Listed.{ops_of}
use Rattle.oplist.specs.Check.{op_fine, list_fine, order_fine, shape_fine}
use Rattle.stored.specs.Form.{ops_bytes, form_of, words_at, words_in, unused_at, unused_fine, form_fine}
use Rattle.stored.specs.Answers.{judged_by, judged}

abbrev pub bytes : List ℕ
bytes = 0 ∷ 0 ∷ 0 ∷ 14 ∷ 1 ∷ 0 ∷ 27 ∷ 0 ∷ 27 ∷ 0 ∷ 0 ∷ 0 ∷ 1 ∷ 2 ∷ 7 ∷ 0 ∷ 142 ∷ 0 ∷ []

pub example_form : form_of 27 27 (MulAssign 7 142 ∷ []) false [] ≡ bytes
unfolding form_of ops_bytes
example_form = refl

pub example_kept : judged bytes 1 0 ≡ Ok (record { rows = 27; columns = 27; operations = 1; ordered = false })
unfolding judged judged_by form_fine unused_fine unused_at shape_fine list_fine op_fine order_fine words_at meaning
example_kept = refl

pub example_list : ops_of (words_in bytes) ≡ MulAssign 7 142 ∷ []
unfolding ops_of words_at meaning
example_list = refl
