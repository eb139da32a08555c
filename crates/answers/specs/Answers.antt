-- The answers of a call: their numbers, their values, and what the receiver shows for each.
--   Answer           the report of what was solved, or why a call is refused
--   number_of        the number of an answer
--   report_in        the report of an answer: what Ok holds, and zeros in any other;  no_report   these zeros
--   report_none     zeros unless the number is 0
--   shown_of         what the receiver shows
--   rank_exactly    it shows "short of rank" exactly for 6 and 7
--   number-one, shown_one   two results that meet the statement are equal
-- Assumes nothing.
use Rattle.std.specs.Prelude.{◌≡◌, refl, ◌≢◌, ◌⊎◌, ◌↔◌, ℕ, Result, Ok, Err}
use Rattle.std.proofs.Common.{sym, ◌∙◌, inl, inr, arith}
use Rattle.answers.specs.declared.Counts.{Counts}
use Rattle.answers.specs.declared.Report.{Report}
use Rattle.answers.specs.declared.Refusal.{Refusal}
use Rattle.answers.specs.declared.Refusal.TheVariants.{BadCount, BadShape, BadEntry, NoRoom, ListFull, NoPivot, Singular}
use Rattle.answers.specs.declared.Display.{Display}
use Rattle.answers.specs.declared.Display.TheVariants.{Solved as AsSolved, BadCount as AsBadCount, BadShape as AsBadShape, BadEntry as AsBadEntry, NoRoom as AsNoRoom, ListFull as AsListFull, ShortOfRank}

abbrev pub Answer : Type 0
Answer = Result Report Refusal

abbrev pub number_of : Answer → ℕ
number_of (Ok r) = 0
number_of (Err BadCount) = 1
number_of (Err BadShape) = 2
number_of (Err BadEntry) = 3
number_of (Err NoRoom) = 4
number_of (Err ListFull) = 5
number_of (Err NoPivot) = 6
number_of (Err Singular) = 7

abbrev pub no_report : Report
no_report = let c : Counts = record { adds = 0; muls = 0 } in record { operations = 0; one = c; two = c; three = c; four = c; five = c }

-- the number of operations, and the counts by phase
abbrev pub report_in : Answer → Report
report_in (Ok r) = r
report_in (Err e) = no_report

pub report_none : (a : Answer) → number_of a ≢ 0 → report_in a ≡ no_report
report_none (Ok r) n = absurd (n refl)
report_none (Err e) n = refl

-- NoPivot and Singular are a block short of rank; any other answer shows its name
abbrev pub shown_of : Answer → Display
shown_of (Ok r) = AsSolved
shown_of (Err BadCount) = AsBadCount
shown_of (Err BadShape) = AsBadShape
shown_of (Err BadEntry) = AsBadEntry
shown_of (Err NoRoom) = AsNoRoom
shown_of (Err ListFull) = AsListFull
shown_of (Err NoPivot) = ShortOfRank
shown_of (Err Singular) = ShortOfRank

pub rank_exactly : (a : Answer) → (shown_of a ≡ ShortOfRank) ↔ ((number_of a ≡ 6) ⊎ (number_of a ≡ 7))
rank_exactly a = (forth a, back a)
  where
    forth : (a : Answer) → shown_of a ≡ ShortOfRank → (number_of a ≡ 6) ⊎ (number_of a ≡ 7)
    forth (Ok r) e = let z : ◌≡◌ {A = ℕ} 0 1 = cc in absurd (omega arith)
    forth (Err BadCount) e = let z : ◌≡◌ {A = ℕ} 0 1 = cc in absurd (omega arith)
    forth (Err BadShape) e = let z : ◌≡◌ {A = ℕ} 0 1 = cc in absurd (omega arith)
    forth (Err BadEntry) e = let z : ◌≡◌ {A = ℕ} 0 1 = cc in absurd (omega arith)
    forth (Err NoRoom) e = let z : ◌≡◌ {A = ℕ} 0 1 = cc in absurd (omega arith)
    forth (Err ListFull) e = let z : ◌≡◌ {A = ℕ} 0 1 = cc in absurd (omega arith)
    forth (Err NoPivot) e = inl refl
    forth (Err Singular) e = inr refl

    back : (a : Answer) → (number_of a ≡ 6) ⊎ (number_of a ≡ 7) → shown_of a ≡ ShortOfRank
    back (Err NoPivot) e = refl
    back (Err Singular) e = refl
    back (Ok r) (inl e) = absurd (omega arith)
    back (Ok r) (inr e) = absurd (omega arith)
    back (Err BadCount) (inl e) = absurd (omega arith)
    back (Err BadCount) (inr e) = absurd (omega arith)
    back (Err BadShape) (inl e) = absurd (omega arith)
    back (Err BadShape) (inr e) = absurd (omega arith)
    back (Err BadEntry) (inl e) = absurd (omega arith)
    back (Err BadEntry) (inr e) = absurd (omega arith)
    back (Err NoRoom) (inl e) = absurd (omega arith)
    back (Err NoRoom) (inr e) = absurd (omega arith)
    back (Err ListFull) (inl e) = absurd (omega arith)
    back (Err ListFull) (inr e) = absurd (omega arith)

pub number-one : (a : Answer) (x y : ℕ) → x ≡ number_of a → y ≡ number_of a → x ≡ y
number-one a x y e f = e ∙ sym f

pub shown_one : (a : Answer) (x y : Display) → x ≡ shown_of a → y ≡ shown_of a → x ≡ y
shown_one a x y e f = e ∙ sym f
