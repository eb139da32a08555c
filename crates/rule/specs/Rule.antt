-- How phase one chooses, with every tie. The matrix never moves: rows and columns keep their numbers, and only lists of them change their order.
-- C lists V's columns and E the eligible rows, both by place; `row x q` says whether row x has a one in column q of the original matrix.
--   Marks, add_pair, add_pairs    the labels of columns, which stand for the components, and pairs joined to them
--   joint, next_label            the label that both columns of a pair get: the smaller of theirs, the only one, or a new one; the next new label then
--   touched, relabel            a column is one of the pair, or has the label of one of them; the labels then: such a column gets the pair's
--   choose, choose_at            the row rule, with r the least positive number of ones that an eligible row has in V; and for a given r
--   size, bigger, biggest       r = 2: how many columns of V have a label; the label of greater size, of two and of all; on a tie the first, the smallest
--   node, at_node                r = 2: the leftmost column of V with that label; the first eligible row by place with a one there and two ones in V
--   swap_remove, next_singles     the rows with a single one, in their order: one is taken out and the last takes its place; and through a step
--   last_first, bring            a list with its last member in front; a number put behind the first of a list
--   lose, lose_first             a row lost a one and has k left: out at none, in as the last at one; the same for the chosen row's first one, but never in
--   lose_col, lose_cols           a column leaves V, and columns do one after another: each row with a one there loses it, from the top
--   refresh, refresh_all         a row is taken out, and put in as the last if it has a single one; this for every row with a one in a column
--   finish                      the last part of a step: where columns besides the pivot go, the rows with a one at the pivot are refreshed
--   noted                       the rows that a step brings down to two ones and no further, in the order in which it does
--   without, replace            the rows that stay eligible: the chosen one is exchanged with the first, and left out; a number put in the place of another
--   Cut, arrange                the column rule: the step's column, the others that leave V, and what is left of it
--   cut                         the same from V in three parts: the first column, the middle, and the last ones
--   found, put                  the first member of a list that passes a test is exchanged with m: what comes out, m if none does; what the list is then
--   lacks                       the opposite test
--   swept, filled               each member of M that passes is exchanged with the first of R that does not: what M is then, and what R is
--   rev                         a list from its last member to its first
--   State, start, chosen, after phase one's state at first, its choice, and what a choice makes of it
--   first_singles                the eligible rows with a single one at first, by place
--   raw_marks, first_marks        the labels after the pairs of V are joined, from the top; the labels at first: by by_least, the next new one w + 1
--   by_least, number_of           a column's label by its component: one more than its first column in C, 0 without a label; one more than a column, 0 for none
-- Assumes nothing.
use Rattle.std.specs.Prelude.{List, [], ◌∷◌, ◌++◌, Bool, cond, not, ◌&&◌, ◌||◌, ℕ, zero, suc, ◌-◌, length, take, drop, eqb, ltb}
use Rattle.std.proofs.Math.Option.{Option, some, none}
use Rattle.rule.specs.Lists.{filter, head, head_least, least_pos}
use Rattle.rule.specs.Permitted.{ones, count}

-- Labels: 0 is no label. The pair p, q gets one label: the smaller of the two, the one that there is, or the next one.
abbrev pub joint : ℕ → ℕ → ℕ → ℕ
joint zero zero n = n
joint zero (suc b) n = suc b
joint (suc a) zero n = suc a
joint (suc a) (suc b) n = cond (ltb b a) (suc b) (suc a)

-- column c is p or q, or has the label of one of them
abbrev pub touched : (ℕ → ℕ) → ℕ → ℕ → ℕ → Bool
touched lab p q c = (eqb c p || eqb c q) || (not (eqb (lab c) 0) && (eqb (lab c) (lab p) || eqb (lab c) (lab q)))

abbrev pub relabel : (ℕ → ℕ) → ℕ → ℕ → ℕ → ℕ → ℕ
relabel lab n p q c = cond (touched lab p q c) (joint (lab p) (lab q) n) (lab c)

abbrev pub next_label : ℕ → ℕ → ℕ → ℕ
next_label zero zero n = suc n
next_label zero (suc b) n = n
next_label (suc a) b n = n

-- a label for each column, and the next label
pub record Marks : Type 0 where
  pub lab : ℕ → ℕ
  pub next : ℕ

-- a row, given by its ones in V, joins them if they are two
abbrev pub add_pair : Marks → List ℕ → Marks
add_pair m [] = m
add_pair m (p ∷ []) = m
add_pair m (p ∷ q ∷ []) = record { lab = relabel m.lab m.next p q; next = next_label (m.lab p) (m.lab q) m.next }
add_pair m (p ∷ q ∷ c ∷ l) = m

abbrev pub add_pairs : (ℕ → ℕ → Bool) → List ℕ → Marks → List ℕ → Marks
add_pairs row C m [] = m
add_pairs row C m (x ∷ xs) = add_pairs row C (add_pair m (ones row C x)) xs

-- The row rule, r = 2. The columns of V with label l are a component; of those of the greatest size the one of the smallest label is taken, and of it
-- the leftmost column of V; then the first row by place with a one there and two ones in V.
abbrev pub size : (ℕ → ℕ) → List ℕ → ℕ → ℕ
size lab C l = length (filter (λ c. eqb (lab c) l) C)

abbrev pub bigger : (ℕ → ℕ) → ℕ → ℕ → ℕ
bigger f b c = cond (eqb b 0 || ltb (f b) (f c)) c b

-- of the labels 1 .. n - 1
abbrev pub biggest : (ℕ → ℕ) → List ℕ → ℕ → ℕ
biggest lab C zero = 0
biggest lab C (suc zero) = 0
biggest lab C (suc (suc n)) = bigger (size lab C) (biggest lab C (suc n)) (suc n)

abbrev pub node : (ℕ → ℕ) → ℕ → List ℕ → Option ℕ
node lab n C = head (filter (λ c. eqb (lab c) (biggest lab C n)) C)

abbrev pub at_node : (ℕ → ℕ → Bool) → List ℕ → List ℕ → Option ℕ → Option ℕ
at_node row C E none = none
at_node row C E (some q) = head (filter (λ x. row x q && eqb (count row C x) 2) E)

-- r = 1: least original degree, the first in `singles` on a tie. r > 2: least original degree, the lowest place on a tie.
abbrev pub choose_at : (ℕ → ℕ → Bool) → (ℕ → ℕ) → List ℕ → List ℕ → List ℕ → (ℕ → ℕ) → ℕ → ℕ → Option ℕ
choose_at row deg C E singles lab n zero = none
choose_at row deg C E singles lab n (suc zero) = head_least deg singles
choose_at row deg C E singles lab n (suc (suc zero)) = at_node row C E (node lab n C)
choose_at row deg C E singles lab n (suc (suc (suc r))) = head_least deg (filter (λ x. eqb (count row C x) (suc (suc (suc r)))) E)

-- r is the least positive number of ones in V that an eligible row has; without such a row there is no choice
abbrev pub choose : (ℕ → ℕ → Bool) → (ℕ → ℕ) → List ℕ → List ℕ → List ℕ → (ℕ → ℕ) → ℕ → Option ℕ
choose row deg C E singles lab n = choose_at row deg C E singles lab n (least_pos (count row C) E)

-- The rows with a single one. Removal by exchange: the last takes the place of the one taken out.
abbrev pub bring : ℕ → List ℕ → List ℕ
bring b [] = b ∷ []
bring b (z ∷ l) = z ∷ b ∷ l

abbrev pub last_first : List ℕ → List ℕ
last_first [] = []
last_first (b ∷ l) = bring b (last_first l)

abbrev pub swap_remove : ℕ → List ℕ → List ℕ
swap_remove y [] = []
swap_remove y (a ∷ l) = cond (eqb a y) (last_first l) (a ∷ swap_remove y l)

-- row y has just lost a one of V and has k left: out at none, in at one
abbrev pub lose : List ℕ → ℕ → ℕ → List ℕ
lose s y zero = swap_remove y s
lose s y (suc zero) = s ++ (y ∷ [])
lose s y (suc (suc k)) = s

-- the chosen row loses its first one: out at none, but not in at one
abbrev pub lose_first : List ℕ → ℕ → ℕ → List ℕ
lose_first s x zero = swap_remove x s
lose_first s x (suc k) = s

-- row y is taken out, and put in last if it has a single one
abbrev pub refresh : List ℕ → ℕ → ℕ → List ℕ
refresh s y zero = swap_remove y s
refresh s y (suc zero) = swap_remove y s ++ (y ∷ [])
refresh s y (suc (suc k)) = swap_remove y s

-- column c leaves V, of which `rest` is left: the rows ys lose a one there, from the top
abbrev pub lose_col : (ℕ → ℕ → Bool) → List ℕ → ℕ → List ℕ → List ℕ → List ℕ
lose_col row rest c [] s = s
lose_col row rest c (y ∷ ys) s = lose_col row rest c ys (cond (row y c) (lose s y (count row rest y)) s)

-- the columns cs leave V one after another, of which C' is left
abbrev pub lose_cols : (ℕ → ℕ → Bool) → List ℕ → List ℕ → List ℕ → List ℕ → List ℕ
lose_cols row C' ys [] s = s
lose_cols row C' ys (c ∷ cs) s = lose_cols row C' ys cs (lose_col row (cs ++ C') c ys s)

abbrev pub refresh_all : (ℕ → ℕ → Bool) → List ℕ → ℕ → List ℕ → List ℕ → List ℕ
refresh_all row C' c [] s = s
refresh_all row C' c (y ∷ ys) s = refresh_all row C' c ys (cond (row y c) (refresh s y (count row C' y)) s)

-- only a step with r > 1, in which columns besides the pivot go, refreshes the rows with a one at the pivot
abbrev pub finish : (ℕ → ℕ → Bool) → List ℕ → List ℕ → ℕ → List ℕ → List ℕ → List ℕ
finish row C' below pivot [] s = s
finish row C' below pivot (q ∷ gone) s = refresh_all row C' pivot below s

-- a step's singles: row x is chosen and the rows `below` stay; the column `pivot` goes, then the columns `gone`, for each the chosen row before the others
abbrev pub next_singles : (ℕ → ℕ → Bool) → List ℕ → ℕ → List ℕ → ℕ → List ℕ → List ℕ → List ℕ
next_singles row C' x below pivot gone s =
    finish row C' below pivot gone
    (lose_cols row C' (x ∷ below) gone (lose_col row (gone ++ C') pivot below (lose_first s x (count row (gone ++ C') x))))

-- the rows that came down to two ones and kept them, in the order in which they did
abbrev pub noted : (ℕ → ℕ → Bool) → List ℕ → List ℕ → List ℕ → List ℕ
noted row C' below [] = []
noted row C' below (c ∷ cs) =
    filter (λ y. row y c && (eqb (count row (cs ++ C') y) 2 && eqb (count row C' y) 2)) below ++ noted row C' below cs

-- The rows: the chosen row is exchanged with the first; the others stay eligible.
abbrev pub replace : ℕ → ℕ → List ℕ → List ℕ
replace x a [] = []
replace x a (y ∷ l) = cond (eqb y x) (a ∷ l) (y ∷ replace x a l)

abbrev pub without : ℕ → List ℕ → List ℕ
without x [] = []
without x (a ∷ l) = cond (eqb a x) l (replace x a l)

-- The columns: the first member of R that passes is exchanged with m: what comes out, and what R is then.
abbrev pub found : (ℕ → Bool) → ℕ → List ℕ → ℕ
found q m [] = m
found q m (b ∷ R) = cond (q b) b (found q m R)

abbrev pub put : (ℕ → Bool) → ℕ → List ℕ → List ℕ
put q m [] = []
put q m (b ∷ R) = cond (q b) (m ∷ R) (b ∷ put q m R)

abbrev pub lacks : (ℕ → Bool) → ℕ → Bool
lacks p c = not (p c)

-- each one of M, from the left, is exchanged with the first zero of R: what M is then, and what R is
abbrev pub swept : (ℕ → Bool) → List ℕ → List ℕ → List ℕ
swept p [] R = []
swept p (m ∷ M) R = cond (p m) (found (lacks p) m R ∷ swept p M (put (lacks p) m R)) (m ∷ swept p M R)

abbrev pub filled : (ℕ → Bool) → List ℕ → List ℕ → List ℕ
filled p [] R = R
filled p (m ∷ M) R = cond (p m) (filled p M (put (lacks p) m R)) (filled p M R)

abbrev pub rev : List ℕ → List ℕ
rev [] = []
rev (a ∷ l) = rev l ++ (a ∷ [])

-- the column of the step, the others that leave V, and what is left of it
pub record Cut : Type 0 where
  pub pivot : ℕ
  pub gone : List ℕ
  pub rest : List ℕ

-- The first column a, the middle M, and the last ones T, as many as the row has ones besides the first. The row's first one comes to the front, by an
-- exchange with a; each further one of the middle is exchanged with the rightmost zero of the last ones.
abbrev pub cut : (ℕ → Bool) → ℕ → List ℕ → List ℕ → Cut
cut p a M T =
    let M₀ = cond (p a) M (put p a M) in
    record { pivot = cond (p a) a (found p a M); gone = rev (filled p M₀ (rev T)); rest = swept p M₀ (rev T) }

abbrev pub arrange : (ℕ → ℕ → Bool) → List ℕ → ℕ → Cut
arrange row [] x = record { pivot = 0; gone = []; rest = [] }
arrange row (a ∷ C) x =
    let k = length C - (count row (a ∷ C) x - 1) in
    cut (row x) a (take k C) (drop k C)

-- phase one before a step: V, the eligible rows, the rows with a single one, the labels
pub record State : Type 0 where
  pub cols : List ℕ
  pub elig : List ℕ
  pub singles : List ℕ
  pub marks : Marks

-- Before the first step the pairs of V are joined, from the top; then a component's label is one more than its least column.
abbrev pub number_of : Option ℕ → ℕ
number_of none = 0
number_of (some q) = suc q

abbrev pub by_least : List ℕ → (ℕ → ℕ) → ℕ → ℕ
by_least C lab c = cond (eqb (lab c) 0) 0 (number_of (head (filter (λ d. eqb (lab d) (lab c)) C)))

abbrev pub raw_marks : (ℕ → ℕ → Bool) → List ℕ → List ℕ → Marks
raw_marks row C E = add_pairs row C (record { lab = λ _. 0; next = 1 }) (filter (λ x. eqb (count row C x) 2) E)

-- every column of C is below w
abbrev pub first_marks : (ℕ → ℕ → Bool) → List ℕ → List ℕ → ℕ → Marks
first_marks row C E w = record { lab = by_least C (raw_marks row C E).lab; next = suc w }

abbrev pub first_singles : (ℕ → ℕ → Bool) → List ℕ → List ℕ → List ℕ
first_singles row C E = filter (λ x. eqb (count row C x) 1) E

abbrev pub start : (ℕ → ℕ → Bool) → List ℕ → List ℕ → ℕ → State
start row C E w = record { cols = C; elig = E; singles = first_singles row C E; marks = first_marks row C E w }

abbrev pub chosen : (ℕ → ℕ → Bool) → (ℕ → ℕ) → State → Option ℕ
chosen row deg s = choose row deg s.cols s.elig s.singles s.marks.lab s.marks.next

-- row x is chosen, the column `pivot` and the columns `gone` leave V, and C' is left
abbrev pub after : (ℕ → ℕ → Bool) → State → ℕ → ℕ → List ℕ → List ℕ → State
after row s x pivot gone C' = record {
  cols = C';
  elig = without x s.elig;
  singles = next_singles row C' x (without x s.elig) pivot gone s.singles;
  marks = add_pairs row C' s.marks (noted row C' (without x s.elig) (pivot ∷ gone));
}
