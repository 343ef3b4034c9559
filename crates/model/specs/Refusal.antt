-- Document 01, "Numbers a caller can be given": the order 1, 2, 3, 8, 4, 5, 9, 6, 7, said once, and the tests that need
-- only lengths, head and arguments. 9 has no test: it is never given on a sound pool, and never owed.
-- Assumes nothing: these are definitions.
use Rattle.std.specs.Prelude.{Bool, true, false, not, cond, List, [], ◌∷◌, ℕ, leb, eqb}
use Rattle.model.specs.Head.{open_word, kind_word, headed}

infix 80 ◌when◌
pub record Test : Type 0 where
  pub number : ℕ
  pub holds : Bool

abbrev pub ◌when◌ : ℕ → Bool → Test
n when b = record { number = n; holds = b }

abbrev pub order : List ℕ
order = 1 ∷ 2 ∷ 3 ∷ 8 ∷ 4 ∷ 5 ∷ 9 ∷ 6 ∷ 7 ∷ []

-- the test of that number, if there is one
abbrev pub applies : ℕ → List Test → Bool
applies n [] = false
applies n (t ∷ ts) = cond (eqb t.number n) t.holds (applies n ts)

-- whether there is one
abbrev pub names : ℕ → List Test → Bool
names n [] = false
names n (t ∷ ts) = cond (eqb t.number n) true (names n ts)

abbrev pub first_of : List ℕ → List Test → ℕ
first_of [] ts = 0
first_of (n ∷ ns) ts = cond (applies n ts) n (first_of ns ts)

-- the number that a caller is given; 0 for no refusal
abbrev pub refusal : List Test → ℕ
refusal ts = first_of order ts

-- ---- on any words

abbrev pub unfit : List ℕ → Test
unfit w = 1 when not (headed w)

abbrev pub map_kind : ℕ
map_kind = 0

abbrev pub set_kind : ℕ
set_kind = 1

abbrev pub other_kind : ℕ → List ℕ → Test
other_kind kind w = 2 when not (eqb (kind_word w) kind)

abbrev pub bad_bound : Bool → Test
bad_bound b = 3 when b

abbrev pub while_open : List ℕ → Test
while_open w = 4 when eqb (open_word w) 1

abbrev pub while_closed : List ℕ → Test
while_closed w = 5 when eqb (open_word w) 0

-- a bound kind of 3 or more
abbrev pub no_bound : ℕ → Bool
no_bound kind = leb 3 kind
