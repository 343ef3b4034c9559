-- Document 01, "The pool", the head: the place of each of its numbers, and when a head fits.
-- "A head fits when all this holds of its numbers": one line a sentence, in the paper's order.
-- Assumes nothing: these are definitions.
use Rattle.std.specs.Prelude.{Bool, false, not, cond, List, [], ◌∷◌, ◌++◌, map, ℕ, ◌+◌, ◌*◌, ◌-◌, leb, eqb, length}
use Rattle.model.specs.declared.Geometry.{Geometry}
use Rattle.model.specs.Basics.{tab, every}
use Rattle.model.specs.Layout.{head_words, most_levels, most_entries, today, pages_in, allowed, word}

-- the geometry that the head names: document 01 has one; its m; and P, by the length
unfoldable pub geometry_of : List ℕ → Geometry
geometry_of w = today

abbrev pub least_of : List ℕ → ℕ
least_of w = (geometry_of w).least

abbrev pub page_count : List ℕ → ℕ
page_count w = pages_in (geometry_of w) (length w)

-- the number of entries; the root's page number plus 1; the number of levels
abbrev pub count_word : List ℕ → ℕ
count_word w = word w 2

abbrev pub root_word : List ℕ → ℕ
root_word w = word w 3

abbrev pub levels_word : List ℕ → ℕ
levels_word w = word w 4

-- 1 while the cursor is open; 1 for a gap after an entry; that entry's key
abbrev pub open_word : List ℕ → ℕ
open_word w = word w 5

abbrev pub after_word : List ℕ → ℕ
after_word w = word w 6

abbrev pub key_word : List ℕ → ℕ
key_word w = word w 7

-- 0 for a map, 1 for a set
abbrev pub kind_word : List ℕ → ℕ
kind_word w = word w 8

-- both zero, or neither
abbrev pub both_or_neither : ℕ → ℕ → Bool
both_or_neither a b = cond (eqb a 0) (eqb b 0) (not (eqb b 0))

-- the words 9 to 31
abbrev pub spare_words : List ℕ → List ℕ
spare_words w = tab (head_words - 9) (λ i. word w (9 + i))

-- of a head in a pool of P pages; a set's word 5 is 0, so the two are not both 1; words 2, 3 and 4 are all zero or all
-- nonzero
abbrev pub number_tests : Geometry → ℕ → List ℕ → List Bool
number_tests γ P w =
    eqb (word w 0) 1
    ∷ eqb (word w 1) P
    ∷ leb (count_word w) (most_entries γ.least * P)
    ∷ leb (root_word w) P
    ∷ leb (levels_word w) (most_levels γ)
    ∷ leb (open_word w) 1
    ∷ leb (after_word w) 1
    ∷ leb (kind_word w) 1
    ∷ leb (kind_word w + open_word w) 1
    ∷ both_or_neither (count_word w) (root_word w)
    ∷ both_or_neither (count_word w) (levels_word w)
    ∷ []

-- and words 9 to 31 are 0
abbrev pub head_tests : Geometry → ℕ → List ℕ → List Bool
head_tests γ P w = number_tests γ P w ++ map (λ x. eqb x 0) (spare_words w)

unfoldable pub fits : List ℕ → Bool
fits w = every (head_tests (geometry_of w) (page_count w) w)

-- a length that is allowed and a head that fits
unfoldable pub headed : List ℕ → Bool
headed w = cond (allowed (geometry_of w) (length w)) (fits w) false
