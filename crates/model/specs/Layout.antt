-- Document 01, "The pool": where the words lie. A head of 32 words, a page map of 64 words, then P pages of 32 words,
-- P from 1 to 4,096. What pools may come to differ in is one value, their geometry (src/lib.rt): document 01 has one,
-- `today`, and its numbers stand there alone.
-- Assumes nothing: these are definitions.
use Rattle.std.specs.Prelude.{Bool, List, [], ◌∷◌, ℕ, ◌+◌, ◌*◌, ◌-◌, ◌/◌, leb, eqb, get_or}
use Rattle.model.specs.declared.Geometry.{Geometry}
use Rattle.model.specs.Basics.{every}

abbrev pub head_words : ℕ
head_words = 32

-- m, the fewest entries of a page that is not the root; the words of a page and of the map; the most pages and levels
abbrev pub today : Geometry
today = record { least = 4; words = 32; map = 64; pages = 4096; levels = 6 }

abbrev pub page_words : Geometry → ℕ
page_words γ = γ.words

abbrev pub map_words : Geometry → ℕ
map_words γ = γ.map

abbrev pub most_pages : Geometry → ℕ
most_pages γ = γ.pages

abbrev pub most_levels : Geometry → ℕ
most_levels γ = γ.levels

-- a page holds at most 2m + 1 entries
abbrev pub most_entries : ℕ → ℕ
most_entries m = 2 * m + 1

-- the first word of page p; of page P, the length of a pool of P pages
abbrev pub first_word : Geometry → ℕ → ℕ
first_word γ p = head_words + map_words γ + page_words γ * p

-- P, by the length
abbrev pub pages_in : Geometry → ℕ → ℕ
pages_in γ n = (n - first_word γ 0) / page_words γ

-- a length that is allowed
abbrev pub length_tests : Geometry → ℕ → List Bool
length_tests γ n = leb 1 (pages_in γ n) ∷ leb (pages_in γ n) (most_pages γ) ∷ eqb n (first_word γ (pages_in γ n)) ∷ []

unfoldable pub allowed : Geometry → ℕ → Bool
allowed γ n = every (length_tests γ n)

-- word i of a pool or of a page
abbrev pub word : List ℕ → ℕ → ℕ
word w i = get_or w i 0
