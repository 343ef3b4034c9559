-- Document 01, "the lowest-numbered free page": the first of the free pages, and the map once it is taken.
-- Assumes nothing: these are definitions.
use Rattle.std.specs.Prelude.{Bool, List, [], ◌∷◌, ℕ, leb, length, Option, Some, None}
use Rattle.model.specs.PageMap.{bit_at, free_pages}
use Rattle.pagemap.specs.Bits.{set_bit}

-- the free ones of P pages, by the map's words
abbrev pub free_in : List ℕ → ℕ → List ℕ
free_in words P = free_pages (bit_at words) P

-- what is answered where these pages are free, lowest first
abbrev pub lowest_of : List ℕ → Option ℕ
lowest_of [] = None
lowest_of (p ∷ ps) = Some p

-- the map once that page is taken
abbrev pub took : List ℕ → Option ℕ → List ℕ
took words (Some p) = set_bit words p
took words None = words

-- at least k of P pages are free
abbrev pub enough : List ℕ → ℕ → ℕ → Bool
enough words P k = leb k (length (free_in words P))

-- so many words a map may have: 4,194,304 pages, and no number on the way overflows
abbrev pub most_words : ℕ
most_words = 65536
