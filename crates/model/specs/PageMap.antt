-- Document 01, "The pool", the page map: bit b of word w, counted from the lowest, stands for page 64w + b; 1 means
-- taken.
-- And the free pages in the order in which they are taken: lowest first.
-- Assumes nothing: these are definitions.
use Rattle.std.specs.Prelude.{cond, List, [], ◌∷◌, ℕ, zero, suc, ◌/◌, ◌%◌, ◌^◌, eqb, take, drop, get_or}
use Rattle.model.specs.declared.Geometry.{Geometry}
use Rattle.model.specs.Layout.{head_words, map_words}
use Rattle.model.specs.Head.{geometry_of}

-- the map's words: in a geometry; in the one that the head names
unfoldable pub map_at : Geometry → List ℕ → List ℕ
map_at γ w = take (map_words γ) (drop head_words w)

abbrev pub map_of : List ℕ → List ℕ
map_of w = map_at (geometry_of w) w

-- bit b of x: 0 or 1
unfoldable pub bit : ℕ → ℕ → ℕ
bit x b = x / 2 ^ b % 2

-- page p's bit; 0 past the words
unfoldable pub bit_at : List ℕ → ℕ → ℕ
bit_at words p = bit (get_or words (p / 64) 0) (p % 64)

-- of the n pages from p on, those at which `taken` is 0, lowest first
unfoldable pub free_from : (ℕ → ℕ) → ℕ → ℕ → List ℕ
free_from taken p zero = []
free_from taken p (suc n) = cond (eqb (taken p) 0) (p ∷ free_from taken (suc p) n) (free_from taken (suc p) n)

-- the free ones of P pages
unfoldable pub free_pages : (ℕ → ℕ) → ℕ → List ℕ
free_pages taken P = free_from taken 0 P
