-- A pool's length, which has room for the map and for P pages, and which of its words may have changed.
-- Assumes nothing: these are definitions.
use Rattle.std.specs.Prelude.{◌≡◌, ◌≢◌, List, [], ℕ, ◌≤◌, length, take}
use Rattle.model.specs.Basics.{All}
use Rattle.model.specs.Layout.{head_words, most_pages, first_word, today}
use Rattle.lend.specs.Pages.{page_in, map_in}

-- the head and the map are there, and P is at most 4,096
abbrev pub Sized : List ℕ → Type 0
Sized w = (first_word today 0 ≤ length w) × (length w ≤ first_word today (most_pages today))

-- no word of the head and of other pages than ps is changed
pub record Touches (ps w w' : List ℕ) : Type 0 where
  pub long : length w' ≡ length w
  pub head : take head_words w' ≡ take head_words w
  pub others : (q : ℕ) → All (λ p. q ≢ p) ps → page_in w' q ≡ page_in w q

-- the map's words become m, and no other word is changed
pub record MapBecomes (m w w' : List ℕ) : Type 0 where
  pub map : map_in w' ≡ m
  pub keeps : Touches [] w w'
