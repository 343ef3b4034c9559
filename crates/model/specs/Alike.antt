-- Two pools that agree in each word that document 01 does not free: the head, the page map, and of each page that is
-- taken its count, its height, its entries and, above the leaves, its children.
-- Assumes nothing: these are definitions.
use Rattle.std.specs.Prelude.{◌≡◌, List, ℕ, ◌^◌, ◌<◌, length, take}
use Rattle.model.specs.Layout.{most_entries, first_word, word}
use Rattle.model.specs.Head.{geometry_of, least_of}
use Rattle.model.specs.PageMap.{map_of, bit_at}
use Rattle.model.specs.Page.{page_of, height_of}
use Rattle.model.specs.Standing.{Holds, node_of}

-- the words of a slice of u64: what its type says
abbrev pub Words : List ℕ → Type 0
Words w = (i : ℕ) → word w i < 2 ^ 64

-- the one holds what the other says
abbrev pub AlikePage : ℕ → List ℕ → List ℕ → Type 0
AlikePage m a b = Holds (most_entries m) (height_of b) (node_of (most_entries m) 0 b) a

pub record Alike (w v : List ℕ) : Type 0 where
  pub long : length w ≡ length v
  pub front : take (first_word (geometry_of w) 0) w ≡ take (first_word (geometry_of w) 0) v
  pub pages : (p : ℕ) → bit_at (map_of w) p ≡ 1 → AlikePage (least_of w) (page_of w p) (page_of v p)
