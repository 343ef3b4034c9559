-- What a sound pool holds: its geometry, P, its kind, the tree with its levels, and the cursor as a place number.
-- And the same read from words.
-- Assumes nothing: these are definitions.
use Rattle.std.specs.Prelude.{cond, List, ℕ, pred, eqb, length, get_or}
use Rattle.model.specs.declared.Geometry.{Geometry}
use Rattle.model.specs.Head.{geometry_of, least_of, page_count, root_word, levels_word, open_word, after_word, key_word, kind_word}
use Rattle.model.specs.PageMap.{free_pages}
use Rattle.model.specs.Tree.{Entry, Whole, held, meets}
use Rattle.model.specs.Page.{page_of, read_tree}
use Rattle.model.specs.Entries.{Cursor, shut, gap, gap_after}

pub record Pool : Type 0 where
  pub geometry : Geometry
  pub pages : ℕ
  pub kind : ℕ
  pub whole : Whole
  pub cursor : Cursor

-- m, the fewest entries of a page that is not the root
abbrev pub least_by : Pool → ℕ
least_by p = p.geometry.least

abbrev pub held_by : Pool → List Entry
held_by p = held p.whole

-- the free pages, lowest first, and how many they are; the k-th of them
unfoldable pub free_of : Pool → List ℕ
free_of p = free_pages (λ q. meets q p.whole) p.pages

abbrev pub room : Pool → ℕ
room p = length (free_of p)

abbrev pub fresh_of : Pool → ℕ → ℕ
fresh_of p k = get_or (free_of p) k 0

-- an open cursor's gap
abbrev pub open_gap : Cursor → ℕ
open_gap shut = 0
open_gap (gap g) = g

abbrev pub gap_by : Pool → ℕ
gap_by p = open_gap p.cursor

-- the same pool with another tree, or with the cursor elsewhere
abbrev pub with_whole : Pool → Whole → Pool
with_whole p x = record { geometry = p.geometry; pages = p.pages; kind = p.kind; whole = x; cursor = p.cursor }

abbrev pub with_cursor : Pool → Cursor → Pool
with_cursor p c = record { geometry = p.geometry; pages = p.pages; kind = p.kind; whole = p.whole; cursor = c }

-- ---- read from words

-- the root's page is one less than its word
unfoldable pub whole_of : List ℕ → Whole
whole_of w = record { levels = levels_word w; tree = read_tree (least_of w) (page_of w) (levels_word w) (pred (root_word w)) }

-- a gap at the start, or just after the entry whose key is named
unfoldable pub cursor_of : List ℕ → Cursor
cursor_of w = cond (eqb (open_word w) 0) shut (gap (cond (eqb (after_word w) 0) 0 (gap_after (key_word w) (held (whole_of w)))))

unfoldable pub pool_of : List ℕ → Pool
pool_of w = record { geometry = geometry_of w; pages = page_count w; kind = kind_word w; whole = whole_of w; cursor = cursor_of w }
