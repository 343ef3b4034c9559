-- A tree stands in pages: each of its pages has the words that say so. What reading finds, and what writing has to
-- leave, as the inner contracts say it; no public contract speaks of it.
-- Assumes nothing: these are definitions.
use Rattle.std.specs.Prelude.{◌≡◌, List, map, ℕ, zero, suc, pred, ◌<◌}
use Rattle.model.specs.Basics.{All}
use Rattle.model.specs.Layout.{most_entries}
use Rattle.model.specs.Tree.{Node, Tree}
use Rattle.model.specs.Page.{height_of, entries_of, children_of}

-- page p as its words have it, children by number
abbrev pub node_of : ℕ → ℕ → List ℕ → Node ℕ
node_of most p page = record { page = p; own = entries_of most page; children = children_of most page }

-- a page of height h, with the entries of x and, above the leaves, its children; a leaf's child words may be anything
pub record Holds (most h : ℕ) (x : Node ℕ) (page : List ℕ) : Type 0 where
  pub height : height_of page ≡ h
  pub own : entries_of most page ≡ x.own
  pub children : 0 < h → children_of most page ≡ x.children

-- the same page with other children
abbrev pub map_node : {S U : Type 0} → (S → U) → Node S → Node U
map_node f x = record { page = x.page; own = x.own; children = map f x.children }

-- the number of the root's page plus 1; 0 where there is none
abbrev pub root_of : (h : ℕ) → Tree h → ℕ
root_of zero t = 0
root_of (suc h) t = suc t.page

-- the number of the root's page
abbrev pub page_number : (h : ℕ) → Tree h → ℕ
page_number h t = pred (root_of h t)

module _ (m : ℕ) (pages : ℕ → List ℕ) where
  -- what the words of the root's page say
  abbrev pub Stands : (h : ℕ) → Tree (suc h) → Type 0
  Stands h t = Holds (most_entries m) h (map_node (page_number h) t) (pages t.page)

  -- so of each page of the tree
  unfoldable pub Standing : (h : ℕ) → Tree h → Type 0
  Standing zero t = Unit {0}
  Standing (suc h) t = Stands h t × All (Standing h) t.children
