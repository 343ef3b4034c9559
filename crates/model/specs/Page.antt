-- Document 01, "The pool", a page: word 0 entry count, word 1 height, then keys, values and child page numbers; and the
-- tree read from pages.
-- `most` is the most entries a page may hold: 9, so keys lie from word 2, values from word 11, children from word 20.
-- Assumes nothing: these are definitions.
use Rattle.std.specs.Prelude.{◌≡◌, List, map, ℕ, zero, suc, ◌+◌, ◌*◌, take, drop}
use Rattle.model.specs.declared.Geometry.{Geometry}
use Rattle.model.specs.Basics.{tab, All}
use Rattle.model.specs.Layout.{page_words, most_entries, first_word, word}
use Rattle.model.specs.Head.{geometry_of}
use Rattle.model.specs.Tree.{Entry, Tree}

-- the words of page p: in a geometry; in the one that the head names
unfoldable pub page_at : Geometry → List ℕ → ℕ → List ℕ
page_at γ w p = take (page_words γ) (drop (first_word γ p) w)

abbrev pub page_of : List ℕ → ℕ → List ℕ
page_of w = page_at (geometry_of w) w

abbrev pub count_of : List ℕ → ℕ
count_of page = word page 0

abbrev pub height_of : List ℕ → ℕ
height_of page = word page 1

-- where key i, value i and child i stand
abbrev pub key_place : ℕ → ℕ
key_place i = 2 + i

abbrev pub value_place : ℕ → ℕ → ℕ
value_place most i = 2 + most + i

abbrev pub child_place : ℕ → ℕ → ℕ
child_place most i = 2 + 2 * most + i

abbrev pub entry_in : ℕ → List ℕ → ℕ → Entry
entry_in most page i = record { key = word page (key_place i); value = word page (value_place most i) }

abbrev pub child_in : ℕ → List ℕ → ℕ → ℕ
child_in most page i = word page (child_place most i)

unfoldable pub entries_of : ℕ → List ℕ → List Entry
entries_of most page = tab (count_of page) (entry_in most page)

unfoldable pub children_of : ℕ → List ℕ → List ℕ
children_of most page = tab (suc (count_of page)) (child_in most page)

-- the tree of h levels whose root is page p
unfoldable pub read_tree : ℕ → (ℕ → List ℕ) → (h : ℕ) → ℕ → Tree h
read_tree m pages zero p = tt
read_tree m pages (suc h) p = record {
  page = p;
  own = entries_of (most_entries m) (pages p);
  children = map (read_tree m pages h) (children_of (most_entries m) (pages p));
}

-- each page's height word is one less than the levels from it down
unfoldable pub Heights : ℕ → (ℕ → List ℕ) → (h : ℕ) → ℕ → Type 0
Heights m pages zero p = Unit {0}
Heights m pages (suc h) p = (height_of (pages p) ≡ h) × All (Heights m pages h) (children_of (most_entries m) (pages p))
