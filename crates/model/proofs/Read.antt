-- A page that is read has its number, as many entries as its count says, and one child more, whatever its words are.
-- Assumes nothing.
use mathlib.Core.Path.{◌≡◌, refl}
use mathlib.Core.List.{List}
use Prim.Native.Nat.{ℕ, suc}
use lib.ListN.{length}
use Rattle.model.specs.Page.{count_of, entry_in, child_in, entries_of, children_of, read_tree}
use Rattle.model.proofs.Basics.{length-tab}

pub length-own : (most : ℕ) (page : List ℕ) → length (entries_of most page) ≡ count_of page
unfolding entries_of
length-own most page = length-tab (count_of page) (entry_in most page)

pub length-children : (most : ℕ) (page : List ℕ) → length (children_of most page) ≡ suc (count_of page)
unfolding children_of
length-children most page = length-tab (suc (count_of page)) (child_in most page)

pub read-page : (m : ℕ) (pages : ℕ → List ℕ) (h p : ℕ) → (read_tree m pages (suc h) p).page ≡ p
unfolding read_tree
read-page m pages h p = refl
