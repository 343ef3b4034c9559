-- The words that hold a pool: the head by what the pool holds, the map's bits by the pages met, and the tree standing
-- in its pages.
-- What a call that stores has to leave; with `Right` it is soundness (proofs/Written).
-- Assumes nothing: these are definitions.
use Rattle.std.specs.Prelude.{◌≡◌, List, [], ◌∷◌, ℕ, zero, suc, ◌≤◌, ◌<◌, length, get_or}
use Rattle.model.specs.Basics.{tab}
use Rattle.model.specs.Layout.{head_words, first_word, word}
use Rattle.model.specs.Head.{geometry_of, least_of}
use Rattle.model.specs.PageMap.{map_of, bit_at}
use Rattle.model.specs.Tree.{Entry, no_entry, meets}
use Rattle.model.specs.Page.{page_of}
use Rattle.model.specs.Standing.{root_of, Standing}
use Rattle.model.specs.Entries.{Cursor, shut, gap}
use Rattle.model.specs.Pool.{Pool, held_by}

-- ---- the head's words, by what the pool holds

-- words 5, 6 and 7
abbrev pub open_in : Cursor → ℕ
open_in shut = 0
open_in (gap g) = 1

abbrev pub after_in : Cursor → ℕ
after_in shut = 0
after_in (gap zero) = 0
after_in (gap (suc g)) = 1

abbrev pub key_in : List Entry → Cursor → ℕ
key_in es shut = 0
key_in es (gap zero) = 0
key_in es (gap (suc g)) = (get_or es g no_entry).key

-- words 0 to 8; those after them are 0
abbrev pub head_of : Pool → List ℕ
head_of p =
    1 ∷ p.pages ∷ length (held_by p) ∷ root_of p.whole.levels p.whole.tree ∷ p.whole.levels
    ∷ open_in p.cursor ∷ after_in p.cursor ∷ key_in (held_by p) p.cursor ∷ p.kind ∷ []

pub record Written (w : List ℕ) (p : Pool) : Type 0 where
  pub geometry : geometry_of w ≡ p.geometry
  pub long : length w ≡ first_word p.geometry p.pages
  pub head : tab 9 (word w) ≡ head_of p
  pub spare : (i : ℕ) → 9 ≤ i → i < head_words → word w i ≡ 0
  pub bits : (q : ℕ) → bit_at (map_of w) q ≡ meets q p.whole
  pub stands : Standing (least_of w) (page_of w) p.whole.levels p.whole.tree
