-- Document 01, "A pool is sound when ..": one field a clause, in the paper's order.
-- Free pages, slots past a page's count, a leaf's child words and words 30 and 31 of a page are read by none of them:
-- they may hold anything.
-- Assumes nothing: these are definitions.
use Rattle.std.specs.Prelude.{◌≡◌, true, List, ℕ, ◌≤◌, pred, length}
use Rattle.model.specs.Basics.{All}
use Rattle.model.specs.Head.{least_of, page_count, count_word, root_word, levels_word, open_word, after_word, key_word, kind_word, headed}
use Rattle.model.specs.PageMap.{map_of, bit_at}
use Rattle.model.specs.Tree.{held, meets, Rising, Formed}
use Rattle.model.specs.Page.{page_of, Heights}
use Rattle.model.specs.Entries.{has}
use Rattle.model.specs.Pool.{whole_of}

pub record Sound (w : List ℕ) : Type 0 where
  -- the length is allowed and the head fits
  pub head : headed w ≡ true
  -- walking from the root meets each page once; the pages met are exactly the bits set, and bits at and past P are 0
  pub met : (p : ℕ) → meets p (whole_of w) ≡ bit_at (map_of w) p
  pub past : (p : ℕ) → page_count w ≤ p → bit_at (map_of w) p ≡ 0
  -- a child's height is one less than its parent's and the root's is levels - 1
  pub heights : Heights (least_of w) (page_of w) (levels_word w) (pred (root_word w))
  -- the root holds 1 to 9 entries, every other page 4 to 9
  pub formed : Formed (least_of w) (whole_of w)
  -- keys in walking order strictly rise
  pub rising : Rising (held (whole_of w))
  -- the entries met number word 2
  pub count : length (held (whole_of w)) ≡ count_word w
  -- a set's values are 0
  pub values : kind_word w ≡ 1 → All (λ e. e.value ≡ 0) (held (whole_of w))
  -- a closed cursor has words 6 and 7 zero, a gap at the start has word 7 zero, and a gap after an entry names a key
  -- present
  pub closed : open_word w ≡ 0 → (after_word w ≡ 0) × (key_word w ≡ 0)
  pub start : after_word w ≡ 0 → key_word w ≡ 0
  pub named : after_word w ≡ 1 → has (key_word w) (held (whole_of w)) ≡ true
