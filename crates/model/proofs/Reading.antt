-- Document 01: "the pages read: the number of pages on the path from the root to the page that holds the key, or all
-- levels if absent". So says the length of the search path, of every sound pool; and it is never above the levels.
-- Assumes nothing.
use mathlib.Core.Path.{◌≡◌}
use mathlib.Core.Bool.{true, false}
use mathlib.Core.List.{List}
use Prim.Native.Nat.{ℕ, pred, ◌≤◌}
use Rattle.model.specs.Basics.{final}
use Rattle.model.specs.Layout.{most_entries}
use Rattle.model.specs.Head.{least_of, levels_word, root_word}
use Rattle.model.specs.Tree.{held, Formed}
use Rattle.model.specs.Page.{page_of, entries_of}
use Rattle.model.specs.Entries.{has}
use Rattle.model.specs.Search.{search_path}
use Rattle.model.specs.Pool.{Pool, held_by, pool_of, whole_of}
use Rattle.model.specs.Sound.{Sound}
use Rattle.model.specs.Call.{Call, answered, refused, Meets, ReadsPages}
use Rattle.model.specs.MapCalls.{pages_read}
use Rattle.model.proofs.Cases.{never}
use Rattle.model.proofs.Search.{search-few, search-absent, search-present}

pub read-few : (k : ℕ) (p : Pool) → pages_read k p ≤ p.whole.levels
unfolding pages_read
read-few k p = search-few k p.whole.levels p.whole.tree

module _ (k : ℕ) (w : List ℕ) (s : Sound w) where
  pub read-absent : has k (held_by (pool_of w)) ≡ false → pages_read k (pool_of w) ≡ levels_word w
  unfolding pages_read pool_of whole_of held Formed
  read-absent none = search-absent k (least_of w) 1 (levels_word w) (whole_of w).tree s.formed s.rising none

  -- the last page of the path holds the key
  pub read-present : has k (held_by (pool_of w)) ≡ true
      → has k (entries_of (most_entries (least_of w)) (page_of w (final 0 (search_path k (pool_of w).whole.levels (pool_of w).whole.tree)))) ≡ true
  unfolding pool_of whole_of held Formed
  read-present there = search-present k (least_of w) (page_of w) 1 (levels_word w) (pred (root_word w)) s.formed s.rising there

-- ---- how a call that tells the pages read meets its promise

module _ {A : Type 0} {c : Call A} {read : A → ℕ} {w v : List ℕ} where
  pub pages-told : {a : A} → Meets c w v (answered a) → read a ≤ levels_word w → ReadsPages c read w v (answered a)
  pages-told {a} met few = record { meets = met; few = λ b e. let same : a ≡ b = cc in rw (← same) few }

  pub pages-refused : {n : ℕ} → Meets c w v (refused n) → ReadsPages c read w v (refused n)
  pages-refused met = record { meets = met; few = λ b e. never (cc) }
