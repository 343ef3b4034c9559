-- What the tree's functions are asked and given about a pool: a path of pages inside it, and the tree that stands in
-- it.
-- Assumes nothing: these are definitions.
use Rattle.std.specs.Prelude.{◌≡◌, List, map, ℕ, suc, ◌≤◌, ◌<◌, length}
use Rattle.model.specs.Basics.{All}
use Rattle.model.specs.Layout.{pages_in, today}
use Rattle.model.specs.Tree.{Tree, entries, size, times, Rising, Shaped}
use Rattle.model.specs.Standing.{Standing}
use Rattle.model.specs.Path.{gap_pages, gap_slots}
use Rattle.model.specs.Pool.{held_by, pool_of}
use Rattle.model.specs.Sound.{Sound}
use Rattle.lend.specs.Pages.{least, most, Inside, page_in}
use Rattle.tree.specs.declared.steps.Spot.{Spot}

-- the pages of a path as it is lent, a spot a level, and its slots
abbrev pub pages_of : List Spot → List ℕ
pages_of path = map (λ (x : Spot). x.page) path

abbrev pub slots_of : List Spot → List ℕ
slots_of path = map (λ (x : Spot). x.slot) path

-- a path inside the pool: a page and a slot for each level, root first
pub record PathIn (w ps ss : List ℕ) : Type 0 where
  pub even : length ps ≡ length ss
  pub inside : All (λ p. Inside p w) ps
  pub slots : All (λ s. s ≤ most) ss

-- the path of gap g
pub record PathOf (h : ℕ) (t : Tree h) (g : ℕ) (ps ss : List ℕ) : Type 0 where
  pub pages : ps ≡ gap_pages h t g
  pub slots : ss ≡ gap_slots h t g

-- a tree in the pool: its pages stand there, each inside; its root has `low` entries or more, at least 1
pub record Sits (w : List ℕ) (low h : ℕ) (t : Tree h) : Type 0 where
  pub some : 1 ≤ low
  pub stands : Standing least (page_in w) h t
  pub shaped : Shaped least low h t
  pub inside : (q : ℕ) → 0 < times q h t → q < pages_in today (length w)

-- for each tree that sits there with rising keys, and each gap of it that has this path
abbrev pub OnPath : List ℕ → List ℕ → List ℕ → ((h : ℕ) → Tree h → ℕ → Type 0) → Type 0
OnPath w ps ss P = (low h : ℕ) (t : Tree h) (g : ℕ) → Sits w low h t → Rising (entries h t) → g ≤ size h t → PathOf h t g ps ss → P h t g

-- for each such tree of n levels whose root is page p
abbrev pub From : List ℕ → ℕ → ℕ → ((h : ℕ) → Tree (suc h) → Type 0) → Type 0
From w p n P = (low h : ℕ) (t : Tree (suc h)) → n ≡ suc h → Sits w low (suc h) t → Rising (entries (suc h) t) → t.page ≡ p → P h t

-- in a sound pool: of each gap that has this path, and of each entry just after such a gap
abbrev pub AtGap : List ℕ → List ℕ → List ℕ → (ℕ → Type 0) → Type 0
AtGap w ps ss P = (g : ℕ) → Sound w → g ≤ length (held_by (pool_of w)) → PathOf (pool_of w).whole.levels (pool_of w).whole.tree g ps ss → P g

abbrev pub AtEntry : List ℕ → List ℕ → List ℕ → (ℕ → Type 0) → Type 0
AtEntry w ps ss P = (g : ℕ) → Sound w → g < length (held_by (pool_of w)) → PathOf (pool_of w).whole.levels (pool_of w).whole.tree g ps ss → P g
