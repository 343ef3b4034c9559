-- The pages reached from the root, by words alone: a route is the numbers of the children that it follows, root first.
-- A leaf is a page of height 0.
-- Assumes nothing: these are definitions.
use Rattle.std.specs.Prelude.{List, [], ◌∷◌, ℕ, pred, ◌≤◌}
use Rattle.model.specs.Layout.{most_entries}
use Rattle.model.specs.Head.{least_of, root_word}
use Rattle.model.specs.Page.{page_of, count_of, height_of, child_in}

-- the route leads from page p to page q: a page of height above 0 with c entries has c + 1 children
pub data Leads (m : ℕ) (pages : ℕ → List ℕ) : ℕ → List ℕ → ℕ → Type 0 where
  here : {p : ℕ} → Leads m pages p [] p
  down : {p q i : ℕ} {route : List ℕ} → 1 ≤ height_of (pages p) → i ≤ count_of (pages p) → Leads m pages (child_in (most_entries m) (pages p) i) route q
      → Leads m pages p (i ∷ route) q

abbrev pub Reached : List ℕ → List ℕ → ℕ → Type 0
Reached w route p = (1 ≤ root_word w) × Leads (least_of w) (page_of w) (pred (root_word w)) route p
