-- The pages that a removal frees on its way up, in their order: what the inner contracts of removal say of the page
-- map. No public contract speaks of it: there the map is what the tree meets.
-- Assumes nothing: these are definitions.
use Rattle.std.specs.Prelude.{List, [], ◌∷◌, ◌++◌, ℕ, zero, suc}
use Rattle.model.specs.Tree.{Node, Tree}
use Rattle.model.specs.Gap.{slot_at, rest_at, child_at}
use Rattle.model.specs.Mend.{Plan, keep, move, join, node_at}
use Rattle.model.specs.Remove.{lost, plan_at, remove_at}

-- in a join the left page stays and the right page is freed
unfoldable pub spare : {S : Type 0} → Plan → Node (Node S) → List ℕ
spare keep t = []
spare (move j n) t = []
spare (join j) t = (node_at t (suc j)).page ∷ []

-- by a page whose child on the path has become c
unfoldable pub step_freed : (m h : ℕ) → Tree (suc h) → ℕ → Tree h → List ℕ
step_freed m zero t g c = []
step_freed m (suc h) t g c =
    let u : Tree (suc (suc h)) = lost (suc h) t (slot_at (suc h) t g) (rest_at (suc h) t g) c in
    spare (plan_at m h u (slot_at (suc h) t g)) u

unfoldable pub freed_at : (m h : ℕ) → Tree h → ℕ → List ℕ
freed_at m zero t g = []
freed_at m (suc h) t g = freed_at m h (child_at h t g) (rest_at h t g) ++ step_freed m h t g (remove_at m h (child_at h t g) (rest_at h t g))
