-- Positions in the tree. A gap is a number; the gaps of a page's children partition its own gaps, so each gap is one
-- slot of one leaf. That a search by keys comes to the same slots is proved (proofs/Search).
-- Assumes nothing: these are definitions.
use Rattle.std.specs.Prelude.{cond, List, [], ◌∷◌, ℕ, zero, suc, ◌-◌, leb, get_or}
use Rattle.model.specs.Tree.{Tree, no_tree, size}

-- which child gap g belongs to, and which of that child's gaps it is. `f` says how many entries a child holds
abbrev pub slot : {S : Type 0} → (S → ℕ) → List S → ℕ → ℕ
slot f [] g = zero
slot f (s ∷ ss) g = cond (leb g (f s)) zero (suc (slot f ss (g - suc (f s))))

abbrev pub rest : {S : Type 0} → (S → ℕ) → List S → ℕ → ℕ
rest f [] g = g
rest f (s ∷ ss) g = cond (leb g (f s)) g (rest f ss (g - suc (f s)))

abbrev pub slot_at : (h : ℕ) → Tree (suc h) → ℕ → ℕ
slot_at h t g = slot (size h) t.children g

abbrev pub rest_at : (h : ℕ) → Tree (suc h) → ℕ → ℕ
rest_at h t g = rest (size h) t.children g

abbrev pub child : (h : ℕ) → Tree (suc h) → ℕ → Tree h
child h t i = get_or t.children i (no_tree h)

abbrev pub child_at : (h : ℕ) → Tree (suc h) → ℕ → Tree h
child_at h t g = child h t (slot_at h t g)
