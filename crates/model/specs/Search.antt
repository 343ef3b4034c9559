-- Document 01, "Get and contains also return the pages read": the search path of a key, from the root to the page that
-- holds it, or to a leaf if it is absent. The pages read are the length of that path, which is at most the levels.
-- Assumes nothing: these are definitions.
use Rattle.std.specs.Prelude.{Bool, false, cond, List, [], ◌∷◌, ℕ, zero, suc, ltb, eqb, length, get_or}
use Rattle.std.proofs.Math.Option.{Option}
use Rattle.model.specs.Tree.{Entry, Tree, no_entry}
use Rattle.model.specs.Entries.{gap_before}
use Rattle.model.specs.Gap.{child}

-- whether the entry at slot i has key k
abbrev pub at : ℕ → List Entry → ℕ → Bool
at k es i = cond (ltb i (length es)) (eqb (get_or es i no_entry).key k) false

unfoldable pub search_path : ℕ → (h : ℕ) → Tree h → List ℕ
search_path k zero t = []
search_path k (suc h) t =
    let i = gap_before k t.own in
    t.page ∷ cond (at k t.own i) [] (search_path k h (child h t i))

-- what get answers: the value, and the pages read
pub record Found : Type 0 where
  pub value : Option ℕ
  pub read : ℕ

-- what contains answers: whether the key is there, and the pages read
pub record Seen : Type 0 where
  pub present : Bool
  pub read : ℕ
