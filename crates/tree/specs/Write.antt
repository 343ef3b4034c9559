-- An entry overwritten where it stands. Assumes nothing: these are definitions.
use Rattle.std.specs.Prelude.{◌≡◌, List, [], ◌∷◌, ℕ, ◌<◌, length, get_or, Some}
use Rattle.model.specs.Tree.{entry, no_entry}
use Rattle.model.specs.Write.{write}
use Rattle.model.specs.Pool.{held_by, pool_of, with_whole}
use Rattle.model.specs.Sound.{Sound}
use Rattle.model.specs.Written.{Written}
use Rattle.lend.specs.Pages.{OnlyPages}
use Rattle.tree.specs.Steps.{spot, spot_of}

-- the value v in the place of that of the entry at slot s of page p; r is the value before
pub record Writes (p s v : ℕ) (w w' : List ℕ) (r : ℕ) : Type 0 where
  pub only : OnlyPages (p ∷ []) w w'
  pub before : (g : ℕ) → Sound w → g < length (held_by (pool_of w)) → spot_of (pool_of w).whole.levels (pool_of w).whole.tree g ≡ Some (spot p s)
      → r ≡ (get_or (held_by (pool_of w)) g no_entry).value
  pub holds : (g : ℕ) → Sound w → g < length (held_by (pool_of w)) → spot_of (pool_of w).whole.levels (pool_of w).whole.tree g ≡ Some (spot p s)
      → Written w' (with_whole (pool_of w) (write (pool_of w).whole g (entry (get_or (held_by (pool_of w)) g no_entry).key v)))
