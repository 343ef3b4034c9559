-- The entry after the gap in code: where it stands, with the gap's path; and whether a key goes between it and the
-- entry that the gap names. On any words a place answered lies inside the pool.
-- Assumes nothing: these are definitions.
use Rattle.std.specs.Prelude.{◌≡◌, Bool, true, cond, List, [], ◌∷◌, ℕ, eqb, ltb, length, Result, Ok, Some, None, Option}
use Rattle.model.specs.Basics.{every}
use Rattle.model.specs.Head.{after_word, key_word}
use Rattle.model.specs.Page.{entry_in}
use Rattle.model.specs.Pool.{pool_of, gap_by}
use Rattle.model.specs.Sound.{Sound}
use Rattle.page.specs.declared.Unsound.{Unsound}
use Rattle.lend.specs.Pages.{most, page_in}
use Rattle.tree.specs.declared.steps.Spot.{Spot}
use Rattle.tree.specs.Sits.{PathIn, PathOf}
use Rattle.tree.specs.Steps.{spot_of, Within}

-- where the entry after the gap of a sound pool stands
unfoldable pub spot_ahead : List ℕ → Option Spot
spot_ahead w = spot_of (pool_of w).whole.levels (pool_of w).whole.tree (gap_by (pool_of w))

-- an entry that stands there can be read
pub record FindsAhead (w : List ℕ) (r : Result (Option Spot) Unsound) : Type 0 where
  pub within : (x : Option Spot) → r ≡ Ok x → Within w x
  pub exact : Sound w → r ≡ Ok (spot_ahead w)

-- the same, with the path of the gap
pub record SeeksAhead (w ps ss ps' ss' : List ℕ) (r : Result (Option Spot) Unsound) : Type 0 where
  pub pages : length ps' ≡ length ps
  pub slots : length ss' ≡ length ss
  pub finds : FindsAhead w r
  pub inside : (x : Option Spot) → r ≡ Ok x → PathIn w ps' ss'
  pub path : Sound w → PathOf (pool_of w).whole.levels (pool_of w).whole.tree (gap_by (pool_of w)) ps' ss'

-- ---- whether a key lies strictly between the gap's neighbours

-- above the key that the gap names
abbrev pub above_named : List ℕ → ℕ → Bool
above_named w k = cond (eqb (after_word w) 0) true (ltb (key_word w) k)

-- under the key of the entry after it
abbrev pub under_ahead : List ℕ → Option Spot → ℕ → Bool
under_ahead w (Some x) k = ltb k (entry_in most (page_in w x.page) x.slot).key
under_ahead w None k = true

abbrev pub fits_at : List ℕ → Option Spot → ℕ → Bool
fits_at w x k = every (above_named w k ∷ under_ahead w x k ∷ [])
