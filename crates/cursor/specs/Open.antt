-- Opening in code: at the gap of an aim, and at that of a bound. The start is known without a page; any other gap takes
-- all levels.
-- Assumes nothing: these are definitions.
use Rattle.std.specs.Prelude.{◌≡◌, List, ℕ, length, Result, Ok, Err}
use Rattle.model.specs.Entries.{gap_of, gap}
use Rattle.model.specs.Pool.{held_by, pool_of, with_cursor}
use Rattle.model.specs.Sound.{Sound}
use Rattle.model.specs.Written.{Written}
use Rattle.model.specs.Call.{Call, ReadsPages}
use Rattle.model.specs.CursorCalls.{opens}
use Rattle.tree.specs.declared.search.Aim.{Aim}
use Rattle.tree.specs.declared.search.Aim.TheVariants.{Before, After, Start, End}
use Rattle.tree.specs.Search.{aimed}
use Rattle.map.specs.declared.refusal.Refusal.{Refusal}
use Rattle.map.specs.declared.refusal.Refusal.TheVariants as refusal
use Rattle.map.specs.Answers.{outcome_of, itself}
use Rattle.map.specs.Bound.{aim_by}

-- the pages read, of so many levels
abbrev pub aim_read : Aim → ℕ → ℕ
aim_read (Before k) levels = levels
aim_read (After k) levels = levels
aim_read Start levels = 0
aim_read End levels = levels

-- at the gap of `aim`, with so many pages read
pub record Opens (aim : Aim) (read : ℕ) (w w' : List ℕ) (r : Result ℕ Refusal) : Type 0 where
  pub long : length w' ≡ length w
  pub refused : (e : Refusal) → r ≡ Err e → (e ≡ refusal.Unsound) × (w' ≡ w) × (Sound w → ⊥)
  pub opens : (n : ℕ) → r ≡ Ok n → (n ≡ read) × (Sound w → Written w' (with_cursor (pool_of w) (gap (gap_of (aimed aim) (held_by (pool_of w))))))

-- document 01's two calls, by what their bound names
abbrev pub opens_at : ℕ → Aim → Call ℕ
opens_at kind aim = opens kind (aimed aim) (aim_read aim)

abbrev pub OpensBy : Result Aim Refusal → List ℕ → List ℕ → Result ℕ Refusal → Type 0
OpensBy b w w' r = (kind : ℕ) (aim : Aim) → b ≡ aim_by kind aim → ReadsPages (opens_at kind aim) (λ n. n) w w' (outcome_of itself r)
