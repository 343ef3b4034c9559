-- One entry by its key: where it stands, in a pool whose head fits; a new one put in, one struck out, where the cursor
-- is closed too. On any words a place answered lies inside the pool, and what is not done has changed no word.
-- Assumes nothing: these are definitions.
use Rattle.std.specs.Prelude.{◌≡◌, Bool, true, false, ◌⊎◌, List, ℕ, ◌<◌, length, Option, Some, None, Result, Ok, Err}
use Rattle.std.proofs.Math.Option.{none, some}
use Rattle.model.specs.Tree.{entry}
use Rattle.model.specs.Head.{headed}
use Rattle.model.specs.Entries.{has, lookup, gap_before, shut}
use Rattle.model.specs.Search.{Found, Seen}
use Rattle.model.specs.Remove.{remove}
use Rattle.model.specs.Pool.{held_by, pool_of, with_whole, least_by}
use Rattle.model.specs.Sound.{Sound}
use Rattle.model.specs.Written.{Written}
use Rattle.model.specs.Call.{Call, reads}
use Rattle.model.specs.MapCalls.{read_tests, put_at, crowded, pages_read}
use Rattle.model.specs.Source.{view, member}
use Rattle.page.specs.declared.Unsound.{Unsound}
use Rattle.lend.specs.Pages.{most, Inside}
use Rattle.tree.specs.declared.steps.Spot.{Spot}
use Rattle.tree.specs.Sits.{PathIn, PathOf}
use Rattle.tree.specs.Steps.{spot, spot_of}
use Rattle.map.specs.declared.refusal.Refusal.{Refusal}
use Rattle.map.specs.declared.refusal.Refusal.TheVariants as refusal

-- ---- a key, in a sound pool

-- the gap before it; whether it is there (`member`) and its value (`view`) have the source's names
abbrev pub gap_for : ℕ → List ℕ → ℕ
gap_for k w = gap_before k (held_by (pool_of w))

-- whether the pages for an entry there are missing
abbrev pub full_for : ℕ → List ℕ → Bool
full_for k w = crowded (gap_for k w) (pool_of w)

-- where the entry after the gap stands
unfoldable pub spot_for : ℕ → List ℕ → Option Spot
spot_for k w = spot_of (pool_of w).whole.levels (pool_of w).whole.tree (gap_for k w)

-- a pool that may be changed by key: its head fits, and its cursor is closed
abbrev pub Changeable : List ℕ → Type 0
Changeable w = (headed w ≡ true) × ((pool_of w).cursor ≡ shut)

-- ---- where the key's entry stands

pub record StandsAt (w : List ℕ) (k p s : ℕ) : Type 0 where
  pub within : Inside p w × (s < most)
  pub there : Sound w → (member w k ≡ true) × (spot_for k w ≡ Some (spot p s))

pub record Finds (w : List ℕ) (k : ℕ) (r : Result (Option Spot) Unsound) : Type 0 where
  pub here : (p s : ℕ) → r ≡ Ok (Some (spot p s)) → StandsAt w k p s
  pub absent : r ≡ Ok None → Sound w → member w k ≡ false
  pub unsound : (e : Unsound) → r ≡ Err e → Sound w → ⊥

-- the same, with the path of the gap
pub record SeeksKey (w : List ℕ) (k : ℕ) (ps ss ps' ss' : List ℕ) (r : Result (Option Spot) Unsound) : Type 0 where
  pub pages : length ps' ≡ length ps
  pub slots : length ss' ≡ length ss
  pub finds : Finds w k r
  pub inside : (x : Option Spot) → r ≡ Ok x → PathIn w ps' ss'
  pub path : Sound w → PathOf (pool_of w).whole.levels (pool_of w).whole.tree (gap_for k w) ps' ss'

-- ---- the entry of a key that has none

pub record PutIn (k v : ℕ) (w w' : List ℕ) : Type 0 where
  pub absent : member w k ≡ false
  pub room : full_for k w ≡ false
  pub holds : Written w' (put_at (gap_for k w) (entry k v) (pool_of w))

-- it is new, or stands already; or the pages for it are missing, or the pool is unsound
pub record Adds (k v : ℕ) (w w' : List ℕ) (r : Result (Option Spot) Refusal) : Type 0 where
  pub long : length w' ≡ length w
  pub new : r ≡ Ok None → Sound w → PutIn k v w w'
  pub here : (p s : ℕ) → r ≡ Ok (Some (spot p s)) → (w' ≡ w) × StandsAt w k p s
  pub refused : (e : Refusal) → r ≡ Err e → (e ≡ refusal.NoRoom) ⊎ (e ≡ refusal.Unsound)
  pub full : r ≡ Err refusal.NoRoom → (w' ≡ w) × (Sound w → (member w k ≡ false) × (full_for k w ≡ true))
  pub unsound : r ≡ Err refusal.Unsound → (w' ≡ w) × (Sound w → ⊥)

-- ---- the key's entry goes

pub record TakenOut (k v : ℕ) (w w' : List ℕ) : Type 0 where
  pub value : view w k ≡ some v
  pub holds : Written w' (with_whole (pool_of w) (remove (least_by (pool_of w)) (pool_of w).whole (gap_for k w)))

pub record Strikes (k : ℕ) (w w' : List ℕ) (r : Result (Option ℕ) Unsound) : Type 0 where
  pub long : length w' ≡ length w
  pub value : (v : ℕ) → r ≡ Ok (Some v) → Sound w → TakenOut k v w w'
  pub absent : r ≡ Ok None → (w' ≡ w) × (Sound w → view w k ≡ none)
  pub unsound : (e : Unsound) → r ≡ Err e → (w' ≡ w) × (Sound w → ⊥)

-- ---- get and contains, of a pool of a kind: document 01's for a map and for a set

abbrev pub gets_in : ℕ → ℕ → Call Found
gets_in kind k = reads (read_tests kind) (λ p. record { value = lookup k (held_by p); read = pages_read k p })

abbrev pub contains_in : ℕ → ℕ → Call Seen
contains_in kind k = reads (read_tests kind) (λ p. record { present = has k (held_by p); read = pages_read k p })
