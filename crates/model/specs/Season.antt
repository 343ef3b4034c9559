-- Demand 3. A season: a pool of P pages made fresh, then any calls with any arguments, refused ones included, each step
-- any outcome that the call's promise allows. By the answers alone it is counted how many new entries were accepted and
-- how many were removed. `Demand` says what holds at each moment.
-- Assumes nothing: these are definitions.
use Rattle.std.specs.Prelude.{◌≡◌, Bool, true, false, List, ℕ, suc, pred, ◌+◌, ◌*◌, ◌^◌, ◌≤◌, length}
use Rattle.std.proofs.Math.Option.{Option, none, some}
use Rattle.model.specs.declared.Geometry.{Geometry}
use Rattle.model.specs.Layout.{today, first_word}
use Rattle.model.specs.Head.{geometry_of, levels_word}
use Rattle.model.specs.PageMap.{map_of, bit_at}
use Rattle.model.specs.Tree.{Entry}
use Rattle.model.specs.Page.{page_of, height_of}
use Rattle.model.specs.Bound.{bound_of}
use Rattle.model.specs.Search.{Found, Seen}
use Rattle.model.specs.Pool.{held_by, pool_of}
use Rattle.model.specs.Sound.{Sound}
use Rattle.model.specs.Reached.{Reached}
use Rattle.model.specs.Call.{Outcome, refused, answered, Meets}
use Rattle.model.specs.PoolCalls.{Makes, Clears, Counts, TellsEmpty, Copies, Checks}
use Rattle.model.specs.MapCalls.{map_insert, map_get, map_contains, map_replace, map_remove}
use Rattle.model.specs.SetCalls.{set_insert, set_get, set_contains, set_remove}
use Rattle.model.specs.ListCalls.{Column, list_tests, Lists}
use Rattle.model.specs.CursorCalls.{cursor_open_lower, cursor_open_upper, cursor_next, cursor_prev, cursor_peek_next, cursor_peek_prev, cursor_write_next, cursor_write_prev, cursor_insert_after, cursor_remove_next, Closes}
use Rattle.model.specs.Playback.{Plays}

-- ---- what an answer counts for: 1 or 0; a refusal counts for nothing

-- no value before
abbrev pub is_new : Outcome (Option ℕ) → ℕ
is_new (refused n) = 0
is_new (answered none) = 1
is_new (answered (some v)) = 0

-- what was there
abbrev pub is_there : {A : Type 0} → Outcome (Option A) → ℕ
is_there (refused n) = 0
is_there (answered none) = 0
is_there (answered (some a)) = 1

abbrev pub is_yes : Outcome Bool → ℕ
is_yes (refused n) = 0
is_yes (answered true) = 1
is_yes (answered false) = 0

abbrev pub is_done : Outcome (Unit {0}) → ℕ
is_done (refused n) = 0
is_done (answered a) = 1

-- ---- one call on the pool of a season: from words w to others, with the new entries accepted and those removed

pub data Use (w : List ℕ) : List ℕ → ℕ → ℕ → Type 0 where
  -- calls that begin anew (below), where they are refused
  by_make : {v : List ℕ} (kind n : ℕ) → Makes kind w v (refused n) → Use w v 0 0
  by_clear : {v : List ℕ} (n : ℕ) → Clears w v (refused n) → Use w v 0 0
  by_copy_in : {v : List ℕ} (source : List ℕ) (n : ℕ) → Copies source w v (refused n) → Use w v 0 0
  -- a pool of either kind; check, copying out and lists are lent the words to be read, so they stay
  by_copy_out : (destination after : List ℕ) (r : Outcome (Unit {0})) → Copies w destination after r → Use w w 0 0
  by_check : (r : Bool) → Checks w r → Use w w 0 0
  by_count : {v : List ℕ} (r : Outcome ℕ) → Counts w v r → Use w v 0 0
  by_is_empty : {v : List ℕ} (r : Outcome Bool) → TellsEmpty w v r → Use w v 0 0
  -- a map
  by_insert : {v : List ℕ} (k x : ℕ) (r : Outcome (Option ℕ)) → Meets (map_insert k x) w v r → Use w v (is_new r) 0
  by_get : {v : List ℕ} (k : ℕ) (r : Outcome Found) → Meets (map_get k) w v r → Use w v 0 0
  by_contains : {v : List ℕ} (k : ℕ) (r : Outcome Seen) → Meets (map_contains k) w v r → Use w v 0 0
  by_replace : {v : List ℕ} (k x : ℕ) (r : Outcome (Option ℕ)) → Meets (map_replace k x) w v r → Use w v 0 0
  by_remove : {v : List ℕ} (k : ℕ) (r : Outcome (Option ℕ)) → Meets (map_remove k) w v r → Use w v 0 (is_there r)
  -- a set
  by_set_insert : {v : List ℕ} (k : ℕ) (r : Outcome Bool) → Meets (set_insert k) w v r → Use w v (is_yes r) 0
  by_set_get : {v : List ℕ} (k : ℕ) (r : Outcome Found) → Meets (set_get k) w v r → Use w v 0 0
  by_set_contains : {v : List ℕ} (k : ℕ) (r : Outcome Seen) → Meets (set_contains k) w v r → Use w v 0 0
  by_set_remove : {v : List ℕ} (k : ℕ) (r : Outcome Bool) → Meets (set_remove k) w v r → Use w v 0 (is_yes r)
  -- lists of either
  by_list : (kind lower from upper to : ℕ) (cs : List Column) (r : Outcome ℕ) → Lists (list_tests kind lower upper w) (bound_of lower from) (bound_of upper to) w cs r
      → Use w w 0 0
  -- the cursor
  by_open_lower : {v : List ℕ} (kind k : ℕ) (r : Outcome ℕ) → Meets (cursor_open_lower kind k) w v r → Use w v 0 0
  by_open_upper : {v : List ℕ} (kind k : ℕ) (r : Outcome ℕ) → Meets (cursor_open_upper kind k) w v r → Use w v 0 0
  by_next : {v : List ℕ} (r : Outcome (Option Entry)) → Meets cursor_next w v r → Use w v 0 0
  by_prev : {v : List ℕ} (r : Outcome (Option Entry)) → Meets cursor_prev w v r → Use w v 0 0
  by_peek_next : {v : List ℕ} (r : Outcome (Option Entry)) → Meets cursor_peek_next w v r → Use w v 0 0
  by_peek_prev : {v : List ℕ} (r : Outcome (Option Entry)) → Meets cursor_peek_prev w v r → Use w v 0 0
  by_write_next : {v : List ℕ} (x : ℕ) (r : Outcome (Option ℕ)) → Meets (cursor_write_next x) w v r → Use w v 0 0
  by_write_prev : {v : List ℕ} (x : ℕ) (r : Outcome (Option ℕ)) → Meets (cursor_write_prev x) w v r → Use w v 0 0
  by_insert_after : {v : List ℕ} (k x : ℕ) (r : Outcome (Unit {0})) → Meets (cursor_insert_after k x) w v r → Use w v (is_done r) 0
  by_remove_next : {v : List ℕ} (r : Outcome (Option Entry)) → Meets cursor_remove_next w v r → Use w v 0 (is_there r)
  by_close : {v : List ℕ} (r : Outcome (Unit {0})) → Closes w v r → Use w v 0 0
  by_play : {v : List ℕ} (cs : List Column) (r : Outcome ℕ) → Plays w v cs r → Use w v 0 0

-- ---- a season

-- the number of entries
abbrev pub number_in : List ℕ → ℕ
number_in w = length (held_by (pool_of w))

-- of a pool of geometry γ and P pages. It begins, and begins again, where make or clear is accepted, whatever the words
-- were, or a copy of a sound pool is taken in, which brings its geometry, and whose entries count as accepted
pub data Season (γ : Geometry) (P : ℕ) : ℕ → ℕ → List ℕ → Type 0 where
  after_make : {w v : List ℕ} (kind : ℕ) → γ ≡ today → length w ≡ first_word γ P → Makes kind w v (answered tt) → Season γ P 0 0 v
  after_clear : {w v : List ℕ} → geometry_of w ≡ γ → length w ≡ first_word γ P → Clears w v (answered tt) → Season γ P 0 0 v
  after_copy : {w v : List ℕ} (source : List ℕ) → geometry_of source ≡ γ → length w ≡ first_word γ P → Sound source → Copies source w v (answered tt) → Season γ P (number_in source) 0 v
  after_use : {w v : List ℕ} {accepted removed a r : ℕ} → Season γ P accepted removed w → Use w v a r → Season γ P (accepted + a) (removed + r) v

-- ---- what holds at each moment, in the words of demand 3: n entries on h levels

pub record Demand (γ : Geometry) (P accepted removed : ℕ) (w : List ℕ) : Type 0 where
  pub sound : Sound w
  -- a pool of that geometry and P pages
  pub geometry : geometry_of w ≡ γ
  pub pages : length w ≡ first_word γ P
  -- the entries number those accepted less those removed
  pub entries : number_in w + removed ≡ accepted
  -- pages reached from the root are each reached once
  pub once : (p : ℕ) (one other : List ℕ) → Reached w one p → Reached w other p → one ≡ other
  -- and are exactly those marked taken
  pub marked : (p : ℕ) (route : List ℕ) → Reached w route p → bit_at (map_of w) p ≡ 1
  pub reached : (p : ℕ) → bit_at (map_of w) p ≡ 1 → (route : List ℕ) × Reached w route p
  -- all leaves equally deep
  pub level : (p : ℕ) (route : List ℕ) → Reached w route p → height_of (page_of w p) ≡ 0 → suc (length route) ≡ levels_word w
  -- 2·(m+1)^(h−1) ≤ n+1, with n ≥ 1: 2·5^(h−1), where m is 4
  pub deep : 1 ≤ number_in w → 2 * suc γ.least ^ pred (levels_word w) ≤ number_in w + 1
  -- no insert is refused for room while n ≤ mP: 4P
  pub room : number_in w ≤ γ.least * P → (k x : ℕ) (v : List ℕ)
      → (Meets (map_insert k x) w v (refused 7) → ⊥) × (Meets (set_insert k) w v (refused 7) → ⊥) × (Meets (cursor_insert_after k x) w v (refused 7) → ⊥)
