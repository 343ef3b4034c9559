-- The source's own words: the view of a map (the value of each key, if it has one) and of a set (whether each key is
-- there), and what it says of sequences. Its clauses are proved of the calls in these words (proofs/SourceMap,
-- SourceSet, SourceList, SourceCursor), and docs/CONTRACTS.md lists them.
-- Assumes nothing: these are definitions.
use Rattle.std.specs.Prelude.{◌≡◌, Bool, true, false, cond, ◌⊎◌, ◌≢◌, List, map, ℕ, pred, ◌≤◌, ◌<◌, eqb, length, get_or}
use Rattle.std.proofs.Math.Option.{Option, none, some}
use Rattle.model.specs.Tree.{Entry}
use Rattle.model.specs.Entries.{has, lookup}
use Rattle.model.specs.Pool.{held_by, pool_of, gap_by}

-- ---- views

abbrev pub view : List ℕ → ℕ → Option ℕ
view w k = lookup k (held_by (pool_of w))

abbrev pub member : List ℕ → ℕ → Bool
member w k = has k (held_by (pool_of w))

-- a view that differs at key k, where it has x: with `some v` the source's `insert` into a map, with `none` its
-- `remove`; with `true` and `false` those of a set
abbrev pub altered : {A : Type 0} → (ℕ → A) → ℕ → A → ℕ → A
altered m k x j = cond (eqb k j) x (m j)

-- the source's `borrowed_key_mutated`
pub record Mutated (before after : ℕ → Option ℕ) (k old new : ℕ) : Type 0 where
  pub first : before k ≡ some old
  pub second : after k ≡ some new
  pub rest : (j : ℕ) → altered before k none j ≡ altered after k none j

-- ---- sequences

-- the source's `increasing_seq`
abbrev pub Increasing : List ℕ → Type 0
Increasing xs = (i j : ℕ) → i < j → j < length xs → get_or xs i 0 < get_or xs j 0

-- the keys, in increasing order: taken as a set the list is the keys, and no key comes twice, so the number of keys is
-- its length
pub record Enumerates (m : ℕ → Bool) (ks : List ℕ) : Type 0 where
  pub increasing : Increasing ks
  pub each : (i : ℕ) → i < length ks → m (get_or ks i 0) ≡ true
  pub all : (k : ℕ) → m k ≡ true → (i : ℕ) × (i < length ks) × (get_or ks i 0 ≡ k)
  pub once : (i j : ℕ) → i < j → j < length ks → get_or ks i 0 ≢ get_or ks j 0

-- taken as a set, the pairs of the key and the value at each place are the map's
pub record Pairing (m : ℕ → Option ℕ) (ks vs : List ℕ) : Type 0 where
  pub long : length vs ≡ length ks
  pub each : (i : ℕ) → i < length ks → m (get_or ks i 0) ≡ some (get_or vs i 0)
  pub all : (k x : ℕ) → m k ≡ some x → (i : ℕ) × (i < length ks) × (get_or ks i 0 ≡ k) × (get_or vs i 0 ≡ x)

-- ---- a cursor: the source's `CursorMutModel` is the keys in order, the map and the position

abbrev pub keys_in : List ℕ → List ℕ
keys_in w = map (λ e. e.key) (held_by (pool_of w))

abbrev pub position : List ℕ → ℕ
position w = gap_by (pool_of w)

-- its `wf`
pub record WellFormed (w : List ℕ) : Type 0 where
  pub within : position w ≤ length (keys_in w)
  pub keys : Enumerates (member w) (keys_in w)

-- its `positioned_at_lower_bound` and `positioned_at_upper_bound`, by the keys that come `before` the bound
pub record Positioned (before : ℕ → Bool) (w : List ℕ) : Type 0 where
  pub front : (i : ℕ) → i < position w → before (get_or (keys_in w) i 0) ≡ true
  pub back : (i : ℕ) → position w ≤ i → i < length (keys_in w) → before (get_or (keys_in w) i 0) ≡ false

-- its `key_fits_at_position`
pub record FitsThere (w : List ℕ) (k : ℕ) : Type 0 where
  pub front : (position w ≡ 0) ⊎ (get_or (keys_in w) (pred (position w)) 0 < k)
  pub back : (position w ≡ length (keys_in w)) ⊎ (k < get_or (keys_in w) (position w) 0)

-- an entry answered: the one at place i
pub record Shown (w : List ℕ) (i : ℕ) (e : Entry) : Type 0 where
  pub there : i < length (keys_in w)
  pub key : e.key ≡ get_or (keys_in w) i 0
  pub value : view w e.key ≡ some e.value

-- the same keys and values, and the position
pub record Moved (w v : List ℕ) (to : ℕ) : Type 0 where
  pub keys : keys_in v ≡ keys_in w
  pub values : (k : ℕ) → view v k ≡ view w k
  pub position : position v ≡ to
