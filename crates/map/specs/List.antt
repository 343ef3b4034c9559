-- Lists in code: what the lent slices hold once entries are laid over their fronts. A slice that is not asked for is
-- empty, and holds nothing after.
-- Assumes nothing: these are definitions.
use Rattle.std.specs.Prelude.{◌≡◌, List, ◌++◌, map, ℕ, suc, min, drop, length, take, Result, Ok, Err, None}
use Rattle.model.specs.Tree.{Entry, entries}
use Rattle.model.specs.Bound.{Bound}
use Rattle.model.specs.Entries.{gap_of, between}
use Rattle.model.specs.Pool.{held_by, pool_of}
use Rattle.model.specs.Sound.{Sound}
use Rattle.model.specs.Refusal.{Test, refusal}
use Rattle.model.specs.Call.{refused}
use Rattle.tree.specs.declared.search.Aim.{Aim}
use Rattle.tree.specs.Sits.{OnPath}
use Rattle.tree.specs.Search.{aimed}
use Rattle.map.specs.declared.refusal.Refusal.{Refusal}
use Rattle.map.specs.declared.refusal.Refusal.TheVariants as reason
use Rattle.map.specs.Answers.{outcome_of, itself}
use Rattle.tree.specs.Steps.{Step}

-- a slice with as much of `front` at its front as it has room for
unfoldable pub laid : List ℕ → List ℕ → List ℕ
laid front slice = take (length slice) front ++ drop (length front) slice

-- a list that ends with no further entry, after n
pub record Stops (s : Step) (n : ℕ) (r : Result ℕ Refusal) : Type 0 where
  pub wrote : s ≡ Ok None → r ≡ Ok n
  pub stops : (e : Refusal) → r ≡ Err e → (e ≡ reason.Unsound) × (n ≡ 0)

-- what every list promises on any words
pub record Tells (ks vs ks' vs' : List ℕ) (r : Result ℕ Refusal) : Type 0 where
  pub keys : length ks' ≡ length ks
  pub values : length vs' ≡ length vs
  pub kept : (e : Refusal) → r ≡ Err e → (ks' ≡ ks) × (vs' ≡ vs)

-- the slices hold the entries `es`
pub record ColumnsHold (es : List Entry) (ks vs ks' vs' : List ℕ) (r : Result ℕ Refusal) : Type 0 where
  pub wrote : r ≡ Ok (length es)
  pub keys : ks' ≡ laid (map (λ e. e.key) es) ks
  pub values : vs' ≡ laid (map (λ e. e.value) es) vs

-- the leading entries that come before the gap of `upper`, at most n
abbrev pub front : Aim → ℕ → List Entry → List Entry
front upper n es = take (min n (gap_of (aimed upper) es)) es

-- along the path of a gap
pub record Runs (w : List ℕ) (upper : Aim) (ps ss : List ℕ) (n : ℕ) (ks vs ks' vs' : List ℕ) (r : Result ℕ Refusal) : Type 0 where
  pub tells : Tells ks vs ks' vs' r
  pub late : (e : Refusal) → r ≡ Err e → e ≡ reason.Unsound
  pub exact : OnPath w ps ss (λ h t g. ColumnsHold (front upper n (drop g (entries h t))) ks vs ks' vs' r)

-- from the gap of `lower`
pub record Spans (w : List ℕ) (lower upper : Aim) (n : ℕ) (ks vs ks' vs' : List ℕ) (r : Result ℕ Refusal) : Type 0 where
  pub tells : Tells ks vs ks' vs' r
  pub late : (e : Refusal) → r ≡ Err e → e ≡ reason.Unsound
  pub exact : Sound w → let es = held_by (pool_of w) in ColumnsHold (front upper n (drop (gap_of (aimed lower) es) es)) ks vs ks' vs' r

-- between two bounds, where no test refuses
pub record Fills (tests : List Test) (low high : Bound) (w : List ℕ) (n : ℕ) (ks vs ks' vs' : List ℕ) (r : Result ℕ Refusal) : Type 0 where
  pub tells : Tells ks vs ks' vs' r
  pub early : (m : ℕ) → refusal tests ≡ suc m → outcome_of itself r ≡ refused (suc m)
  pub late : (m : ℕ) → refusal tests ≡ 0 → outcome_of itself r ≡ refused m → m ≡ 9
  pub exact : Sound w → refusal tests ≡ 0 → ColumnsHold (take n (between low high (held_by (pool_of w)))) ks vs ks' vs' r
