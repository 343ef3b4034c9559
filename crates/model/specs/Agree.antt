-- Document 01, "What the promises have to decide": any two outcomes that a promise allows, from the same words and
-- arguments, agree. One statement for each shape of promise; what it leaves open is on the list of docs/EXCEPTIONS.md.
-- Assumes nothing: these are definitions.
use Rattle.std.specs.Prelude.{◌≡◌, Bool, true, List, [], ◌∷◌, ℕ, ◌≤◌}
use Rattle.model.specs.Bound.{bound_of}
use Rattle.model.specs.Pool.{pool_of}
use Rattle.model.specs.Sound.{Sound}
use Rattle.model.specs.Alike.{Words, Alike}
use Rattle.model.specs.Refusal.{Test, refusal}
use Rattle.model.specs.Call.{Call, Outcome, refused, Meets, Exact}
use Rattle.model.specs.PoolCalls.{Checks}
use Rattle.model.specs.ListCalls.{Column, list_tests, Lists}
use Rattle.model.specs.CursorCalls.{cursor_tests}
use Rattle.model.specs.Playback.{played, Plays}

-- an answer is read back from what it says: no two say the same
abbrev pub OneToOne : {R B : Type 0} → (R → B) → Type 0
OneToOne {R} of = (r s : R) → of r ≡ of s → r ≡ s

-- r and s are two answers; `Same` says that all that was lent is left the same, `Near` that it is but for the words
-- that document 01 frees; `decided` is when the promise speaks of the answer
pub record Agree {R A : Type 0} (of : R → Outcome A) (early : List Test) (decided : Type 0) (r s : R) (Same Near : Type 0) : Type 0 where
  -- on any words: where lengths, head or arguments refuse the call; and between any two refusals
  pub first : 1 ≤ refusal early → (r ≡ s) × Same
  pub refusals : (n m : ℕ) → of r ≡ refused n → of s ≡ refused m → Same
  -- on a sound pool
  pub answers : decided → r ≡ s
  pub words : decided → Near

-- ---- exact on any words

abbrev pub ExactDetermined : {R A : Type 0} → (R → Outcome A) → Type 0
ExactDetermined {R} {A} of =
    (tests : List Test) (answer : A) (w new v u : List ℕ) (r s : R) → Exact tests answer w new v (of r)
    → Exact tests answer w new u (of s) → (r ≡ s) × (v ≡ u)

abbrev pub ChecksDetermined : {R : Type 0} → (R → Bool) → Type 0
ChecksDetermined {R} of = (w : List ℕ) (r s : R) → Checks w (of r) → Checks w (of s) → r ≡ s

-- ---- a call that is lent one pool; where it promises that nothing changes, no word differs

abbrev pub NearBy : {A : Type 0} → Call A → (w v u : List ℕ) → Type 0
NearBy c w v u = Alike v u × (c.still (pool_of w) ≡ true → v ≡ u)

abbrev pub Determined : {R A : Type 0} → Call A → (R → Outcome A) → Type 0
Determined {R} c of =
    (w v u : List ℕ) (r s : R) → Words v → Words u → Meets c w v (of r) → Meets c w u (of s)
    → Agree of (c.early w) (Sound w) r s (v ≡ u) (NearBy c w v u)

-- ---- lent slices

-- lent the same, and left the same
abbrev pub LentSame : List Column → List Column → Type 0
LentSame [] [] = Unit {0}
LentSame [] (d ∷ ds) = ⊥
LentSame (c ∷ cs) [] = ⊥
LentSame (c ∷ cs) (d ∷ ds) = (c.part ≡ d.part) × (c.before ≡ d.before) × LentSame cs ds

abbrev pub LeftSame : List Column → List Column → Type 0
LeftSame [] ds = Unit {0}
LeftSame (c ∷ cs) [] = Unit {0}
LeftSame (c ∷ cs) (d ∷ ds) = (c.after ≡ d.after) × LeftSame cs ds

-- a list; the pool is lent to be read
abbrev pub ListsDetermined : {R : Type 0} → (R → Outcome ℕ) → Type 0
ListsDetermined {R} of =
    (kind lower from upper to : ℕ) (w : List ℕ) (cs ds : List Column) (r s : R) → LentSame cs ds
    → Lists (list_tests kind lower upper w) (bound_of lower from) (bound_of upper to) w cs (of r)
    → Lists (list_tests kind lower upper w) (bound_of lower from) (bound_of upper to) w ds (of s)
    → Agree of (list_tests kind lower upper w) (Sound w) r s (LeftSame cs ds) (LeftSame cs ds)

abbrev pub PlaysDetermined : {R : Type 0} → (R → Outcome ℕ) → Type 0
PlaysDetermined {R} of =
    (w v u : List ℕ) (cs ds : List Column) (r s : R) → LentSame cs ds → Words v → Words u → Plays w v cs (of r)
    → Plays w u ds (of s)
    → Agree of (cursor_tests w) (Sound w) r s ((v ≡ u) × LeftSame cs ds)
    (Alike v u × (played cs (pool_of w) ≡ [] → v ≡ u) × LeftSame cs ds)
