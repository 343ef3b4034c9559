-- What a caller of an exported function is given: 0 and the answer's words at the front of `out`, or the refusal's
-- number; 255 where `out` is short. `promise` is that of the call below, over what the call says; `kept` is that every
-- slice lent beside `out` is as it was.
-- Assumes nothing: these are definitions.
use Rattle.std.specs.Prelude.{◌≡◌, Bool, List, ℕ, ◌≤◌, ◌<◌, length}
use Rattle.model.specs.Basics.{All}
use Rattle.model.specs.Bound.{bound_of}
use Rattle.model.specs.Call.{Outcome, refused, answered}
use Rattle.model.specs.PoolCalls.{Checks}
use Rattle.model.specs.ListCalls.{Column, fronted, list_tests, Lists}
use Rattle.moorpontoon.specs.Words.{amount}

-- the words that `out` has to have, and the number for fewer
abbrev pub out_words : ℕ
out_words = 4

abbrev pub too_short : ℕ
too_short = 255

module _ {A : Type 0} (words : A → List ℕ) where
  -- the call says r: n is returned, and `out` goes from `before` to `after`
  abbrev pub Gives : Outcome A → (before after : List ℕ) → ℕ → Type 0
  Gives (refused m) before after n = (n ≡ m) × (after ≡ before)
  Gives (answered a) before after n = (n ≡ 0) × (after ≡ fronted (words a) before)

  pub record Exported (promise : Outcome A → Type 0) (kept : Type 0) (before after : List ℕ) (n : ℕ) : Type 0 where
    pub short : length before < out_words → (n ≡ too_short) × (after ≡ before) × kept
    pub told : out_words ≤ length before → (r : Outcome A) × promise r × Gives r before after n

  -- of a call that is lent one pool, or the destination of a copy: it goes from w to v
  abbrev pub Called : (List ℕ → List ℕ → Outcome A → Type 0) → (w v before after : List ℕ) → ℕ → Type 0
  Called promise w v = Exported (promise w v) (v ≡ w)

-- check refuses nothing, and is lent the pool to be read
abbrev pub ChecksOnly : (w v : List ℕ) → Outcome Bool → Type 0
ChecksOnly w v (refused m) = ⊥
ChecksOnly w v (answered b) = Checks w b × (v ≡ w)

-- of a list of a pool of a kind, into lent slices
abbrev pub ListsCalled : (kind lower from upper to : ℕ) → List ℕ → List Column → (before after : List ℕ) → ℕ → Type 0
ListsCalled kind lower from upper to w cs =
    Exported amount (Lists (list_tests kind lower upper w) (bound_of lower from) (bound_of upper to) w cs) (All (λ c. c.after ≡ c.before) cs)
