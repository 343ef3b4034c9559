-- Document 01, "The calls", bounds: kind 0 is Included, 1 is Excluded, 2 is Unbounded, the key then ignored. Which keys
-- come before a bound is the source's `before_lower_bound` and `before_upper_bound`.
-- Assumes nothing: these are definitions.
use Rattle.std.specs.Prelude.{Bool, true, false, ℕ, zero, suc, leb, ltb}

pub data Bound : Type 0 where
  included : ℕ → Bound
  excluded : ℕ → Bound
  unbounded : Bound

-- kinds of 3 and more are refused before this is asked
abbrev pub bound_of : ℕ → ℕ → Bound
bound_of zero k = included k
bound_of (suc zero) k = excluded k
bound_of (suc (suc n)) k = unbounded

abbrev pub before_lower : Bound → ℕ → Bool
before_lower (included k) x = ltb x k
before_lower (excluded k) x = leb x k
before_lower unbounded x = false

abbrev pub before_upper : Bound → ℕ → Bool
before_upper (included k) x = leb x k
before_upper (excluded k) x = ltb x k
before_upper unbounded x = true
