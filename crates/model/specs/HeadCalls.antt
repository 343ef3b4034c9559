-- What the calls that look at the head alone are by what a sound pool holds: the pool that make and clear leave; count,
-- is-empty and close in the shape of the other calls. Their promises are exact on any words (PoolCalls, CursorCalls),
-- and imply these (proofs/Making, proofs/HeadCalls).
-- Assumes nothing: these are definitions.
use Rattle.std.specs.Prelude.{Bool, false, [], ◌∷◌, ℕ, eqb, length}
use Rattle.model.specs.declared.Geometry.{Geometry}
use Rattle.model.specs.Entries.{shut}
use Rattle.model.specs.Pool.{Pool, held_by, with_cursor}
use Rattle.model.specs.Refusal.{unfit}
use Rattle.model.specs.Call.{Call, reads}
use Rattle.model.specs.CursorCalls.{cursor_tests}

-- a pool just made
abbrev pub made : Geometry → ℕ → ℕ → Pool
made γ P kind = record { geometry = γ; pages = P; kind = kind; whole = record { levels = 0; tree = tt }; cursor = shut }

abbrev pub pool_count : Call ℕ
pool_count = reads (λ w. unfit w ∷ []) (λ p. length (held_by p))

abbrev pub pool_is_empty : Call Bool
pool_is_empty = reads (λ w. unfit w ∷ []) (λ p. eqb (length (held_by p)) 0)

abbrev pub cursor_close : Call (Unit {0})
cursor_close = record { early = cursor_tests; late = λ p. []; answer = λ p. tt; after = λ p. with_cursor p shut; still = λ p. false }
