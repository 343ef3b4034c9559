-- Playback in code: how it ends with no further entry. (Its promise: model, Playback.)
-- Assumes nothing: these are definitions.
use Rattle.std.specs.Prelude.{◌≡◌, ℕ, Option, None, Result, Ok, Err}
use Rattle.page.specs.declared.Entry.{Entry}
use Rattle.map.specs.declared.refusal.Refusal.{Refusal}

-- after n entries
pub record PlayStops (s : Result (Option Entry) Refusal) (n : ℕ) (r : Result ℕ Refusal) : Type 0 where
  pub wrote : s ≡ Ok None → r ≡ Ok n
  pub stops : (e : Refusal) → r ≡ Err e → (s ≡ Err e) × (n ≡ 0)
