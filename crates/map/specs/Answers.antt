-- What an answer of a call says in the model's terms: document 01's number for each refusal, and the value of every
-- other answer. The promises speak of answers through these.
-- Assumes nothing: these are definitions.
use Rattle.std.specs.Prelude.{ℕ, Option, Some, None, Result, Ok, Err}
use Rattle.std.proofs.Math.Option as model
use Rattle.std.proofs.Math.Option.{none, some}
use Rattle.model.specs.Search.{Found, Seen}
use Rattle.model.specs.Call.{Outcome, refused, answered}
use Rattle.map.specs.declared.Got.{Got}
use Rattle.map.specs.declared.Seen.{Seen as SeenBy}
use Rattle.map.specs.declared.refusal.Refusal.{Refusal}
use Rattle.map.specs.declared.refusal.Refusal.TheVariants as refusal

-- ---- document 01, "Numbers a caller can be given"

abbrev pub number_of : Refusal → ℕ
number_of refusal.Unfit = 1
number_of refusal.OtherKind = 2
number_of refusal.BadBound = 3
number_of refusal.Opened = 4
number_of refusal.Closed = 5
number_of refusal.Misplaced = 6
number_of refusal.NoRoom = 7
number_of refusal.Lengths = 8
number_of refusal.Unsound = 9

-- 0 for no refusal
abbrev pub early_number : {A : Type 0} → Result A Refusal → ℕ
early_number (Ok a) = 0
early_number (Err n) = number_of n

-- ---- an answer, whose value says `say`

abbrev pub outcome_of : {A B : Type 0} → (A → B) → Result A Refusal → Outcome B
outcome_of say (Ok a) = answered (say a)
outcome_of say (Err n) = refused (number_of n)

-- a number, a truth, or nothing says itself
abbrev pub itself : {A : Type 0} → A → A
itself a = a

-- what is there, or none
abbrev pub option_of : {A : Type 0} → Option A → model.Option A
option_of (Some a) = some a
option_of None = none

abbrev pub found_of : Got → Found
found_of g = record { value = option_of g.value; read = g.read }

abbrev pub seen_of : SeenBy → Seen
seen_of s = record { present = s.present; read = s.read }
