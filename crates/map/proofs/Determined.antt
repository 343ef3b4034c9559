-- Each call's promise decides it (model, specs/Agree): no two answers say the same, so any two outcomes of a call, from
-- the same words and arguments, agree. A line for each call.
-- Assumes nothing.
use mathlib.Core.Path.{◌≡◌, refl}
use mathlib.Core.Bool.{Bool}
use mathlib.Core.Option as model
use mathlib.Core.Option.{none, some}
use Prim.Native.Nat.{ℕ}
use Rattle.std.specs.Prelude.{Option, Some, None}
use Rattle.model.specs.Search.{Found, Seen}
use Rattle.model.specs.MapCalls.{map_insert, map_get, map_contains, map_replace, map_remove}
use Rattle.model.specs.SetCalls.{set_insert, set_get, set_contains, set_remove}
use Rattle.model.specs.Agree.{OneToOne, Determined, ExactDetermined, ChecksDetermined, ListsDetermined}
use Rattle.map.specs.declared.Got.{Got}
use Rattle.map.specs.declared.Seen.{Seen as SeenBy}
use Rattle.map.specs.Answers.{outcome_of, itself, option_of, found_of, seen_of}
use Rattle.map.proofs.Answers.{outcome-one-to-one}
use Rattle.model.proofs.Agree.{determined, exact-determined, checks-determined, lists-determined}

-- ---- no two answers say the same

-- a number, a truth, or nothing
pub itself-one-to-one : {A : Type 0} → OneToOne (outcome_of {A = A} {B = A} itself)
itself-one-to-one = outcome-one-to-one itself itself (λ a. refl)

abbrev option_back : {A : Type 0} → model.Option A → Option A
option_back none = None
option_back (some a) = Some a

option-law : {A : Type 0} (o : Option A) → option_back (option_of o) ≡ o
option-law (Some a) = refl
option-law None = refl

pub option-one-to-one : {A : Type 0} → OneToOne (outcome_of (option_of {A = A}))
option-one-to-one = outcome-one-to-one option_of option_back option-law

abbrev found_back : Found → Got
found_back f = record { value = option_back f.value; read = f.read }

found-law : (g : Got) → found_back (found_of g) ≡ g
found-law g = rw option-law

pub found-one-to-one : OneToOne (outcome_of found_of)
found-one-to-one = outcome-one-to-one found_of found_back found-law

abbrev seen_back : Seen → SeenBy
seen_back s = record { present = s.present; read = s.read }

pub seen-one-to-one : OneToOne (outcome_of seen_of)
seen-one-to-one = outcome-one-to-one seen_of seen_back (λ s. refl)

-- ---- a pool of either kind

-- make, clear, copy, and the cursor's close
pub answer-determined : ExactDetermined (outcome_of {A = Unit {0}} {B = Unit {0}} itself)
answer-determined = exact-determined (outcome_of itself) itself-one-to-one

pub check-determined : ChecksDetermined (itself {A = Bool})
check-determined = checks-determined itself (λ r s e. e)

pub count-determined : ExactDetermined (outcome_of {A = ℕ} {B = ℕ} itself)
count-determined = exact-determined (outcome_of itself) itself-one-to-one

pub is-empty-determined : ExactDetermined (outcome_of {A = Bool} {B = Bool} itself)
is-empty-determined = exact-determined (outcome_of itself) itself-one-to-one

-- ---- a map

pub insert-determined : (k v : ℕ) → Determined (map_insert k v) (outcome_of option_of)
insert-determined k v = determined (outcome_of option_of) option-one-to-one (map_insert k v)

pub get-determined : (k : ℕ) → Determined (map_get k) (outcome_of found_of)
get-determined k = determined (outcome_of found_of) found-one-to-one (map_get k)

pub contains-determined : (k : ℕ) → Determined (map_contains k) (outcome_of seen_of)
contains-determined k = determined (outcome_of seen_of) seen-one-to-one (map_contains k)

pub replace-determined : (k v : ℕ) → Determined (map_replace k v) (outcome_of option_of)
replace-determined k v = determined (outcome_of option_of) option-one-to-one (map_replace k v)

pub remove-determined : (k : ℕ) → Determined (map_remove k) (outcome_of option_of)
remove-determined k = determined (outcome_of option_of) option-one-to-one (map_remove k)

-- entries, keys and values of a map, keys of a set
pub list-determined : ListsDetermined (outcome_of itself)
list-determined = lists-determined (outcome_of itself) itself-one-to-one

-- ---- a set

pub set-insert-determined : (k : ℕ) → Determined (set_insert k) (outcome_of itself)
set-insert-determined k = determined (outcome_of itself) itself-one-to-one (set_insert k)

pub set-get-determined : (k : ℕ) → Determined (set_get k) (outcome_of found_of)
set-get-determined k = determined (outcome_of found_of) found-one-to-one (set_get k)

pub set-contains-determined : (k : ℕ) → Determined (set_contains k) (outcome_of seen_of)
set-contains-determined k = determined (outcome_of seen_of) seen-one-to-one (set_contains k)

pub set-remove-determined : (k : ℕ) → Determined (set_remove k) (outcome_of itself)
set-remove-determined k = determined (outcome_of itself) itself-one-to-one (set_remove k)
