-- Each call's promise decides it (model, specs/Agree): no two answers say the same, so any two outcomes of a call, from
-- the same words and arguments, agree. A line for each call.
-- Assumes nothing.
use mathlib.Core.Path.{◌≡◌, refl}
use mathlib.Core.Option as model
use mathlib.Core.Option.{none, some}
use Prim.Native.Nat.{ℕ}
use Rattle.model.specs.CursorCalls.{cursor_open_lower, cursor_open_upper, cursor_next, cursor_prev, cursor_peek_next, cursor_peek_prev, cursor_write_next, cursor_write_prev, cursor_insert_after, cursor_remove_next}
use Rattle.model.specs.Agree.{OneToOne, Determined, PlaysDetermined}
use Rattle.std.specs.Prelude.{Option, Some, None}
use Rattle.model.specs.Tree.{Entry}
use Rattle.page.specs.declared.Entry.{Entry as EntryBy}
use Rattle.map.specs.Answers.{outcome_of, itself, option_of}
use Rattle.cursor.specs.Answers.{entry_of}
use Rattle.model.proofs.Agree.{determined, plays-determined}
use Rattle.map.proofs.Answers.{outcome-one-to-one}
use Rattle.map.proofs.Determined.{itself-one-to-one, option-one-to-one}

-- ---- no two answers say the same

abbrev entry_back : model.Option Entry → Option EntryBy
entry_back none = None
entry_back (some e) = Some (record { key = e.key; value = e.value })

entry-law : (o : Option EntryBy) → entry_back (entry_of o) ≡ o
entry-law (Some e) = refl
entry-law None = refl

pub entry-one-to-one : OneToOne (outcome_of entry_of)
entry-one-to-one = outcome-one-to-one entry_of entry_back entry-law

-- ---- the calls

pub open-lower-determined : (kind k : ℕ) → Determined (cursor_open_lower kind k) (outcome_of itself)
open-lower-determined kind k = determined (outcome_of itself) itself-one-to-one (cursor_open_lower kind k)

pub open-upper-determined : (kind k : ℕ) → Determined (cursor_open_upper kind k) (outcome_of itself)
open-upper-determined kind k = determined (outcome_of itself) itself-one-to-one (cursor_open_upper kind k)

pub next-determined : Determined cursor_next (outcome_of entry_of)
next-determined = determined (outcome_of entry_of) entry-one-to-one cursor_next

pub prev-determined : Determined cursor_prev (outcome_of entry_of)
prev-determined = determined (outcome_of entry_of) entry-one-to-one cursor_prev

pub peek-next-determined : Determined cursor_peek_next (outcome_of entry_of)
peek-next-determined = determined (outcome_of entry_of) entry-one-to-one cursor_peek_next

pub peek-prev-determined : Determined cursor_peek_prev (outcome_of entry_of)
peek-prev-determined = determined (outcome_of entry_of) entry-one-to-one cursor_peek_prev

pub write-next-determined : (x : ℕ) → Determined (cursor_write_next x) (outcome_of option_of)
write-next-determined x = determined (outcome_of option_of) option-one-to-one (cursor_write_next x)

pub write-prev-determined : (x : ℕ) → Determined (cursor_write_prev x) (outcome_of option_of)
write-prev-determined x = determined (outcome_of option_of) option-one-to-one (cursor_write_prev x)

pub insert-after-determined : (k x : ℕ) → Determined (cursor_insert_after k x) (outcome_of itself)
insert-after-determined k x = determined (outcome_of itself) itself-one-to-one (cursor_insert_after k x)

pub remove-next-determined : Determined cursor_remove_next (outcome_of entry_of)
remove-next-determined = determined (outcome_of entry_of) entry-one-to-one cursor_remove_next

pub play-determined : PlaysDetermined (outcome_of itself)
play-determined = plays-determined (outcome_of itself) itself-one-to-one
