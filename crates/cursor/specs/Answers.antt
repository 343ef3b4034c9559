-- What an entry that a cursor call answers says in the model's terms. (The rest of an answer: map's `outcome_of`.)
-- Assumes nothing: these are definitions.
use Rattle.std.specs.Prelude.{Option, Some, None}
use Rattle.std.proofs.Math.Option as model
use Rattle.std.proofs.Math.Option.{none, some}
use Rattle.model.specs.Tree.{Entry, entry}
use Rattle.page.specs.declared.Entry.{Entry as EntryBy}

-- the entry that there is, or none
abbrev pub entry_of : Option EntryBy → model.Option Entry
entry_of (Some e) = some (entry e.key e.value)
entry_of None = none
