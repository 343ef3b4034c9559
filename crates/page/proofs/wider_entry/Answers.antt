-- `page::wider_entry` meets its contract: below the slot, at it and after it.
use mathlib.Core.Path.{sym, ◌∙◌}
use borrow.Author.Rules.{rules}
use Rattle.model.specs.Tree.{no_entry}
use Rattle.model.specs.Page.{count_of, entry_in, entries_of}
use Rattle.page.specs.Page.{plain}
use Rattle.page.proofs.Splitting.{wider-before, wider-here, wider-after}
use Rattle.page.proofs.wider_entry.Goals as goal

pub returns-then-i-slot : goal.returns-then-i-slot
unfolding entries_of
returns-then-i-slot c =
    let a = c.args in
    let page = a.page.now in
    c.entry_at.ensures ∙ sym (wider-before (count_of page) (entry_in a.most page) a.slot (plain a.entry) no_entry (search rules) a.i (search rules))

pub returns-then-i-slot-2 : goal.returns-then-i-slot-2
unfolding entries_of
returns-then-i-slot-2 c =
    let a = c.args in
    let page = a.page.now in
    sym (wider-here (count_of page) (entry_in a.most page) a.slot (plain a.entry) no_entry (search rules) a.i c.if-i-slot-2.true)

pub returns-else-i-slot-2 : goal.returns-else-i-slot-2
unfolding entries_of
returns-else-i-slot-2 c =
    let a = c.args in
    let page = a.page.now in
    c.entry_at-else-i-slot-2.ensures ∙ sym (wider-after (count_of page) (entry_in a.most page) a.slot (plain a.entry) no_entry (search rules) a.i (search rules) (search rules))
