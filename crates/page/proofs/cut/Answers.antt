-- `page::cut` meets its contract: the entry is among those kept, or stands after them.
use native.Mathlib.Numerals.{add-one}
use borrow.Author.Rules.{rules}
use Rattle.page.specs.Page.{plain}
use Rattle.page.proofs.Pages.{full-facts}
use Rattle.page.proofs.Splitting.{cut-among, cut_below}
use Rattle.page.proofs.cut.Goals as goal

pub returns-then-slot-n : goal.returns-then-slot-n
returns-then-slot-n c =
    let a = c.args in
    let f = full-facts a.most a.page.now a.slot c.requires.2 in
    cut-among a.most a.n a.slot (plain a.entry) a.child a.page.now f.0 c.requires.1 (search rules) (rw (add-one a.slot) at c.widen.ensures)

pub returns-else-slot-n : goal.returns-else-slot-n
returns-else-slot-n c =
    let a = c.args in
    let f = full-facts a.most a.page.now a.slot c.requires.2 in
    cut_below a.most a.n a.slot (plain a.entry) a.child a.page.now f.0 c.requires.0 (search rules) f.1
