-- `page::remove` meets its contract: `narrow` where the test says so.
use mathlib.Core.Path.{◌≡◌, sym, ◌∙◌}
use mathlib.Core.Bool.{true}
use Rattle.model.specs.Page.{entries_of, children_of}
use Rattle.page.specs.Node.{less}
use Rattle.page.specs.Page.{said, holds_at}
use Rattle.page.proofs.Pages.{changes-done}
use Rattle.page.proofs.remove.Goals as goal
use Rattle.page.proofs.remove.Goals.{Else-not-holds}

passed : (c : Else-not-holds) → let a = c.args in holds_at a.most a.page.now a.slot a.at ≡ true
passed c = sym c.holds.ensures ∙ c.if-not-holds.false

pub returns : goal.returns
unfolding entries_of children_of
returns c =
    let a = c.args in
    changes-done {x = less a.slot a.at (said a.most a.page.now)} (passed (goal.at.returns c).Else-not-holds) c.narrow.ensures
