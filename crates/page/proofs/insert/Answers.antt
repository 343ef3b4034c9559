-- `page::insert` meets its contract: `widen` where the test says so.
use mathlib.Core.Path.{◌≡◌, sym, ◌∙◌}
use mathlib.Core.Bool.{true}
use Rattle.model.specs.Page.{entries_of, children_of}
use Rattle.page.specs.Node.{more}
use Rattle.page.specs.Page.{plain, said, room_at}
use Rattle.page.proofs.Pages.{changes-done}
use Rattle.page.proofs.insert.Goals as goal
use Rattle.page.proofs.insert.Goals.{Else-not-has_room}

passed : (c : Else-not-has_room) → let a = c.args in room_at a.most a.page.now a.slot a.at ≡ true
passed c = sym c.has_room.ensures ∙ c.if-not-has_room.false

pub returns : goal.returns
unfolding entries_of children_of
returns c =
    let a = c.args in
    changes-done {x = more a.slot (plain a.entry) a.at a.child (said a.most a.page.now)} (passed (goal.at.returns c).Else-not-has_room) c.widen.ensures
