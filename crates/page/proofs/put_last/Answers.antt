-- `page::put_last` meets its contract: `lengthen` or `widen` where the test says so.
use mathlib.Core.Path.{◌≡◌, sym, ◌∙◌}
use mathlib.Core.Bool.{true}
use Rattle.model.specs.Page.{count_of, entries_of, children_of}
use Rattle.page.specs.Node.{more}
use Rattle.page.specs.Page.{plain, said, room_at}
use Rattle.page.proofs.Pages.{behind-facts, changes-done}
use Rattle.page.proofs.put_last.Goals as goal
use Rattle.page.proofs.put_last.Goals.{Else-not-has_room}

passed : (c : Else-not-has_room) → let a = c.args in room_at a.most a.page.now a.slot a.at ≡ true
passed c = sym c.has_room.ensures ∙ c.if-not-has_room.false

pub returns-then-slot-n : goal.returns-then-slot-n
unfolding entries_of children_of
returns-then-slot-n c =
    let a = c.args in
    let b = behind-facts (count_of a.page.now) a.slot a.at c.if-slot-n.true in
    changes-done {x = more a.slot (plain a.entry) a.at a.child (said a.most a.page.now)} (passed (goal.at.returns-then-slot-n c).Else-not-has_room) (rw (b.0, b.1) c.lengthen.ensures)

pub returns-else-slot-n : goal.returns-else-slot-n
unfolding entries_of children_of
returns-else-slot-n c =
    let a = c.args in
    changes-done {x = more a.slot (plain a.entry) a.at a.child (said a.most a.page.now)} (passed (goal.at.returns-else-slot-n c).Else-not-has_room) c.widen.ensures
