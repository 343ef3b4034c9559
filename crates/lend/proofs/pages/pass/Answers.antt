-- `pages::pass` meets its contract: three pages read, and then changed one after the other.
use mathlib.Core.Path.{◌≡◌, sym, ◌∙◌}
use mathlib.Core.Bool.{true}
use Rattle.lend.specs.Pages.{can_pass}
use Rattle.lend.proofs.Several.{pass-done}
use Rattle.lend.proofs.pages.pass.Goals as goal
use Rattle.lend.proofs.pages.pass.Goals.{Else-not-can_pass}

can : (c : Else-not-can_pass) →
    let a = c.args in
    can_pass a.pool.now a.u a.i a.from.page a.from.slot a.from.child a.to.page a.to.slot a.to.child ≡ true
can c = sym c.can_pass.ensures ∙ c.if-not-can_pass.false

pub returns : goal.returns
returns c =
    let a = c.args in
    pass-done a.pool.now a.u a.i a.from.page a.from.slot a.from.child a.to.page a.to.slot a.to.child _ _ _ (can (goal.at.returns c).Else-not-can_pass) c.entry_at-between.ensures c.entry_at-moved.ensures c.child_at-child.ensures
    c.insert.ensures c.set_entry.ensures c.remove.ensures
