-- `pages::join` meets its contract: the left page filled, and then the parent changed.
use mathlib.Core.Path.{◌≡◌, sym, ◌∙◌}
use mathlib.Core.Bool.{true}
use Rattle.lend.specs.Pages.{can_join}
use Rattle.lend.proofs.Several.{join-done}
use Rattle.lend.proofs.pages.join.Goals as goal
use Rattle.lend.proofs.pages.join.Goals.{Else-not-can_join}

can : (c : Else-not-can_join) →
    let a = c.args in
    can_join a.pool.now a.u a.i a.l a.r ≡ true
can c = sym c.can_join.ensures ∙ c.if-not-can_join.false

pub returns : goal.returns
returns c =
    let a = c.args in
    join-done a.pool.now a.u a.i a.l a.r _ (can (goal.at.returns c).Else-not-can_join) c.entry_at-between.ensures c.append.ensures.becomes c.append.ensures.only_pages c.remove.ensures
