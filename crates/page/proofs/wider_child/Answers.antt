-- `page::wider_child` meets its contract: below the place, at it and after it.
use mathlib.Core.Path.{sym, ◌∙◌}
use Prim.Native.Nat.{suc}
use borrow.Author.Rules.{rules}
use Rattle.model.specs.Page.{count_of, child_in, children_of}
use Rattle.page.proofs.Splitting.{wider-before, wider-here, wider-after}
use Rattle.page.proofs.wider_child.Goals as goal

pub returns-then-i-at : goal.returns-then-i-at
unfolding children_of
returns-then-i-at c =
    let a = c.args in
    let page = a.page.now in
    c.child_at.ensures ∙ sym (wider-before (suc (count_of page)) (child_in a.most page) a.at a.child 0 (search rules) a.i (search rules))

pub returns-then-i-at-2 : goal.returns-then-i-at-2
unfolding children_of
returns-then-i-at-2 c =
    let a = c.args in
    let page = a.page.now in
    sym (wider-here (suc (count_of page)) (child_in a.most page) a.at a.child 0 (search rules) a.i c.if-i-at-2.true)

pub returns-else-i-at-2 : goal.returns-else-i-at-2
unfolding children_of
returns-else-i-at-2 c =
    let a = c.args in
    let page = a.page.now in
    c.child_at-else-i-at-2.ensures ∙ sym (wider-after (suc (count_of page)) (child_in a.most page) a.at a.child 0 (search rules) a.i (search rules) (search rules))
