-- `remove::count_below` meets its contract: the child is found, or not.
use mathlib.Core.Path.{sym, ◌∙◌}
use native.Mathlib.Omega.{arith}
use Rattle.tree.proofs.Searching.{below-inside}
use Rattle.tree.proofs.Planning.{count-found, count-lost}
use Rattle.tree.proofs.remove.count_below.Goals as goal

pub count-requires : goal.count-requires
count-requires c =
    omega (arith, (below-inside _ _ _ _ (sym c.child.ensures ∙ c.in-Ok.is)).1)

pub returns-in-Ok : goal.returns-in-Ok
returns-in-Ok c =
    let a = c.args in
    c.count.ensures ∙ sym (count-found a.pool.now a.u a.at _ (sym c.child.ensures ∙ c.in-Ok.is))

pub returns-in-Err : goal.returns-in-Err
returns-in-Err c =
    let a = c.args in
    sym (count-lost a.pool.now a.u a.at (sym c.child.ensures ∙ c.in-Err.is))
