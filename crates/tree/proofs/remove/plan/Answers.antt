-- `remove::plan` meets its contract.
use Rattle.std.proofs.Common.{◌∙◌, rules}
use Rattle.model.specs.Page.{count_of}
use Rattle.lend.specs.Pages.{least, page_in}
use Rattle.tree.specs.Remove.{count_below}
use Rattle.tree.proofs.Planning.{plan-keep, plan-repair}
use Rattle.tree.proofs.remove.plan.Goals as goal

pub returns-then-count_below-ge-LEAST : goal.returns-then-count_below-ge-LEAST
returns-then-count_below-ge-LEAST c =
    let a = c.args in
    plan-keep least (count_of (page_in a.pool.now a.u)) (count_below a.pool.now a.u) a.i (search rules)

pub returns-else-count_below-ge-LEAST : goal.returns-else-count_below-ge-LEAST
returns-else-count_below-ge-LEAST c =
    let a = c.args in
    c.repair.ensures ∙ plan-repair least (count_of (page_in a.pool.now a.u)) (count_below a.pool.now a.u) a.i (search rules)
