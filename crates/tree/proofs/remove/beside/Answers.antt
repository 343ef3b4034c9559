-- `remove::beside` meets its contract: each neighbour of a tree that sits in the pool passes.
use Rattle.std.proofs.Common.{◌≡◌, suc, ◌-◌, length, add-one, sym, ◌∙◌, arith}
use Rattle.model.specs.Page.{count_of}
use Rattle.lend.specs.Pages.{page_in}
use Rattle.model.proofs.Cases.{contrary}
use Rattle.tree.proofs.Saying.{root-count}
use Rattle.tree.proofs.Neighbours.{sits-sound}
use Rattle.tree.proofs.remove.beside.Goals as goal

pub returns-then-not-neighbour : goal.returns-then-not-neighbour
returns-then-not-neighbour c low h t s e b =
    let a = c.args in
    contrary (sits-sound a.pool.now low h t s a.u (a.i - 1) e (omega arith)) (sym c.neighbour.ensures ∙ c.if-not-neighbour.true)

pub returns-else-count-i : goal.returns-else-count-i
returns-else-count-i c low h t s e b =
    let a = c.args in
    let n : count_of (page_in a.pool.now a.u) ≡ length t.own = rw e at (root-count a.pool.now (suc h) t s.stands) in
    (rw (add-one a.i) at c.neighbour-else-count-i.ensures)
    ∙ sits-sound a.pool.now low h t s a.u (suc a.i) e (omega (arith, c.if-count-i.false, c.count.ensures))
