-- `pages::give` meets its contract: page `q` holds the first j of the four after each turn.
use Rattle.page.specs.Page.{plain}
use Rattle.lend.proofs.Copied.{Giving}
use Rattle.lend.proofs.pages.give.Given as goal

abbrev pub invariant-loop-j : goal.invariant-loop-j
invariant-loop-j l = Giving l.p l.q l.slot (plain l.entry) l.child l.j l.initial.pool l.pool
