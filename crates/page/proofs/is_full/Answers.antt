-- `page::is_full` meets its contract: its two tests, in their order.
use borrow.Author.Tests.{eq-eqb, ne_eqb}
use Rattle.model.specs.Page.{count_of}
use Rattle.page.specs.Page.{full_at}
use Rattle.page.proofs.Pages.{last-test}
use Rattle.page.proofs.is_full.Goals as goal

pub returns-then-page-most : goal.returns-then-page-most
unfolding full_at
returns-then-page-most c = let a = c.args in simp (eq-eqb (count_of a.page.now) a.most c.if-page-most.true) (last-test _)

pub returns-else-page-most : goal.returns-else-page-most
unfolding full_at
returns-else-page-most c = let a = c.args in simp (ne_eqb (count_of a.page.now) a.most c.if-page-most.false)
