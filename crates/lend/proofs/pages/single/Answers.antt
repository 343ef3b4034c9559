-- `pages::single` meets its contract: what `page::single` says of the page, said of the pool.
use Rattle.page.specs.Page.{plain}
use Rattle.model.specs.Standing.{Holds}
use Rattle.page.specs.Node.{alone}
use Rattle.lend.specs.Pages.{most}
use Rattle.lend.proofs.Lent.{lent-only, lent-said}
use Rattle.lend.proofs.pages.single.Goals as goal

pub returns : goal.returns
returns c =
    let a = c.args in
    let m = c.single in record { holds = lent-said a.pool.now a.p m.new.page c.requires m.auto.page (λ _ page. Holds most a.height (alone (plain a.entry) a.left a.right) page) m.ensures; only_pages = lent-only a.pool.now a.p m.new.page c.requires m.auto.page }
