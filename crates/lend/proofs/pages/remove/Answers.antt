-- `pages::remove` meets its contract: what `page::remove` says of the page, said of the pool.
use mathlib.Core.Path.{refl}
use Rattle.page.specs.Node.{less}
use Rattle.page.specs.Page.{said, holds_at}
use Rattle.lend.specs.Pages.{most, node_in}
use Rattle.lend.proofs.Lent.{lent-changes}
use Rattle.lend.proofs.pages.remove.Goals as goal

pub returns : goal.returns
returns c =
    let a = c.args in
    let m = c.remove in
    lent-changes a.pool.now a.p _ c.requires m.auto.page (λ page. holds_at most page a.slot a.at) (λ page. less a.slot a.at (said most page)) (less a.slot a.at (node_in a.pool.now a.p)) refl refl m.ensures
