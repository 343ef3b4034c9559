-- `pages::insert` meets its contract: what `page::insert` says of the page, said of the pool.
use mathlib.Core.Path.{refl}
use Rattle.page.specs.Node.{more}
use Rattle.page.specs.Page.{plain, said, room_at}
use Rattle.lend.specs.Pages.{most, node_in}
use Rattle.lend.proofs.Lent.{lent-changes}
use Rattle.lend.proofs.pages.insert.Goals as goal

pub returns : goal.returns
returns c =
    let a = c.args in
    let m = c.insert in
    lent-changes a.pool.now a.p _ c.requires m.auto.page (λ page. room_at most page a.slot a.at) (λ page. more a.slot (plain a.entry) a.at a.child (said most page)) (more a.slot (plain a.entry) a.at a.child (node_in a.pool.now a.p)) refl refl m.ensures
