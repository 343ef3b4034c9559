-- `pages::keep` meets its contract: what `page::split` says of the page, said of the pool.
use mathlib.Core.Path.{refl}
use Rattle.page.specs.Node.{wider}
use Rattle.page.specs.Page.{plain, said, full_at}
use Rattle.lend.specs.Pages.{most, node_in}
use Rattle.lend.proofs.Lent.{lent-splits}
use Rattle.lend.proofs.pages.keep.Goals as goal

pub returns : goal.returns
returns c =
    let a = c.args in
    let m = c.split in
    lent-splits a.pool.now a.p _ c.requires m.auto.page (λ page. full_at most page a.slot) (λ page. wider a.slot (plain a.entry) a.child (said most page)) (wider a.slot (plain a.entry) a.child (node_in a.pool.now a.p)) refl refl m.ensures
