-- `pages::set_entry` meets its contract: what `page::set_entry` says of the page, said of the pool.
use mathlib.Core.Path.{refl}
use Rattle.page.specs.Node.{instead}
use Rattle.page.specs.Page.{plain, said, holds_at}
use Rattle.lend.specs.Pages.{most, node_in}
use Rattle.lend.proofs.Lent.{lent-changes}
use Rattle.lend.proofs.pages.set_entry.Goals as goal

pub returns : goal.returns
returns c =
    let a = c.args in
    let m = c.set_entry in
    lent-changes a.pool.now a.p _ c.requires m.auto.page (λ page. holds_at most page a.slot 0) (λ page. instead a.slot (plain a.entry) (said most page)) (instead a.slot (plain a.entry) (node_in a.pool.now a.p)) refl refl m.ensures
