-- `page::single` meets its contract: its six stores.
use Rattle.page.proofs.Pages.{alone-holds}
use Rattle.page.proofs.single.Goals as goal

pub returns : goal.returns
returns c =
    let a = c.args in
    alone-holds a.most a.height a.entry.key a.entry.value a.left a.right a.page.now c.requires.0 c.requires.1
