-- `pages::page_at` meets its contract: the part is the page.
use mathlib.Core.Path.{ap, ◌∙◌}
use lib.ListN.{length}
use Rattle.lend.proofs.Lent.{page-long, lent-page}
use Rattle.lend.proofs.pages.page_at.Goals as goal

pub returns : goal.returns
returns c =
    let w = c.args.pool.now in
    let p = c.args.p in
    record { result_value = lent-page w p; result_len = ap length (lent-page w p) ∙ page-long w p c.requires }
