-- `page::narrow` meets its contract: the keys, the values and, above the leaves, the children have one less.
use Rattle.page.proofs.Pages.{above-done, leaf-left, narrowed}
use Rattle.page.proofs.narrow.Goals as goal
use Rattle.page.proofs.narrow.Goals.{then-page-ne0, else-page-ne0}

pub returns : goal.returns
returns c =
    narrowed c.args.most c.args.n c.args.slot c.args.at c.requires.0 c.requires.1 c.requires.2 c.requires.3 c.pull_at.ensures c.pull_at-2.ensures
    (elim c.if-page-ne0.branch [
      | then-page-ne0 w ↦ above-done w.pull_at-then-page-ne0.ensures w.page-is
      | else-page-ne0 w ↦ leaf-left w.if-page-ne0.false w.page-is
    ])
