-- `page::widen` meets its contract: the keys, the values and, above the leaves, the children have one more.
use Prim.Native.Nat.{◌-◌}
use native.Mathlib.Omega.{arith}
use Rattle.page.proofs.Pages.{above-done, leaf-left, widened}
use Rattle.page.proofs.widen.Goals as goal
use Rattle.page.proofs.widen.Goals.{then-page-ne0, else-page-ne0}

pub returns : goal.returns
returns c =
    widened c.args.most (c.args.most - 1) c.args.most c.args.n c.args.slot c.args.entry.key c.args.entry.value c.args.at c.args.child c.requires.0 (omega arith) c.requires.2 c.requires.3
    c.push_at.ensures c.push_at-2.ensures
    (elim c.if-page-ne0.branch [
      | then-page-ne0 w ↦ above-done w.push_at-then-page-ne0.ensures w.page-is
      | else-page-ne0 w ↦ leaf-left w.if-page-ne0.false w.page-is
    ])
