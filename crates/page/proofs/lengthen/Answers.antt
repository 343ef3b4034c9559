-- `page::lengthen` meets its contract: the keys, the values and, above the leaves, the children have one more behind
-- the last.
use mathlib.Core.Path.{◌≡◌}
use Prim.Native.Nat.{suc, ◌+◌}
use native.Mathlib.Numerals.{add-one}
use native.Mathlib.Omega.{arith}
use Rattle.page.proofs.Pages.{above-done, leaf-left, widened}
use Rattle.page.proofs.lengthen.Goals as goal
use Rattle.page.proofs.lengthen.Goals.{then-page-ne0, else-page-ne0}

pub returns : goal.returns
returns c =
    let n = c.args.n in
    let behind : n + 1 ≡ suc n = add-one n in
    widened c.args.most n (suc n) n n c.args.entry.key c.args.entry.value (suc n) c.args.child c.requires.0 (omega arith) (omega arith) (omega arith)
    c.put_at.ensures c.put_at-2.ensures
    (elim c.if-page-ne0.branch [
      | then-page-ne0 w ↦ above-done (rw behind at w.put_at-then-page-ne0.ensures) w.page-is
      | else-page-ne0 w ↦ leaf-left w.if-page-ne0.false w.page-is
    ])
