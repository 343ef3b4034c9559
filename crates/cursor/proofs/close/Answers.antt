-- `close` meets its contract: words 5 to 7 become 0 wherever the head fits.
use mathlib.Core.Path.{sym, ◌∙◌}
use native.Mathlib.Omega.{arith}
use Rattle.model.proofs.Making.{exact-done}
use Rattle.lend.proofs.Fitting.{head-long}
use Rattle.cursor.proofs.Gaps.{passes-cursor}
use Rattle.cursor.proofs.Edits.{gap-cleared}
use Rattle.cursor.proofs.close.Goals as goal

pub returns : goal.returns
returns c =
    let pass = sym c.in_ok-ready.ensures in
    let long = head-long _ (passes-cursor _ pass).fits in
    exact-done pass (c.clear.ensures ∙ gap-cleared _ (omega arith))
