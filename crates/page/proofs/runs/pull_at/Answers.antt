-- `page::runs::pull_at` meets its contract: the part that `pull_out` was lent, put back.
use mathlib.Core.Path.{◌≡◌, ◌∙◌}
use Prim.Native.Nat.{◌+◌, ◌-◌}
use native.Mathlib.Omega.{arith}
use lib.ListN.{length}
use borrow.Author.Rules.{rules}
use Rattle.model.specs.Basics.{del}
use Rattle.page.specs.Runs.{part}
use Rattle.model.proofs.Basics.{length-del}
use Rattle.page.proofs.Parts.{lent, shorter, changed, length_part}
use Rattle.page.proofs.runs.pull_at.Goals as goal

pub returns : goal.returns
returns c =
    let a = c.args in
    let size : a.base + a.n - a.base ≡ a.n = omega arith in
    let run = part a.base a.n a.s.now in
    let long : length run ≡ a.n = length_part a.base a.n a.s.now (search rules) in
    changed
    (lent a.base a.s.now size (rw (size, long) at c.pull_out.ensures) ∙ shorter a.base (a.n - 1) a.n (del a.at run) a.s.now (search rules))
    (omega (arith, length-del a.at run (search rules)))
    (search rules)
