-- `page::runs::push_at` meets its contract: the part that `push_in` was lent, put back.
use mathlib.Core.Path.{◌≡◌, ap, ◌∙◌}
use mathlib.Core.List.{List}
use Prim.Native.Nat.{ℕ, suc, ◌+◌, ◌-◌}
use native.Mathlib.Omega.{arith}
use lib.ListN.{length}
use borrow.Author.Rules.{rules}
use Rattle.model.specs.Basics.{ins}
use Rattle.page.specs.Runs.{part}
use Rattle.model.proofs.Basics.{length-ins}
use Rattle.page.proofs.Parts.{lent, front, changed, length_part}
use Rattle.page.proofs.runs.push_at.Goals as goal

pub returns : goal.returns
returns c =
    let a = c.args in
    let size : a.base + a.n + 1 - a.base ≡ suc a.n = omega arith in
    let run = part a.base a.n a.s.now in
    let long : length run ≡ a.n = length_part a.base a.n a.s.now (search rules) in
    changed
    (lent a.base a.s.now size (c.push_in.ensures ∙ ap (λ (l : List ℕ). ins a.at a.v l) (front a.base a.n _ a.s.now size (search rules))))
    (length-ins a.at a.v run (search rules) ∙ ap suc long)
    (search rules)
