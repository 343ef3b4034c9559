-- `page::runs::pull_out` meets its contract. The invariant: without the word at `max at i`, which is not wanted any
-- more, there is what was to be made.
use mathlib.Core.Path.{◌≡◌, refl, sym, ap, ap₂, ◌∙◌}
use mathlib.Core.List.{◌++◌}
use Prim.Native.Nat.{ℕ, ◌-◌, max}
use native.Mathlib.Omega.{arith}
use lib.ListN.{length, take-append-drop}
use lib.Seq.{drop-set-lt}
use borrow.Author.Rules.{rules}
use Rattle.model.specs.Basics.{del}
use Rattle.page.proofs.Running.{down_turn, del-last}
use Rattle.page.proofs.runs.pull_out.Goals as goal

pub loop-i-init : goal.loop-i-init
loop-i-init c =
    let a = c.args in
    let place : max a.at 0 ≡ a.at = omega arith in
    (ap (λ (m : ℕ). del m a.s.now) place, refl)

pub loop-i-preserved : goal.loop-i-preserved
loop-i-preserved c =
    let l = c.loop-i in
    let a = c.args in
    let n = length a.s.now - 1 in
    (down_turn l.s a.at l.i 0 (omega (arith, l.auto.s)) ∙ l.invariant.0, drop-set-lt n l.s l.i _ (search rules) ∙ l.invariant.1)

pub returns : goal.returns
returns c =
    let l = c.loop-i in
    let a = c.args in
    let n = length a.s.now - 1 in
    let last : max a.at l.i ≡ n = omega arith in
    sym (take-append-drop n l.s) ∙ ap₂ ◌++◌ (sym (del-last l.s n (omega arith)) ∙ (rw last at l.invariant.0)) l.invariant.1
