-- `page::runs::push_in` meets its contract. The invariant: without the word at `max at i`, which is not wanted any
-- more, there are the words of before but for the last.
use mathlib.Core.Path.{◌≡◌, ap, ◌∙◌}
use mathlib.Core.List.{List}
use Prim.Native.Nat.{ℕ, ◌-◌, max}
use native.Mathlib.Omega.{arith}
use lib.ListN.{length}
use borrow.Author.Rules.{rules}
use Rattle.model.specs.Basics.{ins, del}
use Rattle.page.proofs.Running.{up_turn, del-last, set-ins}
use Rattle.page.proofs.runs.push_in.Goals as goal

pub loop-i-init : goal.loop-i-init
loop-i-init c =
    let a = c.args in
    let n = length a.s.now - 1 in
    let last : max a.at n ≡ n = omega arith in
    ap (λ (m : ℕ). del m a.s.now) last ∙ del-last a.s.now n (omega arith)

pub loop-i-preserved : goal.loop-i-preserved
loop-i-preserved c =
    let l = c.loop-i in
    up_turn l.s c.args.at (l.i - 1) 0 (omega arith) (omega (arith, l.auto.s)) ∙ l.invariant

pub returns : goal.returns
returns c =
    let l = c.loop-i in
    let a = c.args in
    let place : max a.at (l.i - 1) ≡ a.at = omega arith in
    set-ins l.s a.at a.v (search rules) ∙ ap (λ (r : List ℕ). ins a.at a.v r) (rw place at l.invariant)
