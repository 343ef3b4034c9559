-- `remove::lower_root` meets its contract: a root without entries is freed, and words 3 and 4 name its one child, or no
-- page.
use mathlib.Core.Path.{◌≡◌, refl, sym, ap, ◌∙◌}
use Prim.Native.Nat.{suc, ◌+◌, ◌-◌}
use native.Mathlib.Numerals.{add-one}
use native.Mathlib.Omega.{arith}
use lib.ListN.{length-set}
use borrow.Author.Rules.{rules}
use Rattle.model.specs.Page.{count_of}
use Rattle.lend.specs.Pages.{page_in}
use Rattle.tree.proofs.Searching.{one-page, below-inside}
use Rattle.tree.proofs.Heads.{lowers-not, lowers-unsound, lowers-done}
use Rattle.tree.proofs.remove.lower_root.Goals as goal
use Rattle.tree.proofs.remove.lower_root.Goals.{Else-count-ne0}

empty : (c : Else-count-ne0) →
    let a = c.args in
    count_of (page_in a.pool.now a.root) ≡ 0
empty c = sym c.count.ensures ∙ c.if-count-ne0.false

pub returns-then-count-ne0 : goal.returns-then-count-ne0
returns-then-count-ne0 c =
    let a = c.args in
    lowers-not a.pool.now a.root a.levels (omega (arith, c.count.ensures, c.if-count-ne0.true))

pub bounds-pool-4 : goal.bounds-pool-4
bounds-pool-4 c = simp length-set (search rules)

pub returns-then-levels-eq1 : goal.returns-then-levels-eq1
returns-then-levels-eq1 c =
    let a = c.args in
    lowers-done a.pool.now a.root a.levels 0 0 (empty (goal.at.returns-then-levels-eq1 c).Else-count-ne0) (omega arith) c.free.ensures (λ _. (refl, refl)) (λ two d here. absurd (omega (arith, c.if-levels-eq1.true)))

pub returns-in_default : goal.returns-in_default
returns-in_default c =
    let a = c.args in
    lowers-unsound a.pool.now a.root a.levels c.if-levels-eq1.false c.child.ensures c.in_default.is

pub overflow_add-pool : goal.overflow_add-pool
overflow_add-pool c =
    let a = c.args in
    let b = (below-inside a.pool.now a.root 0 c.in-Ok.c (sym c.child.ensures ∙ c.in-Ok.is)).1 in
    search rules

pub bounds-pool-4-2 : goal.bounds-pool-4-2
bounds-pool-4-2 c = simp length-set (search rules)

pub returns : goal.returns
returns c =
    let a = c.args in
    lowers-done a.pool.now a.root a.levels (c.in-Ok.c + 1) (a.levels - 1) (empty (goal.at.returns c).Else-count-ne0) (omega arith) c.free-2.ensures
    (λ one. absurd (c.if-levels-eq1.false one))
    (λ two d here. (add-one _ ∙ ap suc (one-page c.in-Ok.is (c.child.ensures ∙ here)), refl))
