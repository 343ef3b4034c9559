-- `remove::repair` meets its contract: each answer by the tests that led there.
use Rattle.std.proofs.Common.{◌≡◌, ◌-◌, add-one, arith, rules}
use Rattle.model.specs.Page.{count_of}
use Rattle.lend.specs.Pages.{least, page_in}
use Rattle.tree.specs.Remove.{count_below}
use Rattle.tree.proofs.Planning.{PoorLeft, PoorRight, repair-left, repair-right, repair-last}
use Rattle.tree.proofs.remove.repair.Goals as goal
use Rattle.tree.proofs.remove.repair.Goals.{Joined-else-i-gt0, else-i-gt0-via-then-i-gt0+else-count_below-gt-LEAST, else-i-gt0-via-else-i-gt0, else-i-count-via-then-i-count+else-count_below-gt-LEAST-2, else-i-count-via-else-i-count}

pub returns-then-count_below-gt-LEAST : goal.returns-then-count_below-gt-LEAST
returns-then-count_below-gt-LEAST c =
    let a = c.args in
    repair-left least (count_of (page_in a.pool.now a.u)) (count_below a.pool.now a.u) a.i (a.i - 1) (omega arith) (search rules)

-- the left neighbour has none to give
left-poor : (c : Joined-else-i-gt0) →
    let a = c.args in
    PoorLeft least (count_of (page_in a.pool.now a.u)) (count_below a.pool.now a.u) a.i
left-poor c j e =
    let a = c.args in
    elim c.else-i-gt0.branch [
      | else-i-gt0-via-then-i-gt0+else-count_below-gt-LEAST w ↦
          let place : a.i - 1 ≡ j = omega arith in
          let told = rw place at w.count_below.ensures in
          omega (arith, w.if-count_below-gt-LEAST.false)
      | else-i-gt0-via-else-i-gt0 w ↦ absurd (omega (arith, w.if-i-gt0.false))
    ]

pub returns-then-count_below-gt-LEAST-2 : goal.returns-then-count_below-gt-LEAST-2
returns-then-count_below-gt-LEAST-2 c =
    let a = c.args in
    let told = rw (add-one a.i) at c.count_below-then-i-count.ensures in
    repair-right least (count_of (page_in a.pool.now a.u)) (count_below a.pool.now a.u) a.i (left-poor (goal.at.returns-then-count_below-gt-LEAST-2 c).Joined-else-i-gt0) (search rules) (omega arith)

pub returns : goal.returns
returns c =
    let a = c.args in
    let right-poor : PoorRight least (count_of (page_in a.pool.now a.u)) (count_below a.pool.now a.u) a.i =
    λ h.
    elim c.else-i-count.branch [
      | else-i-count-via-then-i-count+else-count_below-gt-LEAST-2 w ↦
          let told = rw (add-one a.i) at w.count_below-then-i-count.ensures in
          omega (arith, w.if-count_below-gt-LEAST-2.false)
      | else-i-count-via-else-i-count w ↦ absurd (omega (arith, w.if-i-count.false, c.count.ensures))
    ] in
    repair-last least (count_of (page_in a.pool.now a.u)) (count_below a.pool.now a.u) a.i c.saturating_sub.result (search rules)
    (left-poor (goal.at.returns c).Joined-else-i-gt0) right-poor
