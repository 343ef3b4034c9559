-- `check::walk`: the function's measure is the height; the loop's content is in `Walking`.
use Rattle.tree.proofs.Walking.{Going}
use Rattle.tree.proofs.check.+walk.Given as goal

abbrev pub decreases-walk : goal.decreases-walk
decreases-walk l = l.h

abbrev pub invariant-loop-i : goal.invariant-loop-i
invariant-loop-i l = Going l.pool l.p l.h l.low l.fn.tally l.n l.i l.met
