-- `insert::run` meets its contract. The loop's invariant: the pages that were counted are full, and belong to the run.
use Rattle.std.proofs.Common.{◌≡◌, length}
use Rattle.tree.proofs.Running.{Counted}
use Rattle.tree.proofs.insert.run.Given as goal

abbrev pub invariant-loop-spot : goal.invariant-loop-spot
invariant-loop-spot l = (l.full ≡ length l.yielded) × Counted l.pool l.path l.full
