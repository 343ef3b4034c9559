-- `steps::prev` meets its contract. The loop's invariant: what hangs under the pages that are left is at its end.
use Rattle.model.specs.Entries.{back}
use Rattle.model.specs.Entries as model
use Rattle.tree.proofs.Turning.{Along}
use Rattle.tree.proofs.steps.prev.Given as goal

abbrev pub invariant-loop-i : goal.invariant-loop-i
invariant-loop-i l = Along model.prev back l.pool l.initial.path l.path l.i
