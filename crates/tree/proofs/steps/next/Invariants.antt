-- `steps::next` meets its contract. The loop's invariant: what hangs under the pages that are left is at its end.
use Rattle.model.specs.Entries as model
use Rattle.model.specs.Entries.{forth}
use Rattle.tree.proofs.Turning.{Along}
use Rattle.tree.proofs.steps.next.Given as goal

abbrev pub invariant-loop-i : goal.invariant-loop-i
invariant-loop-i l = Along model.next forth l.pool l.initial.path l.path l.i
