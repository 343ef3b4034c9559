-- `steps::spot_after` meets its contract. The loop's invariant: the spots that are left give what the whole path gives.
use Rattle.std.specs.Iterator.Adapters.{rev_source}
use Rattle.std.specs.Slice.Iter.{iter_rest}
use Rattle.tree.specs.Steps.{here_after}
use Rattle.tree.proofs.Spots.{Left}
use Rattle.tree.proofs.steps.spot_after.Given as goal

abbrev pub invariant-loop-spot : goal.invariant-loop-spot
invariant-loop-spot l = Left here_after l.pool l.path (iter_rest (rev_source l.spot-iterator))
